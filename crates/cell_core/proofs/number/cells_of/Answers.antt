use Rattle.std.proofs.Common.{◌≡◌, ℕ, suc, pos, ◌+ℤ◌, ◌≤ℤ◌, ◌-◌, [], map, replicate, length, get_or, set, arith, subst, sym, ap, refl, ◌∙◌, inr}
use Rattle.std.proofs.lemmas.Int.{ints}
use Rattle.std.proofs.lemmas.List.{length-set, take_all, length-replicate, get_or-replicate}
use Rattle.std.proofs.lemmas.List.Elements.{All-get_or, All-same, All-nil}
use Rattle.cell_core.specs.Numbering.{Rises, IsCellAt}
use Rattle.cell_core.proofs.Numbers.{added_rises, added_points, added_length, added_some, table_step, next_rises, rises_mono}
use Rattle.cell_core.proofs.number.cells_of.Goals as goal

pub loop-x-init : goal.loop-x-init
loop-x-init g c =
    let n = g.T.PointType.number_of in
    let has = g.T.PointType.IsPoint c.args.t.now in
    let top = g.T.PointType.last_number c.args.t.now +ℤ pos 1 in
    let none = c.requires.none in
    let len : length c.args.cuts.now.items ≡ 0 = ap length none in
    let blank : c.in_ok-table.table.items ≡ replicate c.args.count c.args.count = c.in_ok-table.ensures.items_if_clones_equal (λ y e. e) in
    record {
      points = All-same has c.args.cuts.now.items [] none (All-nil has);
      rises = subst (λ xs. Rises (map n xs) top) (sym none) tt;
      next = λ d h. subst (λ xs. Rises (map n xs) (n (get_or c.args.list.now 0 d).0 +ℤ pos 1)) (sym none) tt;
      length = ap length blank ∙ length-replicate c.args.count c.args.count;
      cells = λ tag h. inr (ap (λ ys. get_or ys tag 0) blank ∙ get_or-replicate c.args.count tag c.args.count 0 h, λ k. k);
      count = omega arith;
      cost = omega arith;
    }

pub add-requires-clause-p : goal.add-requires-clause-p
add-requires-clause-p g c =
    let has = g.T.PointType.IsPoint c.args.t.now in
    subst (λ y. has y.0) (sym c.x-item.is) (All-get_or (λ y. has y.0) c.args.list.now c.loop-x.x-index c.x-item.result c.loop-x-test.true c.requires.points)

pub loop-x-preserved : goal.loop-x-preserved
loop-x-preserved g c =
    let n = g.T.PointType.number_of in
    let has = g.T.PointType.IsPoint c.args.t.now in
    let top = g.T.PointType.last_number c.args.t.now +ℤ pos 1 in
    let x = c.x-item.result in
    let i : ℕ = c.loop-x.x-index in
    let old = c.loop-x.cuts.items in
    let new = c.add.new.cuts.items in
    let added = c.in_ok-add.ensures.added in
    let h : has x.0 = subst (λ y. has y.0) (sym c.x-item.is) (All-get_or (λ y. has y.0) c.args.list.now i x c.loop-x-test.true c.requires.points) in
    let w : n x.0 ≤ℤ g.T.PointType.last_number c.args.t.now = (g.met.T.PointType.within c.args.t.now x.0 h).1 in
    let next : Rises (map n old) (n x.0 +ℤ pos 1) = subst (λ y. Rises (map n old) (n y.0 +ℤ pos 1)) (sym c.x-item.is) (c.loop-x.invariant.next x c.loop-x-test.true) in
    let r : Rises (map n new) (n x.0 +ℤ pos 1) = added_rises n x.0 old new added next in
    let some = added_some n x.0 old new added in
    let len = added_length n x.0 old new added in
    let longer = len.0 in
    let shorter = len.1 in
    let count = c.loop-x.invariant.count in
    let spent = c.loop-x.invariant.cost in
    let z : ℕ = c.len.result - 1 in
    let e : suc z ≡ length new = omega (arith, c.len.ensures) in
    record {
      points = added_points n has x.0 old new added h c.loop-x.invariant.points;
      rises = rises_mono (map n new) (n x.0 +ℤ pos 1) top (omega (arith, ints)) r;
      next = λ d l. next_rises n c.args.list.now i x d (map n new) c.requires.order l c.x-item.is r;
      length = length-set c.loop-x.table.items x.1 z ∙ c.loop-x.invariant.length;
      cells = table_step n x old new top c.args.list.now i c.args.count c.args.count z c.loop-x.table.items (set c.loop-x.table.items x.1 z) added e c.loop-x-test.true c.x-item.is c.loop-x.invariant.length refl c.loop-x.invariant.cells;
      count = omega arith;
      cost = omega arith;
    }

pub returns-clause-cells : goal.returns-clause-cells
returns-clause-cells g c = λ tag h.
    let n = g.T.PointType.number_of in
    let top = g.T.PointType.last_number c.args.t.now +ℤ pos 1 in
    subst (λ ys. IsCellAt n c.loop-x.cuts.items top c.args.count ys tag (get_or c.loop-x.table.items tag 0)) (take_all c.loop-x.x-index c.args.list.now c.loop-x-test.false) (c.loop-x.invariant.cells tag h)
