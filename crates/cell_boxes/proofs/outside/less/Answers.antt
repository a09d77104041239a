use Rattle.std.proofs.Common.{◌≡◌, ℕ, ◌≤◌, length, arith, subst, sym}
use Rattle.std.specs.List.{All}
use Rattle.cell_sweep.specs.Rows.{sides_of}
use Rattle.cell_sweep.specs.declared.inward.IndexBox.{IndexBox}
use Rattle.cell_boxes.specs.Rows.{IsRow}
use Rattle.cell_boxes.proofs.LessLemmas.{IsSplit, all_sides, split_start, split_more, split_grid_points, split_sides, split_ends}
use Rattle.cell_boxes.proofs.outside.less.Goals as goal

pub loop-h-init : goal.loop-h-init
loop-h-init c = split_start c.args.sides.items c.args.holes.now c.args.first c.args.end c.new-done.result.items c.in_ok-pieces.pieces.items c.new-done.ensures.items c.in_ok-pieces.ensures

pub opened-requires : goal.opened-requires
opened-requires c =
    let m = c.index-holes-h.result in
    let row : IsRow c.args.holes.now c.loop-h.h m = (omega arith, sym c.index-holes-h.is) in
    let e = c.requires.same c.loop-h.h m row (omega arith) (omega arith) in
    record { same = subst (λ n. All (λ (x : IndexBox). length x.sides.items ≡ n) c.loop-h.pieces.items) (sym e) (all_sides c.loop-h.pieces.items (length c.args.sides.items) c.loop-h.invariant.sides) }

pub loop-h-preserved : goal.loop-h-preserved
loop-h-preserved c =
    let m = c.index-holes-h.result in
    let h : ℕ = c.loop-h.h in
    let row : IsRow c.args.holes.now h m = (omega arith, sym c.index-holes-h.is) in
    let from : c.args.first ≤ h = omega arith in
    split_more c.args.sides.items c.args.holes.now c.args.first c.args.end h from (omega arith) m row (c.requires.same h m row from (omega arith))
    (λ r n a b d. c.requires.order h r m n row a from b d)
    c.loop-h.done.items c.loop-h.pieces.items c.opened.new.done.items c.in_ok-pieces-2.pieces.items c.in_ok-pieces-2.ensures.done c.in_ok-pieces-2.ensures.next c.loop-h.invariant

pub returns-clause-grid_points : goal.returns-clause-grid_points
returns-clause-grid_points c =
    let e : c.loop-h.h ≡ c.args.end = omega arith in
    split_grid_points c.args.sides.items c.args.holes.now c.args.first c.args.end c.loop-h.done.items c.loop-h.pieces.items c.push_all.new.out.items c.in_ok-push_all.ensures
    (subst (λ n. IsSplit c.args.sides.items c.args.holes.now c.args.first c.args.end n (sides_of c.loop-h.done.items) (sides_of c.loop-h.pieces.items)) e c.loop-h.invariant)

pub returns-clause-lengths : goal.returns-clause-lengths
returns-clause-lengths c =
    let e : c.loop-h.h ≡ c.args.end = omega arith in
    split_sides c.args.sides.items c.args.holes.now c.args.first c.args.end c.loop-h.done.items c.loop-h.pieces.items c.push_all.new.out.items c.in_ok-push_all.ensures
    (subst (λ n. IsSplit c.args.sides.items c.args.holes.now c.args.first c.args.end n (sides_of c.loop-h.done.items) (sides_of c.loop-h.pieces.items)) e c.loop-h.invariant)

pub returns-clause-ends : goal.returns-clause-ends
returns-clause-ends c =
    let e : c.loop-h.h ≡ c.args.end = omega arith in
    split_ends c.args.sides.items c.args.holes.now c.args.first c.args.end c.loop-h.done.items c.loop-h.pieces.items c.push_all.new.out.items c.in_ok-push_all.ensures
    (subst (λ n. IsSplit c.args.sides.items c.args.holes.now c.args.first c.args.end n (sides_of c.loop-h.done.items) (sides_of c.loop-h.pieces.items)) e c.loop-h.invariant)
