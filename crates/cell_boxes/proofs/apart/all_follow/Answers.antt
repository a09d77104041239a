use Rattle.std.proofs.Common.{◌≡◌, ℕ, ◌+◌, ◌-◌, ◌<◌, arith, subst, sym}
use Rattle.std.proofs.lemmas.Bool.{iff_false}
use Rattle.cell_boxes.specs.Rows.{IsRow}
use Rattle.cell_boxes.proofs.ApartLemmas.{follow_turn}
use Rattle.cell_boxes.proofs.apart.all_follow.Goals as goal

pub loop-i-preserved : goal.loop-i-preserved
loop-i-preserved g c =
    let rows = c.args.rows.now in
    let n : ℕ = c.loop-i.i in
    let u = c.index-rows-i.result in
    let v = c.index-rows-i-in-loop-i.result in
    let some : 0 < n = omega arith in
    let before : IsRow rows (n - 1) u = (omega arith, sym c.index-rows-i.is) in
    let here : IsRow rows n v = (omega arith, sym c.index-rows-i-in-loop-i.is) in
    follow_turn g.P.Label.order g.met.P.Label.total rows c.requires.order c.requires.sides c.requires.cells n u v some before here (c.follows.ensures.0 c.if-not-follows.false) c.loop-i.invariant

pub returns-then-not-follows-clause-no : goal.returns-then-not-follows-clause-no
returns-then-not-follows-clause-no g c = λ f.
    let rows = c.args.rows.now in
    let n : ℕ = c.loop-i.i in
    let u = c.index-rows-i.result in
    let v = c.index-rows-i-in-loop-i.result in
    let some : 0 < n = omega arith in
    let before : IsRow rows (n - 1) u = (omega arith, sym c.index-rows-i.is) in
    let here : IsRow rows n v = (omega arith, sym c.index-rows-i-in-loop-i.is) in
    let e : n ≡ n - 1 + 1 = omega arith in
    (n - 1, u, v, before, subst (λ i. IsRow rows i v) e here, λ h. iff_false c.follows.ensures c.if-not-follows.true h)
