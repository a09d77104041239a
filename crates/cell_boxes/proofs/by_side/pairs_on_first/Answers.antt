use Rattle.std.proofs.Common.{ℕ, ◌↔◌, true, List, sym, subst}
use Rattle.cell_packing.specs.Covering.{Among}
use Rattle.cell_boxes.specs.Meetings.{IsLater}
use Rattle.cell_boxes.proofs.SideLemmas.{both_ways}
use Rattle.cell_boxes.proofs.by_side.pairs_on_first.Goals as goal

pub returns : goal.returns
returns g c =
    let o = g.P.Label.order in
    let left = c.args.left.now in
    let right = c.args.right.now in
    let others = subst (λ (xs : List (ℕ × ℕ)). (p : ℕ × ℕ) → Among p xs ↔ IsLater o true right left p) (sym c.as_slice.ensures.value) c.in_ok-others.ensures in
    both_ways o left right c.in_ok-pairs.pairs.items c.as_slice.result.now c.push_turned.new.out.items c.in_ok-push_turned.ensures c.in_ok-pairs.ensures others
