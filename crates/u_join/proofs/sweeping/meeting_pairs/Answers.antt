use Rattle.std.proofs.Common.{ℕ, ◌↔◌, true, List, sym, subst}
use Rattle.cell_packing.specs.Covering.{Among}
use Rattle.u_join.specs.RowPairs.{seen, IsLater}
use Rattle.u_join.proofs.SweepingLemmas.{both_ways}
use Rattle.u_join.proofs.sweeping.meeting_pairs.Goals as goal

pub returns : goal.returns
returns c =
    let left = c.args.left.now in
    let right = c.args.right.now in
    let others = subst (λ (xs : List (ℕ × ℕ)). (p : ℕ × ℕ) → Among p xs ↔ IsLater seen true right left p) (sym c.as_slice.ensures.value) c.in_ok-others.ensures in
    both_ways seen left right c.requires.lefts c.requires.rights c.in_ok-pairs.pairs.items c.as_slice.result.now c.push_turned.new.out.items c.in_ok-push_turned.ensures c.in_ok-pairs.ensures others
