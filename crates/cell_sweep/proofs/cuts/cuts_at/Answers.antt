use Rattle.std.proofs.Common.{subst, sym}
use Rattle.std.proofs.lemmas.List.Sorted.{Contains-permutation, IsNonDecreasingBy-from_sort}
use Rattle.cell_packing.specs.Covering.{Among}
use Rattle.cell_packing.proofs.Order.{among_contains, contains_among}
use Rattle.cell_sweep.proofs.cuts.cuts_at.Goals as goal

pub returns-clause-order : goal.returns-clause-order
returns-clause-order c = λ i j h l. IsNonDecreasingBy-from_sort (λ x. x) c.sort.new.self.items c.in_ok-sort.ensures.sorted i j 0 h l

pub returns-clause-cuts : goal.returns-clause-cuts
returns-clause-cuts c = λ n h.
    let m = subst (Among n) (sym c.in_ok-cuts.ensures) h in
    contains_among c.sort.new.self.items n (Contains-permutation c.in_ok-cuts.cuts.items c.sort.new.self.items n c.in_ok-sort.ensures.permutation (among_contains c.in_ok-cuts.cuts.items n m))
