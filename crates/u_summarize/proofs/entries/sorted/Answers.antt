use Rattle.std.proofs.lemmas.List.Sorted.{IsPermutation-trans}
use Rattle.u_summarize.proofs.entries.sorted.Goals as goal

pub returns-clause-moved : goal.returns-clause-moved
returns-clause-moved c = IsPermutation-trans _ _ _ c.arrange_unordered.ensures c.in_ok-sort.ensures.permutation

pub returns-clause-order : goal.returns-clause-order
returns-clause-order c = c.in_ok-sort.ensures.sorted
