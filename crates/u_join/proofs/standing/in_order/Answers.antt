use Rattle.std.proofs.Common.{rules}
use Rattle.std.specs.Ordering.{is_lt}
use Rattle.std.proofs.lemmas.List.Sorted.{IsPermutation-trans, answers_always, ranks_by}
use Rattle.u_join.specs.RowPairs.{seen, stood_cmp}
use Rattle.u_join.proofs.StandingLemmas.{ascend_from_sorted, stood_total}
use Rattle.u_join.proofs.standing.in_order.Goals as goal

pub returns-clause-moved : goal.returns-clause-moved
returns-clause-moved c = IsPermutation-trans _ _ _ c.arrange.ensures c.in_ok-sort_by.ensures.permutation

pub returns-clause-order : goal.returns-clause-order
returns-clause-order c =
    ascend_from_sorted seen c.sort_by.new.self.items
    (c.in_ok-sort_by.ensures.sorted (λ a b. is_lt (stood_cmp (seen a) (seen b)))
    (ranks_by stood_total seen) (answers_always _ _ _ (λ f a r g' h. search rules)))
