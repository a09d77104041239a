use Rattle.value_core.proofs.RelationLemmas.{rows_from_sort}
use Rattle.u_summarize.proofs.ranks.distinct_labels.Goals as goal

pub returns-clause-labels : goal.returns-clause-labels
returns-clause-labels c = (rows_from_sort c.args.labels.items c.sort.new.self.items c.dedup.new.self.items c.sort.ensures.permutation c.in_ok-sort.ensures.sorted c.dedup.ensures.filtered).0

pub returns-clause-sorted : goal.returns-clause-sorted
returns-clause-sorted c = (rows_from_sort c.args.labels.items c.sort.new.self.items c.dedup.new.self.items c.sort.ensures.permutation c.in_ok-sort.ensures.sorted c.dedup.ensures.filtered).1
