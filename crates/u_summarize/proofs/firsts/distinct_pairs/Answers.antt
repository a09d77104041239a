use Rattle.u_summarize.proofs.FirstLemmas.{pairs_from_sort}
use Rattle.u_summarize.proofs.firsts.distinct_pairs.Goals as goal

pub returns : goal.returns
returns c = pairs_from_sort c.args.pairs.items c.sort.new.self.items c.dedup.new.self.items c.sort.ensures.permutation c.in_ok-sort.ensures.sorted c.dedup.ensures.filtered
