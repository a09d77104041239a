use Rattle.u_summarize.proofs.AskedLemmas.{numbers_from_sort}
use Rattle.u_summarize.proofs.firsts.distinct.Goals as goal

pub returns : goal.returns
returns c = numbers_from_sort c.args.numbers.items c.sort.new.self.items c.dedup.new.self.items c.sort.ensures.permutation c.in_ok-sort.ensures.sorted c.dedup.ensures.filtered
