use Rattle.scalar_core.proofs.CutLemmas.{numbers_from_sort}
use Rattle.scalar_core.proofs.cutting.distinct.Goals as goal

pub returns-clause-numbers : goal.returns-clause-numbers
returns-clause-numbers c = (numbers_from_sort c.args.numbers.items c.sort.new.self.items c.dedup.new.self.items c.sort.ensures.permutation c.in_ok-sort.ensures.sorted c.dedup.ensures.filtered).0

pub returns-clause-ascending : goal.returns-clause-ascending
returns-clause-ascending c = (numbers_from_sort c.args.numbers.items c.sort.new.self.items c.dedup.new.self.items c.sort.ensures.permutation c.in_ok-sort.ensures.sorted c.dedup.ensures.filtered).1
