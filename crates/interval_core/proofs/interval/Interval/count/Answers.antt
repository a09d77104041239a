-- The length of the list of members, by the ends.
use Rattle.interval_core.specs.Members.{span}
use Rattle.interval_core.proofs.OperatorLemmas.{count_none, count_some}
use Rattle.interval_core.proofs.interval.Interval.count.Goals as goal

pub returns-clause-none : goal.returns-clause-none
returns-clause-none g c =
    count_none (span g.T.PointType.number_of c.args.self.now) c.how_many.result c.numbers.ensures.ordered
    (rw c.numbers.ensures.numbers at c.how_many.ensures.none)

pub returns-clause-count : goal.returns-clause-count
returns-clause-count g c =
    count_some (span g.T.PointType.number_of c.args.self.now) c.how_many.result c.numbers.ensures.ordered
    (rw c.numbers.ensures.numbers at c.how_many.ensures.some)
