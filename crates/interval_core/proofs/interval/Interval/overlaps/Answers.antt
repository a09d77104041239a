-- The ends tell what the members tell.
use Rattle.interval_core.specs.Members.{span}
use Rattle.interval_core.proofs.ComparisonLemmas.{same_as_overlaps}
use Rattle.interval_core.proofs.interval.Interval.overlaps.Goals as goal

pub returns-clause-members : goal.returns-clause-members
returns-clause-members g c =
    same_as_overlaps (span g.T.PointType.number_of c.args.self.now) (span g.T.PointType.number_of c.args.other.now) c.do_overlap.result
    c.numbers.ensures.ordered c.numbers-2.ensures.ordered (rw (c.numbers.ensures.numbers, c.numbers-2.ensures.numbers) at c.do_overlap.ensures)
