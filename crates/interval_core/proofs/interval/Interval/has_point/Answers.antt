-- The ends tell what the members tell.
use Rattle.std.proofs.Common.{rules, ◌↔◌, ◌≤ℤ◌, IsTrue}
use Rattle.interval_core.specs.Members.{span}
use Rattle.interval_core.proofs.MembersLemmas.{same_as_has_member}
use Rattle.interval_core.proofs.interval.Interval.has_point.Goals as goal

pub returns-clause-members : goal.returns-clause-members
returns-clause-members g c =
    let i = span g.T.PointType.number_of c.args.self.now in
    let p = g.T.PointType.number_of c.args.p in
    let ends : IsTrue c.is_between.result ↔ ((g.T.PointType.number_of c.args.self.now.0 ≤ℤ p) × (p ≤ℤ g.T.PointType.number_of c.args.self.now.1)) = search rules in
    same_as_has_member i p c.is_between.result ends
