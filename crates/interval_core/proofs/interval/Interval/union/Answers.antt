-- The result ends where one of the two ends or before.
use Rattle.std.proofs.Common.{◌≡◌, ap, arith}
use Rattle.std.proofs.lemmas.Int.{ints, clamps}
use Rattle.interval_core.proofs.interval.Interval.union.Goals as goal

pub of_numbers-requires-clause-last : goal.of_numbers-requires-clause-last
of_numbers-requires-clause-last g c =
    let a = (g.met.T.PointType.within c.args.t.now c.args.self.now.1 c.requires.points.1).1 in
    let b = (g.met.T.PointType.within c.args.t.now c.args.other.now.1 c.requires.other_points.1).1 in
    let e : c.numbers.result.1 ≡ g.T.PointType.number_of c.args.self.now.1 = ap (λ x. x.1) c.numbers.ensures.numbers in
    let f : c.numbers-2.result.1 ≡ g.T.PointType.number_of c.args.other.now.1 = ap (λ x. x.1) c.numbers-2.ensures.numbers in
    let k = c.in_ok-ends.ensures.ends.2 in
    omega (arith, ints, clamps)
