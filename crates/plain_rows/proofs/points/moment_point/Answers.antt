use Rattle.std.proofs.Common.{◌≡◌, w64, to_z, of_z, arith}
use Rattle.std.proofs.lemmas.Int.{ints, to_z-of_z}
use Rattle.plain_rows.proofs.IntervalLemmas.{moment-point}
use Rattle.plain_rows.proofs.points.moment_point.Goals as goal

pub returns-clause-begins : goal.returns-clause-begins
returns-clause-begins c types =
    let point = c.in_ok-second.ensures.point in
    let e : to_z w64 (of_z w64 c.in_ok-second.second.number) ≡ c.in_ok-second.second.number = grind (arith, ints, to_z-of_z, point) in
    moment-point _ _ _ _ e c.in_ok-second.ensures.moment
