use Rattle.std.proofs.Common.{◌≡◌, w32, to_z, of_z, arith}
use Rattle.std.proofs.lemmas.Int.{ints, to_z-of_z}
use Rattle.plain_rows.proofs.IntervalLemmas.{date-point}
use Rattle.plain_rows.proofs.points.date_point.Goals as goal

pub returns-clause-begins : goal.returns-clause-begins
returns-clause-begins c types =
    let day = c.in_ok-day.ensures.point in
    let e : to_z w32 (of_z w32 c.in_ok-day.day.number) ≡ c.in_ok-day.day.number = grind (arith, ints, to_z-of_z, day) in
    date-point _ _ _ _ e c.in_ok-day.ensures.date
