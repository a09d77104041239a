-- The law of days.
use Rattle.std.specs.Prelude.{◌≡◌, ℤ}
use Rattle.std.proofs.Common.{ap}
use Rattle.point_core.specs.declared.date_type.Day.{Day}

-- the day of a number
abbrev pub day_of : ℤ → Day
day_of n = record { number = n }

pub day_same : (p q : Day) → p.number ≡ q.number → p ≡ q
day_same p q same = ap day_of same
