-- The law of seconds.
use Rattle.std.specs.Prelude.{◌≡◌, ℤ}
use Rattle.std.proofs.Common.{ap}
use Rattle.point_core.specs.declared.moment_type.Second.{Second}

-- the moment of a number
abbrev pub second_of : ℤ → Second
second_of n = record { number = n }

pub second_same : (p q : Second) → p.number ≡ q.number → p ≡ q
second_same p q same = ap second_of same
