-- A sink that never fails.
use Rattle.std.proofs.Common.{inl, inr, arith}
use Rattle.utd_io.specs.Io.{Rose}

-- its count does not rise
pub never_rose : Rose 0 0 → ⊥
never_rose h = elim h [ inl l ↦ omega (arith, l) | inr e ↦ omega (arith, e) ]
