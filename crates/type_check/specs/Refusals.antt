-- Typing that does not refuse a literal as out of its range.
use Rattle.std.specs.Prelude.{◌≡◌, IfErr}
use Rattle.point_core.specs.declared.fault.Code.TheVariants.{E06}
use Rattle.point_core.specs.Faults.{OrFault}

-- it is given, or refused with a code other than E06
abbrev pub IsNotE06 : {X : Type 0} → OrFault X → Type 0
IsNotE06 typed = IfErr typed (λ fault. fault.code ≡ E06 → ⊥)
