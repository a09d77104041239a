-- The laws of the point types, each proved by its term.
use Rattle.std.specs.Prelude.{◌≡◌, ℕ, ◌≤◌, ℤ, pos, negsuc, ◌≤ℤ◌, unsigned_abs, refl}
use Rattle.std.proofs.Common.{ap, sym, ◌∙◌, zero-le}
use Rattle.std.proofs.Math.Dec.{le→leb, leb→le}
use Rattle.point_core.specs.Points.{number, line, point_on, IsPointOf, first_of, last_of}
use Rattle.point_core.specs.declared.any_type.AnyType.{AnyType}
use Rattle.point_core.specs.declared.any_type.AnyType.TheVariants.{Integer, Date, Ordinal, Moment}
use Rattle.point_core.specs.declared.any_type.AnyPoint.{AnyPoint}
use Rattle.point_core.specs.declared.any_type.AnyPoint.TheVariants.{Integer as IntegerPoint, Date as DatePoint, Ordinal as OrdinalPoint, Moment as MomentPoint}

-- ---- the ordinal type whose last value has the number `last`

pub ordinal_nonempty : (last : ℕ) → pos 0 ≤ℤ pos last
ordinal_nonempty last = record { le = le→leb 0 last zero-le }

pub ordinal_within : (last p : ℕ) → p ≤ last → (pos 0 ≤ℤ pos p) × (pos p ≤ℤ pos last)
ordinal_within last p h = (ordinal_nonempty p, record { le = le→leb p last h })

pub ordinal_each : (last : ℕ) (n : ℤ) → pos 0 ≤ℤ n → n ≤ℤ pos last → (p : ℕ) × (p ≤ last) × (pos p ≡ n)
ordinal_each last (pos p) low high = (p, leb→le p last high.le, refl)
ordinal_each last (negsuc k) low high = absurd low.le

pub ordinal_same : (p q : ℕ) → pos p ≡ pos q → p ≡ q
ordinal_same p q same = ap unsigned_abs same

-- ---- any of the types

pub any_nonempty : (t : AnyType) → first_of t ≤ℤ last_of t
any_nonempty Integer = record { le = tt }
any_nonempty Date = record { le = tt }
any_nonempty (Ordinal of last) = ordinal_nonempty last
any_nonempty Moment = record { le = tt }

pub any_each : (t : AnyType) (n : ℤ) → first_of t ≤ℤ n → n ≤ℤ last_of t → (p : AnyPoint) × IsPointOf t p × (number p ≡ n)
any_each Integer n low high = (IntegerPoint n, (refl, (low, high)), refl)
any_each Date n low high = (DatePoint n, (refl, (low, high)), refl)
any_each (Ordinal of last) (pos p) low high = (OrdinalPoint of p, (refl, (low, high)), refl)
any_each (Ordinal of last) (negsuc k) low high = absurd low.le
any_each Moment n low high = (MomentPoint n, (refl, (low, high)), refl)

-- a point is that of its line and its number
pub point_on-line : (p : AnyPoint) → point_on (line p) (number p) ≡ p
point_on-line (IntegerPoint n) = refl
point_on-line (DatePoint n) = refl
point_on-line (OrdinalPoint of at) = refl
point_on-line (MomentPoint n) = refl

pub any_same : (t : AnyType) (p q : AnyPoint) → IsPointOf t p → IsPointOf t q → number p ≡ number q → p ≡ q
any_same t p q hp hq same =
    sym (point_on-line p) ∙ ap (λ l. point_on l (number p)) (hp.0 ∙ sym hq.0) ∙ ap (λ n. point_on (line q) n) same ∙ point_on-line q
