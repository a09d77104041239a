-- A relvar's row with an interval of statements at a place.
--     length-stamped, value_at-stamped      it has the place, and the interval there
--     unstamped-stamped, statements-stamped      its parts
--     put_span-stamped      other statements at the place
use Rattle.std.proofs.Common.{◌≡◌, ℕ, zero, suc, ◌<◌, ◌≤◌, [], ◌∷◌, length, refl, ap, arith}
use Rattle.interval_core.specs.Members.{Span}
use Rattle.point_core.specs.Points.{integers}
use Rattle.value_core.specs.Attributes.{value_at, span_of, put_span}
use Rattle.value_core.specs.Values.{Row, interval}
use Rattle.log_times.specs.Logs.{stamped, unstamped, statements}

pub length-stamped : (side : ℕ) (i : Span) (x : Row) → side ≤ length x → side < length (stamped side i x)
length-stamped zero i x l = omega arith
length-stamped (suc side) i [] l = absurd (omega (arith, l))
length-stamped (suc side) i (v ∷ x) l = let h = length-stamped side i x (omega (arith, l)) in omega (arith, h)

pub value_at-stamped : (side : ℕ) (i : Span) (x : Row) → side ≤ length x → value_at (stamped side i x) side ≡ interval integers i
value_at-stamped zero i x l = refl
value_at-stamped (suc side) i [] l = absurd (omega (arith, l))
value_at-stamped (suc side) i (v ∷ x) l = value_at-stamped side i x (omega (arith, l))

pub unstamped-stamped : (side : ℕ) (i : Span) (x : Row) → side ≤ length x → unstamped side (stamped side i x) ≡ x
unstamped-stamped zero i x l = refl
unstamped-stamped (suc side) i [] l = absurd (omega (arith, l))
unstamped-stamped (suc side) i (v ∷ x) l = ap (λ (r : Row). v ∷ r) (unstamped-stamped side i x (omega (arith, l)))

pub statements-stamped : (side : ℕ) (i : Span) (x : Row) → side ≤ length x → statements side (stamped side i x) ≡ i
statements-stamped side i x l = ap span_of (value_at-stamped side i x l)

pub put_span-stamped : (side : ℕ) (i j : Span) (x : Row) → side ≤ length x → put_span (stamped side i x) side j ≡ stamped side j x
put_span-stamped zero i j x l = refl
put_span-stamped (suc side) i j [] l = absurd (omega (arith, l))
put_span-stamped (suc side) i j (v ∷ x) l = ap (λ (r : Row). v ∷ r) (put_span-stamped side i j x (omega (arith, l)))
