-- Point types as runs of numbers.
--     first_of, last_of      the numbers of FIRST and LAST
--     next_of, prior_of      NEXT and PRIOR, which the last and the first point do not have
use Rattle.std.specs.Prelude.{◌≡◌, ℕ, ℤ, pos, ◌+ℤ◌, ◌-ℤ◌, ◌≤ℤ◌, Bool, ◌&&◌, Option, Some, None, int_le, int_lt, unsigned_abs, if◌then◌else◌}
use Rattle.point_core.specs.Dates.{first_day, last_day}
use Rattle.point_core.specs.Moments.{first_second, last_second}
use Rattle.point_core.specs.Whole.{least_whole, greatest_whole}
use Rattle.point_core.specs.declared.any_type.AnyType.{AnyType}
use Rattle.point_core.specs.declared.any_type.AnyType.TheVariants.{Integer, Date, Ordinal, Moment}
use Rattle.point_core.specs.declared.any_type.AnyPoint.{AnyPoint}
use Rattle.point_core.specs.declared.any_type.AnyPoint.TheVariants.{Integer as IntegerPoint, Date as DatePoint, Ordinal as OrdinalPoint, Moment as MomentPoint}

-- the line that a point stands on: the integers, the days, the values of the n-th ordinal type, or the seconds of the days
pub data Line : Type 0 where
  integers : Line
  days : Line
  values_of : ℕ → Line
  seconds : Line

-- the line of a point type
abbrev pub line_of : AnyType → Line
line_of Integer = integers
line_of Date = days
line_of (Ordinal of last) = values_of of
line_of Moment = seconds

-- the number of the first point, and of the last
abbrev pub first_of : AnyType → ℤ
first_of Integer = least_whole
first_of Date = first_day
first_of (Ordinal of last) = pos 0
first_of Moment = first_second

abbrev pub last_of : AnyType → ℤ
last_of Integer = greatest_whole
last_of Date = last_day
last_of (Ordinal of last) = pos last
last_of Moment = last_second

-- the number is that of a point of the type
abbrev pub IsNumber : AnyType → ℤ → Type 0
IsNumber t n = (first_of t ≤ℤ n) × (n ≤ℤ last_of t)

abbrev pub is_number : AnyType → ℤ → Bool
is_number t n = int_le (first_of t) n && int_le n (last_of t)

-- the number after, but after the last point none; the number before, but before the first point none
abbrev pub next_of : AnyType → ℤ → Option ℤ
next_of t p = if int_lt p (last_of t) then Some (p +ℤ pos 1) else None

abbrev pub prior_of : AnyType → ℤ → Option ℤ
prior_of t p = if int_lt (first_of t) p then Some (p -ℤ pos 1) else None

-- ---- points

-- the number of a point, and the line that it stands on
abbrev pub number : AnyPoint → ℤ
number (IntegerPoint n) = n
number (DatePoint n) = n
number (OrdinalPoint of at) = pos at
number (MomentPoint n) = n

abbrev pub line : AnyPoint → Line
line (IntegerPoint n) = integers
line (DatePoint n) = days
line (OrdinalPoint of at) = values_of of
line (MomentPoint n) = seconds

-- the point of a line that has the number
abbrev pub point_on : Line → ℤ → AnyPoint
point_on integers n = IntegerPoint n
point_on days n = DatePoint n
point_on (values_of of) n = OrdinalPoint of (unsigned_abs n)
point_on seconds n = MomentPoint n

-- the point is one of the type
abbrev pub IsPointOf : AnyType → AnyPoint → Type 0
IsPointOf t p = (line p ≡ line_of t) × IsNumber t (number p)
