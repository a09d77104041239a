-- What literals stand for. A literal out of its range stands for nothing and is E06; the reading of a text lets none through.
use Rattle.std.specs.Prelude.{ℕ, ℤ, pos, neg_ℤ, Bool, List, [], ◌∷◌, nat_le, Option, Some, None, Ok, if◌then◌else◌}
use Rattle.point_core.specs.declared.fault.Place.{Place}
use Rattle.point_core.specs.declared.fault.Code.TheVariants.{E06}
use Rattle.point_core.specs.declared.any_type.AnyType.{AnyType}
use Rattle.point_core.specs.declared.any_type.AnyType.TheVariants.{Integer, Date, Moment}
use Rattle.point_core.specs.Faults.{OrFault}
use Rattle.point_core.specs.Points.{line_of, first_of, last_of}
use Rattle.utd_syntax.specs.declared.words.ExtremeWord.{ExtremeWord}
use Rattle.utd_syntax.specs.declared.words.ExtremeWord.TheVariants.{First, Last}
use Rattle.utd_syntax.specs.Literals.{value_of, is_date, is_moment}
pub use Rattle.utd_syntax.specs.Literals.{number_of_date, number_of_moment}
use Rattle.value_core.specs.declared.kind.Kind.TheVariants.{Truth, Char, Point}
use Rattle.value_core.specs.Lengths.{is_text}
use Rattle.value_core.specs.Values.{truth, text, point}
use Rattle.scalar_core.specs.Expressions.{constant}
use Rattle.scalar_typing.specs.Typings.{Typed, ◌>>=◌, value_or}

-- ---- the values that are written

-- the integer of these digits, and the one with a `-` before them, where it has 64 bits
abbrev pub integer_of : List ℕ → Option ℤ
integer_of digits = if nat_le (value_of digits) 9223372036854775807 then Some (pos (value_of digits)) else None

abbrev pub negative_of : List ℕ → Option ℤ
negative_of digits = if nat_le (value_of digits) 9223372036854775808 then Some (neg_ℤ (pos (value_of digits))) else None

-- a text that is not too long and has no character below the space
abbrev pub text_of : List ℕ → Option (List ℕ)
text_of bytes = if is_text bytes then Some bytes else None

abbrev pub date_of : List ℕ → Option ℤ
date_of bytes = if is_date bytes then Some (number_of_date bytes) else None

abbrev pub moment_of : List ℕ → Option ℤ
moment_of bytes = if is_moment bytes then Some (number_of_moment bytes) else None

-- ---- the constants that stand for them

-- a point of a type, by its number
abbrev pub point_constant : Place → AnyType → ℤ → Typed
point_constant at t n = (constant at (Point t) (point (line_of t) n), Point t)

abbrev pub truth_constant : Place → Bool → Typed
truth_constant at b = (constant at Truth (truth b), Truth)

-- an integer stands at its first token, and is refused at its digits
abbrev pub integer_literal : Place → Place → Option ℤ → OrFault Typed
integer_literal at digits n = do
  number ← value_or digits E06 n
  Ok (point_constant at Integer number)

abbrev pub text_literal : Place → List ℕ → OrFault Typed
text_literal at bytes = do
  written ← value_or at E06 (text_of bytes)
  Ok (constant at Char (text written), Char)

-- a date stands at DATE, and is refused at its text
abbrev pub date_literal : Place → Place → List ℕ → OrFault Typed
date_literal at quoted bytes = do
  number ← value_or quoted E06 (date_of bytes)
  Ok (point_constant at Date number)

-- a moment stands at MOMENT, and is refused at its text
abbrev pub moment_literal : Place → Place → List ℕ → OrFault Typed
moment_literal at quoted bytes = do
  number ← value_or quoted E06 (moment_of bytes)
  Ok (point_constant at Moment number)

-- FIRST and LAST of a type
abbrev pub extreme_constant : Place → ExtremeWord → AnyType → Typed
extreme_constant at First t = point_constant at t (first_of t)
extreme_constant at Last t = point_constant at t (last_of t)
