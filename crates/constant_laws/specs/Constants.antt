-- Constants that are written: which scalar of a syntax tree stands for which value, where these are the ordinal types. Places are
-- left as they are.
--     alone x      the scalar that is a sign alone, without operators
--     WritesPoint types t n x      the sign writes the point of type t that has the number n
--     Writes types kind v s      the scalar writes the value, which is of this kind
use Rattle.std.specs.Prelude.{◌≡◌, ℕ, ℤ, pos, true, false, List, Some, Ok}
use Rattle.point_core.specs.declared.any_type.AnyType.{AnyType}
use Rattle.point_core.specs.declared.any_type.AnyType.TheVariants.{Integer, Date, Moment}
use Rattle.point_core.specs.Points.{line_of, first_of, last_of}
use Rattle.utd_syntax.specs.declared.words.BeginBracket.{BeginBracket}
use Rattle.utd_syntax.specs.declared.words.EndBracket.{EndBracket}
use Rattle.utd_syntax.specs.Plain as syntax
use Rattle.utd_syntax.specs.Plain.{Word, ScalarP, SignP, PrimaryP}
use Rattle.interval_core.specs.Members.{Span as Ends}
use Rattle.interval_core.specs.Selector.{selected}
use Rattle.value_core.specs.declared.kind.Kind.{Kind}
use Rattle.value_core.specs.declared.kind.Kind.TheVariants.{Truth, Char, Point, Span}
use Rattle.value_core.specs.declared.list.OrdinalNames.{OrdinalNames}
use Rattle.value_core.specs.Values.{Value, truth, text, point, interval}
use Rattle.scalar_typing.specs.Literals.{integer_of, negative_of, text_of, date_of, moment_of}
use Rattle.scalar_typing.specs.Names.{ordinal_of, value_of, ordinal_type}
use Rattle.scalar_typing.specs.Operators.{ends_of}

-- a scalar without operators
abbrev pub alone : SignP → ScalarP
alone x = syntax.OneConj (syntax.OneNeg (syntax.OneCmp (syntax.OneSum (syntax.OneProd (syntax.OneSign x)))))

-- ---- points

-- `n.v`: n is an ordinal type, and v the value of it that has the number
pub record IsOrdinalPoint (types : List OrdinalNames) (t : AnyType) (number : ℤ) (n v : Word) : Type 0 where
  pub found : ℕ × OrdinalNames
  pub at : ℕ
  pub type_named : ordinal_of types n.bytes ≡ Some found
  pub value_named : value_of found.1.values v.bytes ≡ Some at
  pub of_type : t ≡ ordinal_type found
  pub numbered : number ≡ pos at

-- an integer, a date, a moment, or a value of an ordinal type
abbrev pub PrimaryPoint : List OrdinalNames → AnyType → ℤ → PrimaryP → Type 0
PrimaryPoint types t n (syntax.IntegerLiteral at bytes) = (t ≡ Integer) × (integer_of bytes ≡ Some n)
PrimaryPoint types t n (syntax.DateLiteral at quoted bytes) = (t ≡ Date) × (date_of bytes ≡ Some n)
PrimaryPoint types t n (syntax.MomentLiteral at quoted bytes) = (t ≡ Moment) × (moment_of bytes ≡ Some n)
PrimaryPoint types t n (syntax.Dotted name v) = IsOrdinalPoint types t n name v
PrimaryPoint types t n _ = ⊥

-- or an integer with a `-` before it
abbrev pub WritesPoint : List OrdinalNames → AnyType → ℤ → SignP → Type 0
WritesPoint types t n (syntax.NegativeInteger at digits bytes) = (t ≡ Integer) × (negative_of bytes ≡ Some n)
WritesPoint types t n (syntax.Negate at x) = ⊥
WritesPoint types t n (syntax.OnePrimary p) = PrimaryPoint types t n p

-- ---- intervals

-- between the brackets stand two points of the type, and the interval has members
pub record IsBetween (types : List OrdinalNames) (t : AnyType) (i : Ends) (b : BeginBracket) (l r : ScalarP) (e : EndBracket) : Type 0 where
  pub first : SignP
  pub second : SignP
  pub from : ℤ
  pub to : ℤ
  pub begins_so : l ≡ alone first
  pub ends_so : r ≡ alone second
  pub begins_at : WritesPoint types t from first
  pub ends_at : WritesPoint types t to second
  pub selects : selected (first_of t) (last_of t) (ends_of b e) from to ≡ Ok i

-- ---- values

-- the value is a point, and the sign writes it
abbrev pub IsPointWritten : List OrdinalNames → Kind → Value → SignP → Type 0
IsPointWritten types kind v x = (t : AnyType) × (n : ℤ) × WritesPoint types t n x × (kind ≡ Point t) × (v ≡ point (line_of t) n)

-- a text, a truth value, an interval, or a point
abbrev pub PrimaryWrites : List OrdinalNames → Kind → Value → PrimaryP → Type 0
PrimaryWrites types kind v (syntax.TextLiteral at bytes) = (b : List ℕ) × (text_of bytes ≡ Some b) × (kind ≡ Char) × (v ≡ text b)
PrimaryWrites types kind v (syntax.TrueLiteral at) = (kind ≡ Truth) × (v ≡ truth true)
PrimaryWrites types kind v (syntax.FalseLiteral at) = (kind ≡ Truth) × (v ≡ truth false)
PrimaryWrites types kind v (syntax.Selector at b l r e) = (t : AnyType) × (i : Ends) × IsBetween types t i b l r e × (kind ≡ Span t) × (v ≡ interval (line_of t) i)
PrimaryWrites types kind v p = IsPointWritten types kind v (syntax.OnePrimary p)

abbrev pub SignWrites : List OrdinalNames → Kind → Value → SignP → Type 0
SignWrites types kind v (syntax.OnePrimary p) = PrimaryWrites types kind v p
SignWrites types kind v x = IsPointWritten types kind v x

abbrev pub Writes : List OrdinalNames → Kind → Value → ScalarP → Type 0
Writes types kind v s = (x : SignP) × (s ≡ alone x) × SignWrites types kind v x
