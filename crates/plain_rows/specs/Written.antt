-- The tokens that constants are written as.
--     IsInteger n ls      the tokens write the integer
--     IsDotted types t n ls      the tokens name a value of an ordinal type, which has the number
--     IsPoint types t n ls, IsInterval types t i ls      the tokens write the point that has the number, and the interval
--     IsConstant types k v ls      the tokens write the value, which is of this kind
--     BeginsWithText, BeginsWithInteger, BeginsWithDate, BeginsWithMoment, BeginsWithDotted, BeginsWithPoint,
--     BeginsWithInterval, BeginsWithConstant      the bytes begin with the tokens of this one
use Rattle.std.specs.Prelude.{◌≡◌, ◌⊎◌, ℕ, ℤ, List, [], ◌∷◌, ◌++◌, Bool, true, false, Some, Ok}
use Rattle.std.specs.Str.{IsUtf8}
use Rattle.value_core.specs.Lengths.{has_control, IsTextLength}
use Rattle.utd_syntax.specs.Plain.{word}
use Rattle.utd_lexer.specs.declared.token.TokenKind.TheVariants.{Word, Integer, Text, Symbol}
use Rattle.scalar_typing.specs.Literals.{integer_of, negative_of, date_of, moment_of}
use Rattle.point_core.specs.declared.any_type.AnyType.{AnyType}
use Rattle.point_core.specs.declared.any_type.AnyType.TheVariants as points
use Rattle.point_core.specs.declared.fault.Place.{Place}
use Rattle.point_core.specs.Points.{first_of, last_of}
use Rattle.interval_core.specs.declared.selector.Ends.{Ends}
use Rattle.interval_core.specs.declared.selector.Ends.TheVariants as ends
use Rattle.interval_core.specs.Members.{Span}
use Rattle.interval_core.specs.Selector.{selected}
use Rattle.point_core.specs.Points.{line_of}
use Rattle.value_core.specs.declared.kind.Kind.{Kind}
use Rattle.value_core.specs.declared.kind.Kind.TheVariants as kinds
use Rattle.value_core.specs.Values.{Name, Value, truth, text, point, interval}
use Rattle.value_core.specs.declared.list.OrdinalNames.{OrdinalNames}
use Rattle.constant_laws.specs.Constants.{IsOrdinalPoint}
use Rattle.plain_rows.specs.Lexemes.{Lexeme, Begins}
use Rattle.plain_rows.specs.Words.{IsFreeWord}

-- a `-`, and the words DATE and MOMENT
abbrev pub dash : Lexeme
dash = (Symbol, 45 ∷ [])

abbrev pub date_word : Lexeme
date_word = (Word, 68 ∷ 65 ∷ 84 ∷ 69 ∷ [])

abbrev pub moment_word : Lexeme
moment_word = (Word, 77 ∷ 79 ∷ 77 ∷ 69 ∷ 78 ∷ 84 ∷ [])

-- digits, or a `-` and digits
abbrev pub IsInteger : ℤ → List Lexeme → Type 0
IsInteger n ls =
    ((digits : List ℕ) × (ls ≡ (Integer, digits) ∷ []) × (integer_of digits ≡ Some n))
    ⊎ ((digits : List ℕ) × (ls ≡ dash ∷ (Integer, digits) ∷ []) × (negative_of digits ≡ Some n))

pub record BeginsWithInteger (bytes : List ℕ) (n : ℤ) (rest : List ℕ) : Type 0 where
  pub lexemes : List Lexeme
  pub begins : Begins bytes lexemes rest
  pub written : IsInteger n lexemes

-- a text without control characters
pub record BeginsWithText (bytes text rest : List ℕ) : Type 0 where
  pub begins : Begins bytes ((Text, text) ∷ []) rest
  pub utf8 : IsUtf8 text
  pub printed : has_control text ≡ false

-- DATE and the text of a day
pub record BeginsWithDate (bytes : List ℕ) (n : ℤ) (rest : List ℕ) : Type 0 where
  pub text : List ℕ
  pub begins : Begins bytes (date_word ∷ (Text, text) ∷ []) rest
  pub written : date_of text ≡ Some n

-- MOMENT and the text of a second of a day
pub record BeginsWithMoment (bytes : List ℕ) (n : ℤ) (rest : List ℕ) : Type 0 where
  pub text : List ℕ
  pub begins : Begins bytes (moment_word ∷ (Text, text) ∷ []) rest
  pub written : moment_of text ≡ Some n

-- ---- values of ordinal types

abbrev pub dot : Lexeme
dot = (Symbol, 46 ∷ [])

-- the one is an ordinal type, and the other the value of it that has the number
abbrev pub IsValueOf : List OrdinalNames → AnyType → ℤ → Name → Name → Type 0
IsValueOf types t n name value = (p q : Place) → IsOrdinalPoint types t n (word p name) (word q value)

-- both names with a `.` between them
pub record IsDotted (types : List OrdinalNames) (t : AnyType) (n : ℤ) (ls : List Lexeme) : Type 0 where
  pub name : Name
  pub value : Name
  pub spelled : ls ≡ (Word, name) ∷ dot ∷ (Word, value) ∷ []
  pub names : IsFreeWord name × IsFreeWord value
  pub written : IsValueOf types t n name value

pub record BeginsWithDotted (types : List OrdinalNames) (bytes : List ℕ) (t : AnyType) (n : ℤ) (rest : List ℕ) : Type 0 where
  pub lexemes : List Lexeme
  pub begins : Begins bytes lexemes rest
  pub written : IsDotted types t n lexemes

-- ---- points

abbrev pub IsPoint : List OrdinalNames → AnyType → ℤ → List Lexeme → Type 0
IsPoint types points.Integer n ls = IsInteger n ls
IsPoint types points.Date n ls = (text : List ℕ) × (ls ≡ date_word ∷ (Text, text) ∷ []) × (date_of text ≡ Some n)
IsPoint types points.Moment n ls = (text : List ℕ) × (ls ≡ moment_word ∷ (Text, text) ∷ []) × (moment_of text ≡ Some n)
IsPoint types (points.Ordinal of last) n ls = IsDotted types (points.Ordinal of last) n ls

pub record BeginsWithPoint (types : List OrdinalNames) (bytes : List ℕ) (t : AnyType) (n : ℤ) (rest : List ℕ) : Type 0 where
  pub lexemes : List Lexeme
  pub begins : Begins bytes lexemes rest
  pub written : IsPoint types t n lexemes

-- ---- intervals

-- the brackets, each of which takes its point in or leaves it out
abbrev pub opening : Bool → Lexeme
opening true = (Symbol, 91 ∷ [])
opening false = (Symbol, 40 ∷ [])

abbrev pub closing : Bool → Lexeme
closing true = (Symbol, 93 ∷ [])
closing false = (Symbol, 41 ∷ [])

abbrev pub brackets_of : Bool → Bool → Ends
brackets_of true true = ends.Closed
brackets_of true false = ends.ClosedOpen
brackets_of false true = ends.OpenClosed
brackets_of false false = ends.Open

abbrev pub colon : Lexeme
colon = (Symbol, 58 ∷ [])

-- two points of the type between brackets, and the interval has members
pub record IsInterval (types : List OrdinalNames) (t : AnyType) (i : Span) (ls : List Lexeme) : Type 0 where
  pub begin : Bool
  pub end : Bool
  pub from : ℤ
  pub to : ℤ
  pub first : List Lexeme
  pub second : List Lexeme
  pub spelled : ls ≡ (opening begin ∷ []) ++ (first ++ ((colon ∷ []) ++ (second ++ closing end ∷ [])))
  pub begins_at : IsPoint types t from first
  pub ends_at : IsPoint types t to second
  pub selects : selected (first_of t) (last_of t) (brackets_of begin end) from to ≡ Ok i

pub record BeginsWithInterval (types : List OrdinalNames) (bytes : List ℕ) (t : AnyType) (i : Span) (rest : List ℕ) : Type 0 where
  pub lexemes : List Lexeme
  pub begins : Begins bytes lexemes rest
  pub written : IsInterval types t i lexemes

-- ---- constants

-- TRUE and FALSE
abbrev pub truth_word : Bool → Lexeme
truth_word true = (Word, 84 ∷ 82 ∷ 85 ∷ 69 ∷ [])
truth_word false = (Word, 70 ∷ 65 ∷ 76 ∷ 83 ∷ 69 ∷ [])

abbrev pub IsConstant : List OrdinalNames → Kind → Value → List Lexeme → Type 0
IsConstant types kinds.Truth (truth b) ls = ls ≡ truth_word b ∷ []
IsConstant types kinds.Char (text bytes) ls = (ls ≡ (Text, bytes) ∷ []) × IsUtf8 bytes × IsTextLength bytes × (has_control bytes ≡ false)
IsConstant types (kinds.Point t) (point l n) ls = (l ≡ line_of t) × IsPoint types t n ls
IsConstant types (kinds.Span t) (interval l i) ls = (l ≡ line_of t) × IsInterval types t i ls
IsConstant types _ _ _ = ⊥

pub record BeginsWithConstant (types : List OrdinalNames) (bytes : List ℕ) (k : Kind) (v : Value) (rest : List ℕ) : Type 0 where
  pub lexemes : List Lexeme
  pub begins : Begins bytes lexemes rest
  pub written : IsConstant types k v lexemes
