-- What the statements of a script are read as.
--     IsReading, AreReadings      a statement is read as this, and each of a list
use Rattle.std.specs.Prelude.{◌≡◌, ℕ, Bool, true, false, List, [], ◌∷◌, length, nat_le}
use Rattle.point_core.specs.declared.fault.Place.{Place}
use Rattle.point_core.specs.declared.fault.Code.TheVariants.{E03, E04}
use Rattle.value_core.specs.declared.refuse.Refuse.TheVariants as refuses
use Rattle.value_core.specs.Limits.{most_statement_bytes}
use Rattle.utd_statement.specs.Readings.{Reading, Refused, IsText}
use Rattle.utd_session.specs.Statements.{Statement, Complete, Incomplete}

-- the most bytes of a statement, with its `;`
abbrev pub most_in_statement : ℕ
most_in_statement = most_statement_bytes

abbrev pub IsShort : Bool → Place → List ℕ → Reading → Type 0
IsShort true place bytes reading = IsText place bytes reading
IsShort false place bytes reading = reading ≡ Refused (refuses.Plain E03)

-- the statement is read as this: a text that is too long is refused unread, and what no `;` ends before that
abbrev pub IsReading : Statement → Reading → Type 0
IsReading (Complete place bytes) reading = IsShort (nat_le (length bytes) most_in_statement) place bytes reading
IsReading Incomplete reading = reading ≡ Refused (refuses.Plain E04)

-- each is read as the one at its place in the list
abbrev pub AreReadings : List Statement → List Reading → Type 0
AreReadings [] [] = Unit {0}
AreReadings (s ∷ ss) (r ∷ rs) = IsReading s r × AreReadings ss rs
AreReadings [] (r ∷ rs) = ⊥
AreReadings (s ∷ ss) [] = ⊥
