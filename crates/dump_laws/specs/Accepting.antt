-- A script that is accepted statement by statement.
--     Outcome      what is to hold of the state and the texts
--     IsForm      how a statement stands in a script: as it is, or behind a byte 10
--     Takes      bytes are read as a statement that is accepted, and something holds of the state and the texts then
--     TakesAll      the same of statements one after the other, in whichever form and wherever they stand
use Rattle.std.specs.Prelude.{◌≡◌, ◌⊎◌, ℕ, true, List, [], ◌∷◌}
use Rattle.point_core.specs.declared.fault.Place.{Place}
use Rattle.tree_core.specs.Relvars.{State}
use Rattle.dump_core.specs.Texts.{SourceText}
use Rattle.meaning_core.specs.Declarations.{counted}
use Rattle.utd_statement.specs.Answers.{Changed, answer}
use Rattle.utd_statement.specs.Keeping.{texts_after}
use Rattle.utd_statement.specs.Readings.{Reading, IsText}
use Rattle.text_laws.specs.Statements.{IsOneStatement}

-- what is to hold of the state and the texts
abbrev pub Outcome : Type 1
Outcome = State → List SourceText → Type 0

-- as it is, or behind a byte 10
abbrev pub IsForm : List ℕ → List ℕ → Type 0
IsForm s bytes = (bytes ≡ s) ⊎ (bytes ≡ 10 ∷ s)

-- from this place on the bytes are read as one statement that changes the state, and this holds then
abbrev pub Takes : Place → List ℕ → State → List SourceText → Outcome → Type 0
Takes place bytes r texts After =
    (x : Reading) × (next : State) × IsOneStatement bytes × IsText place bytes x × (answer r x ≡ Changed next) × After (counted next) (texts_after bytes x true texts)

-- each in turn, and this holds behind the last
abbrev pub TakesAll : List (List ℕ) → State → List SourceText → Outcome → Type 0
TakesAll [] r texts After = After r texts
TakesAll (s ∷ ss) r texts After =
    (place : Place) (bytes : List ℕ) → IsForm s bytes → Takes place bytes r texts (λ next more. TakesAll ss next more After)
