-- What the bytes of a statement are read as.
--     Reading      a syntax tree, or a refusal of the text
--     IsText      the bytes are read as this
use Rattle.std.specs.Prelude.{◌≡◌, ◌⊎◌, ℕ, List, []}
use Rattle.point_core.specs.declared.fault.Place.{Place}
use Rattle.value_core.specs.declared.refuse.Refuse.{Refuse}
use Rattle.value_core.specs.declared.refuse.Refuse.TheVariants as refuses
use Rattle.utd_lexer.specs.declared.token.Token.{Token}
use Rattle.utd_lexer.specs.Reading.{Reads, Refuses}
use Rattle.utd_syntax.specs.Plain.{StatementP}
use Rattle.utd_syntax.specs.Written.{Spells, of_statement}
use Rattle.utd_syntax.specs.Verdict as verdict
use Rattle.utd_syntax.specs.Verdict.{Whole}
use Rattle.utd_ranges.specs.Limits.{verdict_on}
use Rattle.utd_parser.specs.Tokens.{pieces}

-- a syntax tree, or a refusal of the text
pub data Reading : Type 0 where
  Tree : StatementP → Reading
  Refused : Refuse → Reading

-- The bytes from this place on are read as this. They are refused as they are, or by their tokens; else the tree writes
-- the tokens.
abbrev pub IsText : Place → List ℕ → Reading → Type 0
IsText place bytes (Tree tree) =
    (tokens : List Token) × Reads place bytes tokens × (verdict_on (pieces tokens) ≡ Whole) × Spells (of_statement tree) (pieces tokens) []
IsText place bytes (Refused (refuses.At fault)) =
    Refuses place bytes (refuses.At fault)
    ⊎ ((tokens : List Token) × Reads place bytes tokens × (verdict_on (pieces tokens) ≡ verdict.Refused fault.code fault.place))
IsText place bytes (Refused refuse) = ⊥
