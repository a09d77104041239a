-- When bytes write a statement.
--     IsWritten      from this place on the bytes are the tokens of this statement
use Rattle.std.specs.Prelude.{◌≡◌, ℕ, List, []}
use Rattle.point_core.specs.declared.fault.Place.{Place}
use Rattle.utd_lexer.specs.declared.token.Token.{Token}
use Rattle.utd_lexer.specs.Reading.{Reads}
use Rattle.utd_syntax.specs.Plain.{StatementP}
use Rattle.utd_syntax.specs.Written.{Spells, of_statement}
use Rattle.utd_syntax.specs.Verdict.{Whole}
use Rattle.utd_ranges.specs.Limits.{verdict_on}
use Rattle.utd_parser.specs.Tokens.{pieces}

-- the bytes are read as tokens, these are within the limits of the language, and the tree writes them
abbrev pub IsWritten : Place → List ℕ → StatementP → Type 0
IsWritten place bytes tree =
    (tokens : List Token) × Reads place bytes tokens × (verdict_on (pieces tokens) ≡ Whole) × Spells (of_statement tree) (pieces tokens) []
