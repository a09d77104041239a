-- What bytes are read as is in range: a literal or name out of range is refused with the text.
use Rattle.std.proofs.Common.{ℕ, List, IfOk, Result, Ok, Err}
use Rattle.point_core.specs.declared.fault.Place.{Place}
use Rattle.point_core.specs.declared.memory.Memory.{Memory}
use Rattle.utd_parser.specs.Tokens.{pieces}
use Rattle.utd_parser.proofs.Writings.{are-written}
use Rattle.type_check.proofs.StatementLaws.{written-fine}
use Rattle.utd_statement.specs.declared.reading.Parsed.{Parsed}
use Rattle.utd_statement.specs.Parsed.{reading_of}
use Rattle.utd_statement.specs.Readings.{Reading, Tree, Refused, IsText}
use Rattle.utd_statement.specs.InRange.{IsInRange}

pub text_in_range : (place : Place) (bytes : List ℕ) (reading : Reading) → IsText place bytes reading → IsInRange reading
text_in_range place bytes (Tree tree) (tokens, reads, whole, spelled) = λ state. written-fine state (pieces tokens) tree (are-written place bytes tokens reads) whole spelled
text_in_range place bytes (Refused refuse) h = tt

pub in_range_ok : (place : Place) (bytes : List ℕ) (r : Result Parsed Memory) → IfOk r (λ p. IsText place bytes (reading_of p)) → IfOk r (λ p. IsInRange (reading_of p))
in_range_ok place bytes (Ok p) h = text_in_range place bytes (reading_of p) h
in_range_ok place bytes (Err m) h = tt
