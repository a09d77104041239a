use Rattle.std.proofs.Common.{◌≡◌, drop}
use Rattle.std.specs.List.{list_all}
use Rattle.utd_lexer.specs.Parts.{is_space}
use Rattle.utd_statement.proofs.reading.are_spaces.Given as goal

abbrev pub invariant-loop-byte : goal.invariant-loop-byte
invariant-loop-byte l = list_all is_space (drop l.byte-index l.bytes) ≡ list_all is_space l.bytes
