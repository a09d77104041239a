use Rattle.std.proofs.Common.{◌≡◌, take}
use Rattle.utd_lexer.proofs.reading.chars_of_ascii.Given as goal

abbrev pub invariant-loop-byte : goal.invariant-loop-byte
invariant-loop-byte l = l.list.items ≡ take l.byte-index l.bytes
