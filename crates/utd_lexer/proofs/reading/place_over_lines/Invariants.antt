use Rattle.std.proofs.Common.{◌≡◌, ◌-◌, length, drop}
use Rattle.utd_lexer.specs.Tokens.{Fits, place_after}
use Rattle.utd_lexer.proofs.reading.place_over_lines.Given as goal

abbrev pub invariant-loop-byte : goal.invariant-loop-byte
invariant-loop-byte l = record {
  same : place_after l.place (drop l.byte-index l.bytes) ≡ place_after l.fn.start l.bytes;
  fits : Fits l.place (length l.bytes - l.byte-index);
}
