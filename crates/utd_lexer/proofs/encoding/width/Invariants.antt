use Rattle.std.proofs.Common.{◌≡◌, length, take, encode_utf8_all}
use Rattle.utd_lexer.proofs.encoding.width.Given as goal

abbrev pub invariant-loop-c : goal.invariant-loop-c
invariant-loop-c l = l.n ≡ length (encode_utf8_all (take l.c-index l.chars))
