use Rattle.utd_lexer.proofs.GapLengthLemmas.{GapSoFar}
use Rattle.utd_lexer.proofs.gaps.gaps_len.Given as goal

abbrev pub invariant-loop-at : goal.invariant-loop-at
invariant-loop-at l = GapSoFar l.bytes l.at l.mode l.gap
