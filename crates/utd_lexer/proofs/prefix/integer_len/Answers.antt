use Rattle.utd_lexer.proofs.WordLemmas.{integer-found}
use Rattle.utd_lexer.proofs.prefix.integer_len.Goals as goal

pub returns-then-n-gt0 : goal.returns-then-n-gt0
returns-then-n-gt0 c = integer-found _ _ c.digits-n.ensures c.if-n-gt0.true
