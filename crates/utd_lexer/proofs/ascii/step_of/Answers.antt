use Rattle.utd_lexer.proofs.WordLemmas.{word-found}
use Rattle.utd_lexer.proofs.FirstLemmas.{lone-found, integer-front}
use Rattle.utd_lexer.proofs.ascii.step_of.Goals as goal

pub token_step-requires-clause-front : goal.token_step-requires-clause-front
token_step-requires-clause-front c = word-found _ _ _ _ c.in-Some.ensures.cases.0 c.in-Word.ensures c.word_bytes.ensures

pub token_step-requires-in-Integer-clause-front : goal.token_step-requires-in-Integer-clause-front
token_step-requires-in-Integer-clause-front c = integer-front _ _ _ _ c.in-Some.ensures.cases.0 c.in-Integer.ensures c.digit_bytes.ensures

pub token_step-requires-in-Lone-clause-front : goal.token_step-requires-in-Lone-clause-front
token_step-requires-in-Lone-clause-front c = lone-found _ _ _ c.in-Some.ensures.cases.0 c.in-Lone.ensures
