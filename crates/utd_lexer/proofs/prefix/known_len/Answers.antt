use Rattle.std.proofs.Common.{sym, ◌∙◌}
use Rattle.utd_lexer.proofs.WordLemmas.{word-found}
use Rattle.utd_lexer.proofs.FirstLemmas.{lone-found, integer-front}
use Rattle.utd_lexer.proofs.prefix.known_len.Goals as goal

pub returns-in-Word : goal.returns-in-Word
returns-in-Word c = word-found _ _ _ _ c.in-Some.ensures.cases.0 c.in-Word.ensures c.continuing.ensures

pub returns-in-Integer : goal.returns-in-Integer
returns-in-Integer c = integer-front _ _ _ _ c.in-Some.ensures.cases.0 c.in-Integer.ensures c.digits.ensures

pub returns-in-Lone : goal.returns-in-Lone
returns-in-Lone c = lone-found _ _ _ c.in-Some.ensures.cases.0 c.in-Lone.ensures
