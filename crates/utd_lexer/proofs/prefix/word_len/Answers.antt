use Rattle.std.proofs.Common.{sym, ◌∙◌}
use Rattle.utd_lexer.proofs.WordLemmas.{word-found}
use Rattle.utd_lexer.proofs.prefix.word_len.Goals as goal

pub returns-then-is_start : goal.returns-then-is_start
returns-then-is_start c = word-found _ _ _ _ c.in-Some.ensures.cases.0 (sym c.is_start.ensures ∙ c.if-is_start.true) c.continuing.ensures
