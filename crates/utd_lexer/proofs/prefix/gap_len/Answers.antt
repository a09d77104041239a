use Rattle.std.proofs.Common.{sym, ◌∙◌}
use Rattle.utd_lexer.proofs.GapLemmas.{space-found}
use Rattle.utd_lexer.proofs.prefix.gap_len.Goals as goal

pub returns-then-is_space_char : goal.returns-then-is_space_char
returns-then-is_space_char c = space-found _ _ _ c.in-Some.ensures.cases.0 (sym c.is_space_char.ensures ∙ c.if-is_space_char.true)
