use Rattle.std.proofs.Common.{sym, ◌∙◌}
use Rattle.utd_lexer.proofs.GapLemmas.{space-found}
use Rattle.utd_lexer.proofs.AsciiLemmas.{ascii-tail}
use Rattle.utd_lexer.proofs.ascii.other_step.Goals as goal

pub returns-then-is_space : goal.returns-then-is_space
returns-then-is_space c = space-found _ _ _ c.in-Some.ensures.cases.0 (sym c.is_space.ensures ∙ c.if-is_space.true)

pub text_step-requires : goal.text_step-requires
text_step-requires c = ascii-tail _ _ _ c.in-Some.ensures.cases.0 c.requires
