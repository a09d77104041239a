use Rattle.std.proofs.Common.{sym, ◌∙◌}
use Rattle.utd_lexer.proofs.WordLemmas.{letter-continues}
use Rattle.utd_lexer.proofs.ascii.goes_on.Goals as goal

pub returns-then-is_ascii_alphabetic : goal.returns-then-is_ascii_alphabetic
returns-then-is_ascii_alphabetic c =
    c.if-is_ascii_alphabetic.true ∙ letter-continues _ c.if-is_ascii_alphabetic.ensures.cases (sym c.is_ascii_alphabetic.ensures.value ∙ c.if-is_ascii_alphabetic.true)
