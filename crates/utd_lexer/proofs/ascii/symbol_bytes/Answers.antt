use Rattle.std.proofs.Common.{sym, ◌∙◌, refl}
use Rattle.utd_lexer.proofs.WordLemmas.{pair-found, single-found}
use Rattle.utd_lexer.proofs.ascii.symbol_bytes.Goals as goal

pub returns-then-is_pair : goal.returns-then-is_pair
returns-then-is_pair c = pair-found _ _ _ _ _ refl c.in-Some.ensures.cases.0 (sym c.is_pair.ensures ∙ c.if-is_pair.true)

pub returns-then-not-is_comment : goal.returns-then-not-is_comment
returns-then-not-is_comment c = single-found _ _ _ _ _ refl c.in-Some.ensures.cases.0 (sym c.is_single.ensures ∙ c.if-is_single.true) (sym c.is_pair.ensures ∙ c.if-is_pair.false) (sym c.is_comment.ensures ∙ c.if-not-is_comment.true)
