use Rattle.std.proofs.Common.{sym, ◌∙◌}
use Rattle.utd_lexer.proofs.WordLemmas.{pair-found, single-found}
use Rattle.utd_lexer.proofs.prefix.symbol_len.Goals as goal

pub returns-then-is_pair : goal.returns-then-is_pair
returns-then-is_pair c = pair-found _ _ _ _ _ c.in-Some.ensures.cases.0 c.in-Some-split_first.ensures.cases.0 (sym c.is_pair.ensures ∙ c.if-is_pair.true)

pub returns-then-not-is_comment : goal.returns-then-not-is_comment
returns-then-not-is_comment c = single-found _ _ _ _ _ c.in-Some.ensures.cases.0 c.in-Some-split_first.ensures.cases.0 (sym c.is_single-2.ensures ∙ c.if-is_single-2.true) (sym c.is_pair.ensures ∙ c.if-is_pair.false) (sym c.is_comment.ensures ∙ c.if-not-is_comment.true)
