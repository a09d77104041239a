use Rattle.std.proofs.Common.{◌∷◌, []}
use Rattle.utd_lexer.specs.declared.token.TokenKind.TheVariants.{Word}
use Rattle.plain_rows.specs.Tuples.{insert_word}
use Rattle.plain_rows.proofs.IntervalLemmas.{begins-both}
use Rattle.plain_rows.proofs.heads.inserted.Goals as goal

pub returns-clause-begins : goal.returns-clause-begins
returns-clause-begins c = begins-both _ _ _ _ (insert_word ∷ []) ((Word, c.in_ok-name.name) ∷ []) c.in_ok-behind.ensures c.past_space-here.ensures c.in_ok-name.ensures.begins
