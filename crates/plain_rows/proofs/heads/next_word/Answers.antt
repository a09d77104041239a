use Rattle.std.proofs.Common.{◌∷◌, []}
use Rattle.utd_lexer.specs.declared.token.TokenKind.TheVariants.{Word}
use Rattle.plain_rows.specs.Tuples.{comma}
use Rattle.plain_rows.proofs.IntervalLemmas.{begins-both}
use Rattle.plain_rows.proofs.heads.next_word.Goals as goal

pub returns-clause-begins : goal.returns-clause-begins
returns-clause-begins c = begins-both _ _ _ _ (comma ∷ []) ((Word, c.in_ok-found.found.bytes.list.items) ∷ []) c.in_ok-behind.ensures c.past_space-here.ensures c.in_ok-found.ensures.begins
