use Rattle.std.proofs.Common.{◌∷◌, []}
use Rattle.utd_lexer.specs.declared.token.TokenKind.TheVariants.{Word}
use Rattle.plain_rows.specs.Heads.{list_names}
use Rattle.plain_rows.specs.Tuples.{insert_word, using_list}
use Rattle.plain_rows.proofs.BeginLemmas.{begins-then}
use Rattle.plain_rows.proofs.heads.used.Goals as goal

pub returns-clause-begins : goal.returns-clause-begins
returns-clause-begins c = begins-then _ _ _ (using_list (list_names c.in_ok-list.list)) (insert_word ∷ (Word, c.in_ok-name.name) ∷ []) c.in_ok-list.ensures.begins c.in_ok-name.ensures.begins
