use Rattle.std.proofs.Common.{◌∷◌, [], sym, subst}
use Rattle.utd_lexer.specs.declared.token.TokenKind.TheVariants.{Word}
use Rattle.plain_rows.specs.Lexemes.{Begins}
use Rattle.plain_rows.specs.Names.{IsNameWord}
use Rattle.plain_rows.proofs.IntervalLemmas.{begins-gap}
use Rattle.plain_rows.proofs.heads.listed_word.Goals as goal

pub returns-clause-begins : goal.returns-clause-begins
returns-clause-begins c =
    subst (λ z. Begins c.args.text.now ((Word, z) ∷ []) c.past_space.result.now) (sym c.in_ok-found.ensures) (begins-gap _ _ _ ((Word, c.in_ok-name.name) ∷ []) c.in_ok-name.ensures.begins c.past_space.ensures)

pub returns-clause-named : goal.returns-clause-named
returns-clause-named c = subst IsNameWord (sym c.in_ok-found.ensures) c.in_ok-name.ensures.named
