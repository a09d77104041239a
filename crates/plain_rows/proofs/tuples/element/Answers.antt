use Rattle.std.proofs.Common.{◌∷◌, [], true, ◌≡◌, sym, ◌∙◌, subst}
use Rattle.utd_lexer.specs.declared.token.TokenKind.TheVariants.{Word}
use Rattle.plain_rows.specs.Lexemes.{Begins, is_word}
use Rattle.plain_rows.proofs.TupleLemmas.{element}
use Rattle.plain_rows.proofs.tuples.element.Goals as goal

pub past_word-requires : goal.past_word-requires
past_word-requires c = subst (λ z. is_word z ≡ true) (sym (c.as_bytes.ensures.value ∙ c.as_str.ensures.text)) c.requires

pub returns : goal.returns
returns c =
    let bytes = c.as_bytes.ensures.value ∙ c.as_str.ensures.text in
    element _ _ _ _ _ _ _ (subst (λ z. Begins c.args.text.now ((Word, z) ∷ []) c.in_ok-behind.behind.now) bytes c.in_ok-behind.ensures) c.past_space-here.ensures c.in_ok-v.ensures
