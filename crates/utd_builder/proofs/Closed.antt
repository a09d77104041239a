-- What holds of the tokens that close.
use Rattle.std.proofs.Common.{◌≡◌, true, false, None, refl, subst}
use Rattle.utd_syntax.specs.declared.terminal.Terminal.{Terminal}
use Rattle.utd_syntax.specs.declared.terminal.Terminal.TheVariants as t
use Rattle.utd_builder.specs.Choices.{comparison_at, sum_word_at, product_word_at}
use Rattle.utd_builder.specs.Closing.{closes}

pub not-so : {A : Type 0} → false ≡ true → A
not-so e = absurd (no e)
  where
    no : false ≡ true → ⊥
    no e = cc

-- what holds of the six tokens holds of each that closes
pub of-closing : (P : Terminal → Type 0) → P t.Close → P t.CloseBracket → P t.CloseBrace → P t.Comma → P t.Semicolon → P t.Colon → (x : Terminal) → closes x ≡ true → P x
of-closing P a b c d e f t.Close h = a
of-closing P a b c d e f t.CloseBracket h = b
of-closing P a b c d e f t.CloseBrace h = c
of-closing P a b c d e f t.Comma h = d
of-closing P a b c d e f t.Semicolon h = e
of-closing P a b c d e f t.Colon h = f
of-closing P a b c d e f _ h = not-so h

-- none of them goes on with a scalar
pub closed-comparison : (x : Terminal) → closes x ≡ true → comparison_at x ≡ None
closed-comparison x h = of-closing (λ y. comparison_at y ≡ None) refl refl refl refl refl refl x h

pub closed-sum : (x : Terminal) → closes x ≡ true → sum_word_at x ≡ None
closed-sum x h = of-closing (λ y. sum_word_at y ≡ None) refl refl refl refl refl refl x h

pub closed-product : (x : Terminal) → closes x ≡ true → product_word_at x ≡ None
closed-product x h = of-closing (λ y. product_word_at y ≡ None) refl refl refl refl refl refl x h

pub closed-and : (x : Terminal) → closes x ≡ true → x ≡ t.And → ⊥
closed-and x h is = not-so (subst (λ y. closes y ≡ true) is h)

pub closed-or : (x : Terminal) → closes x ≡ true → x ≡ t.Or → ⊥
closed-or x h is = not-so (subst (λ y. closes y ≡ true) is h)
