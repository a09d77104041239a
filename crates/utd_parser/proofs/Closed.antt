-- Forms that end before each token that closes.
use Rattle.std.proofs.Common.{◌≡◌, ℕ, List, ◌∷◌, ◌++◌, true, refl, sym}
use Rattle.utd_syntax.specs.declared.terminal.Terminal.{Terminal}
use Rattle.utd_syntax.specs.Table as table
use Rattle.utd_syntax.specs.Verdict.{reach}
use Rattle.utd_parser.specs.declared.form.Form.{Form}
use Rattle.utd_parser.specs.declared.form.Form.TheVariants as forms
use Rattle.utd_builder.specs.Closing.{closes}
use Rattle.utd_builder.proofs.Closed.{not-so, of-closing}
use Rattle.utd_parser.specs.Closing.{ends_at_closing}
use Rattle.utd_parser.specs.Forms.{form_of, forms_of}
use Rattle.utd_parser.proofs.Stacks.{pass-turn}

closed-turn : (f : Form) (x : Terminal) (b : List ℕ) (n : Terminal) → ends_at_closing f ≡ true → closes x ≡ true → table.turn (form_of f) x b n ≡ table.Ends
closed-turn forms.AfterName x b n g h = of-closing (λ y. table.turn table.AfterName y b n ≡ table.Ends) refl refl refl refl refl refl x h
closed-turn forms.MoreProd x b n g h = of-closing (λ y. table.turn table.MoreProd y b n ≡ table.Ends) refl refl refl refl refl refl x h
closed-turn forms.MoreSum x b n g h = of-closing (λ y. table.turn table.MoreSum y b n ≡ table.Ends) refl refl refl refl refl refl x h
closed-turn forms.MoreCmp x b n g h = of-closing (λ y. table.turn table.MoreCmp y b n ≡ table.Ends) refl refl refl refl refl refl x h
closed-turn forms.MoreAnd x b n g h = of-closing (λ y. table.turn table.MoreAnd y b n ≡ table.Ends) refl refl refl refl refl refl x h
closed-turn forms.MoreOr x b n g h = of-closing (λ y. table.turn table.MoreOr y b n ≡ table.Ends) refl refl refl refl refl refl x h
closed-turn forms.MaybePortion x b n g h = of-closing (λ y. table.turn table.MaybePortion y b n ≡ table.Ends) refl refl refl refl refl refl x h
closed-turn forms.MaybeWhere x b n g h = of-closing (λ y. table.turn table.MaybeWhere y b n ≡ table.Ends) refl refl refl refl refl refl x h
closed-turn forms.MorePostfix x b n g h = of-closing (λ y. table.turn table.MorePostfix y b n ≡ table.Ends) refl refl refl refl refl refl x h
closed-turn forms.MoreInfix x b n g h = of-closing (λ y. table.turn table.MoreInfix y b n ≡ table.Ends) refl refl refl refl refl refl x h
closed-turn forms.MoreConstraints x b n g h = of-closing (λ y. table.turn table.MoreConstraints y b n ≡ table.Ends) refl refl refl refl refl refl x h
closed-turn _ x b n g h = not-so g

-- past such a form
pub past-closed : (list : List Form) (f : Form) (fs : List Form) (x : Terminal) (b : List ℕ) (n : Terminal) → list ≡ f ∷ fs → ends_at_closing f ≡ true → closes x ≡ true → (base : List table.Symbol) (load : table.Load) → reach (forms_of list ++ base) load x b n ≡ reach (forms_of fs ++ base) load x b n
past-closed list f fs x b n is ends closing base load = pass-turn list f fs x b n table.Ends is (sym (closed-turn f x b n ends closing)) base load
