-- The texts of each kind, of texts that stand in the order of a script.
--     texts_in_order      texts in that order
--     ordered-early, ordered-views, ordered-rules      they have the same texts of each kind
use Rattle.std.proofs.Common.{◌≡◌, Bool, true, false, cond, List, [], ◌∷◌, ◌++◌, map, refl, sym, ap, ap₂, ◌∙◌, append-nil}
use Rattle.std.specs.List.{filter}
use Rattle.std.proofs.lemmas.Bool.{true≢false}
use Rattle.std.proofs.lemmas.List.Elements.{filter-append}
use Rattle.dump_core.specs.declared.texts.TextKind.{TextKind}
use Rattle.dump_core.specs.declared.texts.TextKind.TheVariants.{Early, View, Rule}
use Rattle.dump_core.specs.Texts.{SourceText, same_kind, of_kind}
use Rattle.dump_laws.proofs.SaidTexts.{texts_of_kind}

-- those before all rows, those of views, those of database constraints
abbrev pub texts_in_order : List SourceText → List SourceText
texts_in_order texts = texts_of_kind Early texts ++ (texts_of_kind View texts ++ texts_of_kind Rule texts)

-- ---- some of some

module _ {X : Type 0} (p q : X → Bool) where
  filter-other : ((x : X) → q x ≡ true → p x ≡ false) → (xs : List X) → filter p (filter q xs) ≡ []
  filter-other none [] = refl
  filter-other none (x ∷ xs) = by (q x) refl (filter-other none xs)
    where
      by : (b : Bool) → q x ≡ b → filter p (filter q xs) ≡ [] → filter p (cond b (x ∷ filter q xs) (filter q xs)) ≡ []
      by true e more = ap (λ (b : Bool). cond b (x ∷ filter p (filter q xs)) (filter p (filter q xs))) (none x e) ∙ more
      by false e more = more

filter-again : {X : Type 0} (p : X → Bool) (xs : List X) → filter p (filter p xs) ≡ filter p xs
filter-again p [] = refl
filter-again {X} p (x ∷ xs) = by (p x) refl (filter-again p xs)
  where
    by : (b : Bool) → p x ≡ b → filter p (filter p xs) ≡ filter p xs → filter p (cond b (x ∷ filter p xs) (filter p xs)) ≡ cond b (x ∷ filter p xs) (filter p xs)
    by true e more = ap (λ (b : Bool). cond b (x ∷ filter p (filter p xs)) (filter p (filter p xs))) e ∙ ap (λ (l : List X). x ∷ l) more
    by false e more = more

-- ---- kinds

other-kind : (k a b : TextKind) → same_kind a b ≡ false → same_kind k b ≡ true → same_kind k a ≡ false
other-kind Early Early Early n e = n
other-kind Early Early View n e = absurd (true≢false (sym e))
other-kind Early Early Rule n e = absurd (true≢false (sym e))
other-kind Early View b n e = refl
other-kind Early Rule b n e = refl
other-kind View Early b n e = refl
other-kind View View Early n e = absurd (true≢false (sym e))
other-kind View View View n e = n
other-kind View View Rule n e = absurd (true≢false (sym e))
other-kind View Rule b n e = refl
other-kind Rule Early b n e = refl
other-kind Rule View b n e = refl
other-kind Rule Rule Early n e = absurd (true≢false (sym e))
other-kind Rule Rule View n e = absurd (true≢false (sym e))
other-kind Rule Rule Rule n e = n

none-of : (a b : TextKind) (texts : List SourceText) → same_kind a b ≡ false → texts_of_kind a (texts_of_kind b texts) ≡ []
none-of a b texts n = filter-other (λ (t : SourceText). same_kind t.kind a) (λ (t : SourceText). same_kind t.kind b) (λ t e. other-kind t.kind a b n e) texts

same-of : (a : TextKind) (texts : List SourceText) → texts_of_kind a (texts_of_kind a texts) ≡ texts_of_kind a texts
same-of a texts = filter-again (λ (t : SourceText). same_kind t.kind a) texts

parts-of-kind : (a : TextKind) (xs ys zs : List SourceText) → texts_of_kind a (xs ++ (ys ++ zs)) ≡ texts_of_kind a xs ++ (texts_of_kind a ys ++ texts_of_kind a zs)
parts-of-kind a xs ys zs =
    filter-append (λ (t : SourceText). same_kind t.kind a) xs (ys ++ zs) ∙ ap (λ (l : List SourceText). texts_of_kind a xs ++ l) (filter-append (λ (t : SourceText). same_kind t.kind a) ys zs)

pub ordered-early : (texts : List SourceText) → of_kind Early (texts_in_order texts) ≡ of_kind Early texts
ordered-early texts =
    ap (map (λ (t : SourceText). t.bytes))
    (parts-of-kind Early (texts_of_kind Early texts) (texts_of_kind View texts) (texts_of_kind Rule texts)
    ∙ (ap₂ (λ (k l : List SourceText). k ++ l) (same-of Early texts) (ap₂ (λ (k l : List SourceText). k ++ l) (none-of Early View texts refl) (none-of Early Rule texts refl))
    ∙ append-nil (texts_of_kind Early texts)))

pub ordered-views : (texts : List SourceText) → of_kind View (texts_in_order texts) ≡ of_kind View texts
ordered-views texts =
    ap (map (λ (t : SourceText). t.bytes))
    (parts-of-kind View (texts_of_kind Early texts) (texts_of_kind View texts) (texts_of_kind Rule texts)
    ∙ (ap₂ (λ (k l : List SourceText). k ++ l) (none-of View Early texts refl) (ap₂ (λ (k l : List SourceText). k ++ l) (same-of View texts) (none-of View Rule texts refl))
    ∙ append-nil (texts_of_kind View texts)))

pub ordered-rules : (texts : List SourceText) → of_kind Rule (texts_in_order texts) ≡ of_kind Rule texts
ordered-rules texts =
    ap (map (λ (t : SourceText). t.bytes))
    (parts-of-kind Rule (texts_of_kind Early texts) (texts_of_kind View texts) (texts_of_kind Rule texts)
    ∙ ap₂ (λ (k l : List SourceText). k ++ l) (none-of Rule Early texts refl) (ap₂ (λ (k l : List SourceText). k ++ l) (none-of Rule View texts refl) (same-of Rule texts)))
