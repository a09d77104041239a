-- The texts of a kind, with what they say.
--     texts_of_kind      the texts of a kind
--     early-said      those that stand before all rows
--     view-said, rule-said      those of views and of database constraints, which say this under all ordinal types
--     said-more      texts behind others
use Rattle.std.proofs.Common.{◌≡◌, Bool, true, false, cond, List, [], ◌∷◌, ◌++◌, refl, sym, ap, ◌∙◌, subst, append_assoc, append-nil}
use Rattle.std.specs.List.{filter, flat_map}
use Rattle.value_core.specs.declared.list.OrdinalNames.{OrdinalNames}
use Rattle.tree_core.specs.Relvars.{State}
use Rattle.dump_core.specs.declared.texts.TextKind.{TextKind}
use Rattle.dump_core.specs.declared.texts.TextKind.TheVariants.{Early, View, Rule}
use Rattle.dump_core.specs.Texts.{SourceText, same_kind}
use Rattle.typing_laws.specs.Saying.{Said, ordinals_said}
use Rattle.dump_laws.specs.Kept.{kind_said, is_early_said, is_view_said, AreTextsFrom}
use Rattle.dump_laws.proofs.TextLaws.{text-kind}
use Rattle.dump_laws.specs.Standing.{is_rule_said, AreSaidFrom}
use Rattle.dump_laws.proofs.OrderLaws.{late-ordinals, view-ordinals, rule-ordinals}

-- the texts of a kind
abbrev pub texts_of_kind : TextKind → List SourceText → List SourceText
texts_of_kind kind texts = filter (λ t. same_kind t.kind kind) texts

pub said-more : (w : State) (types : List OrdinalNames) (texts us : List SourceText) (ds es : List Said) → AreSaidFrom w types texts ds → AreSaidFrom w (types ++ flat_map ordinals_said ds) us es
    → AreSaidFrom w types (texts ++ us) (ds ++ es)
said-more w types [] us [] es h k = subst (λ (l : List OrdinalNames). AreSaidFrom w l us es) (append-nil types) k
said-more w types [] us (d ∷ ds) es h k = absurd h
said-more w types (t ∷ texts) us [] es h k = absurd h
said-more w types (t ∷ texts) us (d ∷ ds) es h k = (
  h.0,
  said-more w (types ++ ordinals_said d) texts us ds es h.1 (subst (λ (l : List OrdinalNames). AreSaidFrom w l us es) (sym (append_assoc types (ordinals_said d) (flat_map ordinals_said ds))) k),
)

pub early-said : (w : State) (types : List OrdinalNames) (texts : List SourceText) (ds : List Said) → AreTextsFrom w types texts ds
    → AreSaidFrom w types (texts_of_kind Early texts) (filter is_early_said ds)
early-said w types [] [] h = tt
early-said w types [] (d ∷ ds) h = absurd h
early-said w types (t ∷ texts) [] h = absurd h
early-said w types (t ∷ texts) (d ∷ ds) h =
    subst (λ (k : TextKind). AreSaidFrom w types (cond (same_kind k Early) (t ∷ texts_of_kind Early texts) (texts_of_kind Early texts)) (filter is_early_said (d ∷ ds)))
    (sym (text-kind (record w { ordinals = types }) t d h.0))
    (by (is_early_said d) refl (early-said w (types ++ ordinals_said d) texts ds h.1))
  where
    by : (b : Bool) → is_early_said d ≡ b → AreSaidFrom w (types ++ ordinals_said d) (texts_of_kind Early texts) (filter is_early_said ds)
        → AreSaidFrom w types (cond b (t ∷ texts_of_kind Early texts) (texts_of_kind Early texts)) (cond b (d ∷ filter is_early_said ds) (filter is_early_said ds))
    by true e more = ((types, [], sym (append-nil types), h.0), more)
    by false e more =
        subst (λ (l : List OrdinalNames). AreSaidFrom w l (texts_of_kind Early texts) (filter is_early_said ds))
        (ap (λ (l : List OrdinalNames). types ++ l) (late-ordinals d e) ∙ append-nil types) more

-- texts that say this under all ordinal types
module _ (w : State) (all : List OrdinalNames) (kind : TextKind) (is_kind : Said → Bool) (same : (d : Said) → same_kind (kind_said d) kind ≡ is_kind d)
    (none : (d : Said) → is_kind d ≡ true → ordinals_said d ≡ [])
  where
    late-said : (types : List OrdinalNames) (texts : List SourceText) (ds : List Said) → all ≡ types ++ flat_map ordinals_said ds → AreTextsFrom w types texts ds
        → AreSaidFrom w all (texts_of_kind kind texts) (filter is_kind ds)
    late-said types [] [] e h = tt
    late-said types [] (d ∷ ds) e h = absurd h
    late-said types (t ∷ texts) [] e h = absurd h
    late-said types (t ∷ texts) (d ∷ ds) e h =
        subst (λ (b : Bool). AreSaidFrom w all (cond b (t ∷ texts_of_kind kind texts) (texts_of_kind kind texts)) (filter is_kind (d ∷ ds)))
        (sym (ap (λ (k : TextKind). same_kind k kind) (text-kind (record w { ordinals = types }) t d h.0) ∙ same d))
        (by (is_kind d) refl (late-said (types ++ ordinals_said d) texts ds (e ∙ sym (append_assoc types (ordinals_said d) (flat_map ordinals_said ds))) h.1))
      where
        by : (b : Bool) → is_kind d ≡ b → AreSaidFrom w all (texts_of_kind kind texts) (filter is_kind ds)
            → AreSaidFrom w all (cond b (t ∷ texts_of_kind kind texts) (texts_of_kind kind texts)) (cond b (d ∷ filter is_kind ds) (filter is_kind ds))
        by true q more = (
          (types, ordinals_said d ++ flat_map ordinals_said ds, e, h.0),
          subst (λ (l : List OrdinalNames). AreSaidFrom w l (texts_of_kind kind texts) (filter is_kind ds)) (sym (ap (λ (l : List OrdinalNames). all ++ l) (none d q) ∙ append-nil all)) more,
        )
        by false q more = more

pub view-said : (w : State) (texts : List SourceText) (ds : List Said) → w.ordinals ≡ flat_map ordinals_said ds → AreTextsFrom w [] texts ds
    → AreSaidFrom w w.ordinals (texts_of_kind View texts) (filter is_view_said ds)
view-said w texts ds e h = late-said w w.ordinals View is_view_said (λ d. refl) view-ordinals [] texts ds e h

pub rule-said : (w : State) (texts : List SourceText) (ds : List Said) → w.ordinals ≡ flat_map ordinals_said ds → AreTextsFrom w [] texts ds
    → AreSaidFrom w w.ordinals (texts_of_kind Rule texts) (filter is_rule_said ds)
rule-said w texts ds e h = late-said w w.ordinals Rule is_rule_said (λ d. refl) rule-ordinals [] texts ds e h
