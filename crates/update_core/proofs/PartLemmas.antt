-- The nodes of updates are parts that USING takes.
use Rattle.std.specs.Prelude.{◌≡◌, ℕ, ◌<◌, true, false, not, ◌&&◌, List, [], ◌∷◌, length, IsTrue, refl}
use Rattle.std.specs.List.{list_all, list_any}
use Rattle.std.proofs.Common.{sym, ap, ap₂, ◌∙◌, inl, inr}
use Rattle.std.proofs.lemmas.Bool.{and_parts, and_from, true≢false, false_from_ne_true, not-true, not_from_false}
use Rattle.std.specs.Str.{bytes_eq}
use Rattle.base_core.proofs.MemberLemmas.{In-map, list_any-In}
use Rattle.base_core.proofs.SetLemmas.{In, Ascends}
use Rattle.point_core.specs.declared.fault.Place.{Place}
use Rattle.value_core.specs.Attributes.{among}
use Rattle.value_core.specs.Headings.{has_name}
use Rattle.value_core.specs.Values.{Name, Heading, attribute_cmp}
use Rattle.scalar_core.specs.Expressions.{Expr}
use Rattle.scalar_core.specs.KindOf.{same_kind}
use Rattle.scalar_core.proofs.KindOfLemmas.{same_kind-self}
use Rattle.relation_core.specs.Agreement.{position_of}
use Rattle.relation_core.proofs.AttributeLemmas.{name_is}
use Rattle.relation_core.specs.Parts.{kind_at}
use Rattle.tree_core.specs.declared.tree.InfixWord.{InfixWord}
use Rattle.tree_core.specs.Trees.{PlainSets, Tree, infix_of, restrict, extend, heading_of}
use Rattle.meaning_core.specs.Histories.{name_at}
use Rattle.meaning_core.specs.Meanings.{positions_of, names_at}
use Rattle.meaning_core.specs.Typing.{is_alike_at, are_in, is_swept, is_part}
use Rattle.update_core.proofs.ConditionLemmas.{IsSwept, swept-to, member-among}
use Rattle.update_core.proofs.NameLemmas.{position-own, has-own}

alike-own : (h : Heading) (i : ℕ) → i < length h → is_alike_at h h (name_at h i) ≡ true
alike-own h i l =
    let name = name_at h i in
    let same = same_kind (kind_at h (position_of h name)) (kind_at h (position_of h name)) in
    and_from (has_name h name) (has_name h name && same) (has-own h i l) (and_from (has_name h name) same (has-own h i l) (same_kind-self (kind_at h (position_of h name))))

abbrev pub AreWithin : Heading → List ℕ → Type 0
AreWithin h commalist = (i : ℕ) → In i commalist → i < length h

in-own : (h : Heading) (commalist : List ℕ) → AreWithin h commalist → are_in h (names_at h commalist) h ≡ true
in-own h [] within = refl
in-own h (i ∷ is) within =
    and_from (is_alike_at h h (name_at h i)) (are_in h (names_at h is) h) (alike-own h i (within i (inl refl))) (in-own h is (λ j k. within j (inr k)))

positions-own : (h : Heading) (commalist : List ℕ) → Ascends attribute_cmp h → AreWithin h commalist → positions_of h (names_at h commalist) ≡ commalist
positions-own h [] up within = refl
positions-own h (i ∷ is) up within =
    ap₂ (λ (j : ℕ) (js : List ℕ). j ∷ js) (position-own h i up (within i (inl refl))) (positions-own h is up (λ j k. within j (inr k)))

module _ (h : Heading) (commalist : List ℕ) (up : Ascends attribute_cmp h) (within : AreWithin h commalist) (place : Place) where
  are-in : (t : Tree) → heading_of t ≡ h → are_in h (names_at h commalist) (heading_of t) ≡ true
  are-in t e = ap (λ (g : Heading). are_in h (names_at h commalist) g) e ∙ in-own h commalist within

  positions-in : (t : Tree) → heading_of t ≡ h → positions_of (heading_of t) (names_at h commalist) ≡ commalist
  positions-in t e = ap (λ (g : Heading). positions_of g (names_at h commalist)) e ∙ positions-own h commalist up within

  pub infix-part : (word : InfixWord) (l r : Tree) → heading_of l ≡ h → heading_of r ≡ h → IsTrue (is_part (names_at h commalist) (infix_of place h word l r))
  infix-part word l r e f = and_from (are_in h (names_at h commalist) (heading_of l)) (are_in h (names_at h commalist) (heading_of r)) (are-in l e) (are-in r f)

  pub restrict-part : (c : Expr) (t : Tree) → heading_of t ≡ h → IsSwept commalist place c → IsTrue (is_part (names_at h commalist) (restrict place h c t))
  restrict-part c t e swept = ap (λ (ps : List ℕ). is_swept ps c) (positions-in t e) ∙ swept-to commalist place c swept

  -- no item of the list's names
  none-assigned : (sets : PlainSets) → list_any (λ s. among commalist (position_of h s.0)) sets ≡ false
      → list_any (λ n. list_any (λ (s : Name × Expr). bytes_eq n s.0) sets) (names_at h commalist) ≡ false
  none-assigned sets none =
      false_from_ne_true (list_any (λ n. list_any (λ (s : Name × Expr). bytes_eq n s.0) sets) (names_at h commalist)) (λ e.
      let n = (list_any-In (λ n. list_any (λ (s : Name × Expr). bytes_eq n s.0) sets) (names_at h commalist)).0 e in
      let s = (list_any-In (λ (s : Name × Expr). bytes_eq n.0 s.0) sets).0 n.2 in
      let k = (In-map (name_at h) n.0 commalist).0 n.1 in
      let same : n.0 ≡ s.0.0 = name_is n.0 s.0.0 s.2 in
      let at : position_of h s.0.0 ≡ k.0 = ap (position_of h) (sym same ∙ k.2) ∙ position-own h k.0 up (within k.0 k.1) in
      let hit : among commalist (position_of h s.0.0) ≡ true = ap (among commalist) at ∙ member-among commalist k.0 k.1 in
      let any = (list_any-In (λ (s : Name × Expr). among commalist (position_of h s.0)) sets).1 (s.0, s.1, hit) in
      true≢false (sym any ∙ none))

  pub extend-part : (sets : PlainSets) (t : Tree) → heading_of t ≡ h → IsTrue (list_all (λ s. is_swept commalist s.1) sets && not (list_any (λ s. among commalist (position_of h s.0)) sets))
      → IsTrue (is_part (names_at h commalist) (extend place h sets t))
  extend-part sets t e swept =
      let parts = and_parts (list_all (λ s. is_swept commalist s.1) sets) (not (list_any (λ s. among commalist (position_of h s.0)) sets)) swept in
      let there : list_all (λ (s : Name × Expr). is_swept (positions_of (heading_of t) (names_at h commalist)) s.1) sets ≡ true = ap (λ (ps : List ℕ). list_all (λ (s : Name × Expr). is_swept ps s.1) sets) (positions-in t e) ∙ parts.0 in
      let none = none-assigned sets (not-true (list_any (λ s. among commalist (position_of h s.0)) sets) parts.1) in
      let assigned = list_any (λ n. list_any (λ (s : Name × Expr). bytes_eq n s.0) sets) (names_at h commalist) in
      let swept_there = list_all (λ (s : Name × Expr). is_swept (positions_of (heading_of t) (names_at h commalist)) s.1) sets in
      and_from (are_in h (names_at h commalist) (heading_of t)) (swept_there && not assigned) (are-in t e) (and_from swept_there (not assigned) there (not_from_false assigned none))
