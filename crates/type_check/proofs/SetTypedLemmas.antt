-- The items of an UPDATE that are typed make the target's own heading.
use Rattle.std.specs.Prelude.{◌≡◌, ◌≤◌, ℕ, ◌+◌, Bool, true, false, not, List, [], ◌∷◌, ◌++◌, length, Some, Ok, Err, IfOk, IsTrue, refl, if◌then◌else◌}
use Rattle.std.proofs.Common.{sym, ◌∙◌, ap, subst, inl, inr}
use Rattle.std.specs.List.{list_any, All}
use Rattle.std.specs.Str.{bytes_eq}
use Rattle.std.proofs.lemmas.Bool.{not_from_false}
use Rattle.std.proofs.lemmas.List.Sorted.{IsPermutation-sym}
use Rattle.base_core.proofs.SetLemmas.{In, Ascends}
use Rattle.base_core.proofs.MemberLemmas.{In-append, In-map, In-filter, list_any-In}
use Rattle.base_core.proofs.SetOperatorLemmas.{In-permutation}
use Rattle.point_core.specs.declared.fault.Code.TheVariants.{E14}
use Rattle.point_core.specs.Faults.{OrFault}
use Rattle.utd_syntax.specs.Plain.{Word, ScalarP, SetItemP, SetItem, SetsP}
use Rattle.value_core.specs.declared.kind.Kind.{Kind}
use Rattle.value_core.specs.declared.list.OrdinalNames.{OrdinalNames}
use Rattle.value_core.specs.Headings.{has_name}
use Rattle.value_core.specs.Limits.{most_attributes}
use Rattle.value_core.specs.Values.{Name, Heading, attribute_cmp, is_heading}
use Rattle.value_core.proofs.HeadingLemmas.{attribute_total}
use Rattle.scalar_core.specs.Expressions.{Expr}
use Rattle.scalar_core.specs.KindOf.{same_kind}
use Rattle.relation_core.specs.Agreement.{names_of}
use Rattle.relation_core.proofs.ApartLemmas.{from_in_order, ascends_in_order}
use Rattle.relation_core.proofs.HeadingLemmas.{one_list, heading_ascends, few_attributes}
use Rattle.relation_typing.specs.Attributes.{with_attribute, new_name}
use Rattle.relation_typing.specs.Items.{Made, none_made}
use Rattle.scalar_typing.specs.Names.{first_from, attribute_of}
use Rattle.scalar_typing.specs.Scalars.{typed_scalar}
use Rattle.scalar_typing.specs.Typings.{value_or}
use Rattle.scalar_typing.proofs.SoundLemmas.{then-sound}
use Rattle.scalar_typing.proofs.TypedLemmas.{mapped, or-refused}
use Rattle.scalar_core.proofs.KindOfLemmas.{same_kind-same}
use Rattle.tree_core.specs.Trees.{PlainSets}
use Rattle.meaning_core.specs.Typing.{IsScalar, IsExtension, not_named}
use Rattle.meaning_core.specs.WellMade.{sizes_of, IsOrdinalType}
use Rattle.meaning_core.proofs.MadeLemmas.{one_in_order, own_name as own, same_name}
use Rattle.node_typing.specs.Headings.{made_beside}
use Rattle.node_typing.specs.Positions.{check}
use Rattle.node_typing.specs.Rows.{item_list}
use Rattle.item_typing.specs.Sets.{set_typed, sets_typed, sets_made}
use Rattle.type_check.proofs.PutLemmas.{insert-permutes}
use Rattle.type_check.proofs.ItemLemmas.{IsMade, made-none, made-more}
use Rattle.type_check.proofs.ExtensionLemmas.{order-permutes, beside-apart, extension-of}
use Rattle.type_check.proofs.KeptLemmas.{Assigns, AreAssigned, new-word}
use Rattle.declaration_typing.proofs.FitLemmas.{both-hold}
use Rattle.type_check.proofs.PositionLemmas.{named-in}
use Rattle.declaration_typing.proofs.PositionLemmas.{held}
use Rattle.declaration_typing.proofs.HistoryLaws.{new-attribute}
use Rattle.type_check.proofs.ScalarLemmas.{typed-is_scalar}

-- what follows from what is given is given
pub onward : {X : Type 0} (P Q : X → Type 0) (r : OrFault X) → IfOk r P → ((x : X) → P x → Q x) → IfOk r Q
onward P Q (Ok x) h more = more x h
onward P Q (Err e) h more = tt

-- ---- attributes that are found

-- the first that passes is a member that passes
pub first-in : {X : Type 0} (p : X → Bool) (n : ℕ) (xs : List X) (i : ℕ) (x : X) → first_from p n xs ≡ Some (i, x) → In x xs × (p x ≡ true)
first-in p n [] i x e = absurd cc
first-in {X} p n (y ∷ ys) i x e = by-test (p y) refl (first-in p (n + 1) ys i x) e
  where
    by-test : (b : Bool) → p y ≡ b → (first_from p (n + 1) ys ≡ Some (i, x) → In x ys × (p x ≡ true)) → (if b then Some (n, y) else first_from p (n + 1) ys) ≡ Some (i, x)
        → In x (y ∷ ys) × (p x ≡ true)
    by-test true f more e = let one : (n, y) ≡ (i, x) = cc in let same : y ≡ x = ap (λ (q : ℕ × X). q.1) one in (inl (sym same), subst (λ (z : X). p z ≡ true) same f)
    by-test false f more e = let h = more e in (inr h.0, h.1)

-- the attribute of a word is one of the heading
pub found-attribute : (heading : Heading) (w : Word) → IfOk (value_or w.place E14 (attribute_of heading w.bytes)) (λ (found : ℕ × Kind). In (w.bytes, found.1) heading)
found-attribute heading w =
    or-refused (λ (found : ℕ × Kind). In (w.bytes, found.1) heading) w.place _ (attribute_of heading w.bytes)
    (mapped (λ (found : ℕ × Kind). In (w.bytes, found.1) heading) (first_from (λ a. bytes_eq a.0 w.bytes) 0 heading) _ (λ found e.
    let h = first-in (λ (a : Name × Kind). bytes_eq a.0 w.bytes) 0 heading found.0 found.1 e in
    let same : found.1.0 ≡ w.bytes = same_name found.1.0 w.bytes h.1 in
    subst (λ (n : Name). In (n, found.1.1) heading) same h.0))

-- ---- items so far

-- the items are of scalars over the heading, make attributes of it, and are among the written ones
pub record AreSet (sizes : List ℕ) (heading : Heading) (list : List SetItemP) (m : Made) : Type 0 where
  pub made : IsMade sizes heading m.0 m.1
  pub within : (a : Name × Kind) → In a m.1 → In a heading
  pub known : (s : Name × Expr) → In s m.0 → IsTrue (has_name heading s.0)
  pub assigned : AreAssigned list m.0

none-set : (sizes : List ℕ) (heading : Heading) (list : List SetItemP) → AreSet sizes heading list none_made
none-set sizes heading list = record { made = made-none sizes heading; within = λ a i. absurd i; known = λ s i. absurd i; assigned = λ s i. absurd i }

set-more : (sizes : List ℕ) (heading : Heading) (list : List SetItemP) (before : Made) (name : Name) (e : Expr) (kind : Kind) → AreSet sizes heading list before → has_name before.1 name ≡ false
    → IsScalar sizes heading e kind → In (name, kind) heading → Assigns list name → AreSet sizes heading list (before.0 ++ (name, e) ∷ [], with_attribute before.1 name kind)
set-more sizes heading list before name e kind h new is there here = record {
  made = made-more sizes heading before.0 before.1 name e kind h.made new is;
  within = λ a i.
      let moved = insert-permutes before.1 name kind new in
      let j : In a ((name, kind) ∷ before.1) = In-permutation (with_attribute before.1 name kind) ((name, kind) ∷ before.1) a (IsPermutation-sym ((name, kind) ∷ before.1) (with_attribute before.1 name kind) moved) i in
      elim j [ inl k ↦ subst (λ (z : Name × Kind). In z heading) (sym k) there | inr k ↦ h.within a k ];
  known = λ s i.
      elim ((In-append s before.0 ((name, e) ∷ [])).0 i) [
        | inl j ↦ h.known s j
        | inr j ↦ elim j [ inl k ↦ subst (λ (n : Name). IsTrue (has_name heading n)) (sym (ap (λ (z : Name × Expr). z.0) k)) (named-in heading name kind there) | inr k ↦ absurd k ]
      ];
  assigned = λ s i.
      elim ((In-append s before.0 ((name, e) ∷ [])).0 i) [
        | inl j ↦ h.assigned s j
        | inr j ↦ elim j [ inl k ↦ subst (Assigns list) (sym (ap (λ (z : Name × Expr). z.0) k)) here | inr k ↦ absurd k ]
      ];
}

-- ---- attributes of a heading beside its other ones are its attributes

own-beside : (attributes from : Heading) → Ascends attribute_cmp attributes → Ascends attribute_cmp from → ((a : Name × Kind) → In a attributes → In a from) → from ≡ made_beside attributes from
own-beside attributes from up up' within =
    one_list attribute_cmp attribute_total from (made_beside attributes from) up' (ascends_in_order attribute_cmp attribute_total (attributes ++ not_named (names_of attributes) from)) (λ a. (into a, out a))
  where
    listed : (a : Name × Kind) (b : Bool) → list_any (bytes_eq a.0) (names_of attributes) ≡ b → In a from → In a (attributes ++ not_named (names_of attributes) from)
    listed a true e i =
        let w = (list_any-In (bytes_eq a.0) (names_of attributes)).0 e in
        let b = (In-map (λ (c : Name × Kind). c.0) w.0 attributes).0 w.1 in
        let named : bytes_eq b.0.0 a.0 ≡ true = subst (λ (n : Name). bytes_eq n a.0 ≡ true) (same_name a.0 w.0 w.2 ∙ b.2) (own a.0) in
        let same : b.0 ≡ a = one_in_order from a b.0 up' i (within b.0 b.1) named in
        (In-append a attributes (not_named (names_of attributes) from)).1 (inl (subst (λ (z : Name × Kind). In z attributes) same b.1))
    listed a false e i =
        (In-append a attributes (not_named (names_of attributes) from)).1
        (inr ((In-filter (λ (c : Name × Kind). not (list_any (bytes_eq c.0) (names_of attributes))) a from).1 (i, not_from_false (list_any (bytes_eq a.0) (names_of attributes)) e)))

    into : (a : Name × Kind) → In a from → In a (made_beside attributes from)
    into a i =
        In-permutation (attributes ++ not_named (names_of attributes) from) (made_beside attributes from) a
        (order-permutes (attributes ++ not_named (names_of attributes) from) (beside-apart attributes from up up'))
        (listed a (list_any (bytes_eq a.0) (names_of attributes)) refl i)

    out : (a : Name × Kind) → In a (made_beside attributes from) → In a from
    out a i =
        elim ((In-append a attributes (not_named (names_of attributes) from)).0 (from_in_order attribute_cmp a (attributes ++ not_named (names_of attributes) from) i)) [
          | inl j ↦ within a j
          | inr j ↦ ((In-filter (λ (c : Name × Kind). not (list_any (bytes_eq c.0) (names_of attributes))) a from).0 j).0
        ]

own-extension : (sizes : List ℕ) (heading : Heading) (list : List SetItemP) (m : Made) → IsTrue (is_heading heading) → AreSet sizes heading list m → IsExtension sizes heading heading m.0
own-extension sizes heading list m headed h =
    let up = heading_ascends heading headed in
    let same = own-beside m.1 heading h.made.listed.ascends up h.within in
    extension-of sizes heading heading m.0 m.1 up h.made same (subst (λ (z : Heading). length z ≤ most_attributes) same (few_attributes heading headed))

-- ---- items

-- the items make the heading itself, of its attributes, and are among the written ones
pub record IsUpdate (sizes : List ℕ) (heading : Heading) (list : List SetItemP) (sets : PlainSets) : Type 0 where
  pub extension : IsExtension sizes heading heading sets
  pub known : (s : Name × Expr) → In s sets → IsTrue (has_name heading s.0)
  pub assigned : AreAssigned list sets

module _ (types : List OrdinalNames) (ordinals : All IsOrdinalType types) (heading : Heading) where
  set-sound : (list : List SetItemP) (before : Made) (w : Word) (s : ScalarP) → Assigns list w.bytes → AreSet (sizes_of types) heading list before
      → IfOk (set_typed types heading before w s) (AreSet (sizes_of types) heading list)
  set-sound list before w s here h =
      then-sound (λ (found : ℕ × Kind). In (w.bytes, found.1) heading) (AreSet (sizes_of types) heading list) (value_or w.place _ (attribute_of heading w.bytes)) _ (found-attribute heading w) (λ found there.
      then-sound (λ (name : Name). (name ≡ w.bytes) × (has_name before.1 name ≡ false)) (AreSet (sizes_of types) heading list) (new_name before.1 w) _
      (both-hold (λ (name : Name). name ≡ w.bytes) (λ (name : Name). has_name before.1 name ≡ false) (new_name before.1 w) (new-word before.1 w) (new-attribute before.1 w)) (λ name new.
      then-sound (λ (e : Expr × Kind). IsScalar (sizes_of types) heading e.0 e.1) (AreSet (sizes_of types) heading list) (typed_scalar types heading s) _
      (typed-is_scalar types ordinals heading s) (λ e is.
      then-sound (λ _. IsTrue (same_kind e.1 found.1)) (AreSet (sizes_of types) heading list) (check w.place _ (same_kind e.1 found.1)) _ (held w.place _ (same_kind e.1 found.1)) (λ _ same.
      let kind : found.1 ≡ e.1 = sym (same_kind-same e.1 found.1 same) in
      let attribute : In (name, e.1) heading = subst (λ (n : Name). In (n, e.1) heading) (sym new.0) (subst (λ (k : Kind). In (w.bytes, k) heading) kind there) in
      set-more (sizes_of types) heading list before name e.0 e.1 h new.1 is attribute (subst (Assigns list) (sym new.0) here)))))

  sets-sound : (list : List SetItemP) (before : Made) (rest : List SetItemP) → ((name : Name) → Assigns rest name → Assigns list name) → AreSet (sizes_of types) heading list before
      → IfOk (sets_typed types heading before rest) (AreSet (sizes_of types) heading list)
  sets-sound list before [] within h = h
  sets-sound list before (SetItem w s ∷ rest) within h =
      then-sound (AreSet (sizes_of types) heading list) (AreSet (sizes_of types) heading list) (set_typed types heading before w s) _ (set-sound list before w s (within w.bytes (inl refl)) h)
      (λ next is. sets-sound list next rest (λ name g. within name (inr g)) is)

  pub sets-made-sound : (sets : SetsP) → IsTrue (is_heading heading) → IfOk (sets_made types heading sets) (IsUpdate (sizes_of types) heading (item_list sets))
  sets-made-sound sets headed =
      then-sound (AreSet (sizes_of types) heading (item_list sets)) (IsUpdate (sizes_of types) heading (item_list sets)) (sets_typed types heading none_made (item_list sets)) _
      (sets-sound (item_list sets) none_made (item_list sets) (λ name g. g) (none-set (sizes_of types) heading (item_list sets)))
      (λ made h. record { extension = own-extension (sizes_of types) heading (item_list sets) made headed h; known = h.known; assigned = h.assigned })
