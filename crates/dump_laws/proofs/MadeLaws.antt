-- A state and what is said of it.
--     entry-in, ordinal-in, rule-in      what is said stands in the state
--     early-or-late, never-both, never-late      which entries stand before all rows, and which are views
--     said-of, said-rule-of      what stands in the state is said, logs aside
--     named-in, in-named      an entry that is looked up, and one that stands there
--     taken-by      a name that is said is taken
--     made-more      the state with what is said is made of one more
use Rattle.std.proofs.Common.{◌≡◌, inl, inr, Bool, true, false, cond, List, [], ◌∷◌, ◌++◌, map, refl, sym, ap, ap₂, ◌∙◌, subst, Some}
use Rattle.std.specs.Prelude.{is_some, ◌||◌}
use Rattle.std.specs.List.{filter, flat_map, list_any, IsDistinct}
use Rattle.std.specs.Str.{bytes_eq}
use Rattle.std.proofs.lemmas.Bool.{true≢false, or_left, or_right}
use Rattle.std.proofs.lemmas.List.{map-append}
use Rattle.std.proofs.lemmas.List.Elements.{filter-append}
use Rattle.base_core.proofs.MemberLemmas.{In-filter, In-flat_map, In-map, list_any-In}
use Rattle.base_core.proofs.SetLemmas.{In}
use Rattle.value_core.specs.declared.list.OrdinalNames.{OrdinalNames}
use Rattle.value_core.specs.Values.{Name}
use Rattle.tree_core.specs.Relvars.{State, PlainRelvar, base, view, Entries, Rules, relvar_named, log, derived, stored, of_history}
use Rattle.tree_core.specs.Trees.{Test}
use Rattle.meaning_core.specs.Logs.{is_log}
use Rattle.meaning_core.proofs.ElsewhereLemmas.{some-apart}
use Rattle.meaning_core.proofs.MadeLemmas.{own_name, same_name}
use Rattle.declaration_typing.specs.Names.{is_rule, is_taken}
use Rattle.typing_laws.specs.Saying.{Said, said_ordinal, said_base, said_view, said_stored, said_history, said_rule, names_said, entries_said, ordinals_said, rules_said, with_said}
use Rattle.dump_laws.specs.Kept.{is_early, is_late, is_early_said, is_view_said, IsListedAs}
use Rattle.part_laws.specs.Parts.{emptied}
use Rattle.dump_laws.proofs.ListLaws.{gathered, given-last, distinct-join}

-- ---- entries

-- what is said before all rows, and of views
abbrev pub early_of : Said → Entries
early_of d = cond (is_early_said d) (entries_said d) []

abbrev pub views_of : Said → Entries
views_of d = cond (is_view_said d) (entries_said d) []

pub in-early : (e : Name × PlainRelvar) (d : Said) → In e (early_of d) → In e (entries_said d)
in-early e (said_ordinal name names) i = i
in-early e (said_base name heading typed) i = i
in-early e (said_view name t) i = absurd i
in-early e (said_stored name t) i = absurd i
in-early e (said_history made) i = i
in-early e (said_rule name t) i = absurd i

pub in-views : (e : Name × PlainRelvar) (d : Said) → In e (views_of d) → In e (entries_said d)
in-views e (said_ordinal name names) i = absurd i
in-views e (said_base name heading typed) i = absurd i
in-views e (said_view name t) i = i
in-views e (said_stored name t) i = i
in-views e (said_history made) i = absurd i
in-views e (said_rule name t) i = absurd i

-- the names of entries are said
pub entry-name : (e : Name × PlainRelvar) (d : Said) → In e (entries_said d) → In e.0 (names_said d)
entry-name e (said_ordinal name names) i = absurd i
entry-name e (said_base name heading typed) i = elim i [ inl k ↦ inl (ap (λ (x : Name × PlainRelvar). x.0) k) | inr k ↦ absurd k ]
entry-name e (said_view name t) i = elim i [ inl k ↦ inl (ap (λ (x : Name × PlainRelvar). x.0) k) | inr k ↦ absurd k ]
entry-name e (said_stored name t) i = elim i [ inl k ↦ inl (ap (λ (x : Name × PlainRelvar). x.0) k) | inr k ↦ absurd k ]
entry-name e (said_history made) i = elim i [
  | inl k ↦ inl (ap (λ (x : Name × PlainRelvar). x.0) k)
  | inr j ↦ elim j [
    | inl k ↦ inr (inl (ap (λ (x : Name × PlainRelvar). x.0) k))
    | inr l ↦ elim l [ inl k ↦ inr (inr (inl (ap (λ (x : Name × PlainRelvar). x.0) k))) | inr k ↦ absurd k ]
  ]
]
entry-name e (said_rule name t) i = absurd i

-- ---- what is looked up

pub named-in : (es : Entries) (name : Name) (r : PlainRelvar) → relvar_named es name ≡ Some r → In (name, r) es
named-in [] name r e = absurd (cc)
named-in (k ∷ es) name r e = by (bytes_eq k.0 name) refl (named-in es name r) e
  where
    by : (b : Bool) → bytes_eq k.0 name ≡ b → (relvar_named es name ≡ Some r → In (name, r) es) → cond b (Some k.1) (relvar_named es name) ≡ Some r → In (name, r) (k ∷ es)
    by true q more f = let same : k.1 ≡ r = cc in inl (λ i. (sym (same_name k.0 name q) i, sym same i))
    by false q more f = inr (more f)

pub in-named : (es : Entries) (x : Name × PlainRelvar) → In x es → is_some (relvar_named es x.0) ≡ true
in-named [] x i = absurd i
in-named (k ∷ es) x i = elim i [
  | inl e ↦ ap (λ (b : Bool). is_some (cond b (Some k.1) (relvar_named es x.0))) (subst (λ (y : Name × PlainRelvar). bytes_eq y.0 x.0 ≡ true) e (own_name x.0))
  | inr j ↦ by (bytes_eq k.0 x.0) (in-named es x j)
]
  where
    by : (b : Bool) → is_some (relvar_named es x.0) ≡ true → is_some (cond b (Some k.1) (relvar_named es x.0)) ≡ true
    by true more = refl
    by false more = more

-- a view that no history has is as it is without rows
late-same : (x : Name × PlainRelvar) → is_late x ≡ true → emptied x ≡ x
late-same (name, base value constraints) e = absurd (true≢false (sym e))
late-same (name, view t derived) e = refl
late-same (name, view t stored) e = refl
late-same (name, view t (of_history names)) e = refl
late-same (name, log o k last w) e = refl

-- what is no log stands before all rows, or is a view
pub early-or-late : (x : Name × PlainRelvar) → is_log x.1 ≡ false → is_early x ≡ false → is_late x ≡ true
early-or-late (name, base value constraints) none e = absurd (true≢false e)
early-or-late (name, view t derived) none e = refl
early-or-late (name, view t stored) none e = refl
early-or-late (name, view t (of_history names)) none e = absurd (true≢false e)
early-or-late (name, log o k last w) none e = absurd (true≢false none)

-- and not both
pub never-both : (x : Name × PlainRelvar) → is_late x ≡ true → is_early x ≡ false
never-both (name, base value constraints) e = absurd (true≢false (sym e))
never-both (name, view t derived) e = refl
never-both (name, view t stored) e = refl
never-both (name, view t (of_history names)) e = absurd (true≢false (sym e))
never-both (name, log o k last w) e = refl

pub never-late : (x : Name × PlainRelvar) → is_early x ≡ true → is_late x ≡ false
never-late (name, base value constraints) e = refl
never-late (name, view t derived) e = absurd (true≢false (sym e))
never-late (name, view t stored) e = absurd (true≢false (sym e))
never-late (name, view t (of_history names)) e = refl
never-late (name, log o k last w) e = refl

module _ (w : State) (ds : List Said) (made : IsListedAs w ds) where
  -- ---- what is said stands in the state

  from-early : (e : Name × PlainRelvar) (d : Said) → In d ds → In e (entries_said d) → is_early_said d ≡ true → (x : Name × PlainRelvar) × In x w.relvars × (e ≡ emptied x)
  from-early e d i j q =
      let there : In e (flat_map entries_said (filter is_early_said ds)) = (In-flat_map entries_said e (filter is_early_said ds)).1 (d, (In-filter is_early_said d ds).1 (i, q), j) in
      let here = (In-map emptied e (filter is_early w.relvars)).0 (subst (In e) (sym made.early) there) in
      (here.0, ((In-filter is_early here.0 w.relvars).0 here.1).0, here.2)

  from-views : (e : Name × PlainRelvar) (d : Said) → In d ds → In e (entries_said d) → is_view_said d ≡ true → In e w.relvars × (is_late e ≡ true)
  from-views e d i j q =
      let there : In e (flat_map entries_said (filter is_view_said ds)) = (In-flat_map entries_said e (filter is_view_said ds)).1 (d, (In-filter is_view_said d ds).1 (i, q), j) in
      let here = (In-filter is_late e w.relvars).0 (subst (In e) (sym made.views) there) in
      (here.0, here.1)

  pub entry-in : (e : Name × PlainRelvar) (d : Said) → In d ds → In e (entries_said d) → (x : Name × PlainRelvar) × In x w.relvars × (e ≡ emptied x)
  entry-in e (said_ordinal name names) i j = absurd j
  entry-in e (said_base name heading typed) i j = from-early e (said_base name heading typed) i j refl
  entry-in e (said_view name t) i j =
      let is : e ≡ (name, view t derived) = elim j [ inl k ↦ k | inr k ↦ absurd k ] in
      (e, (from-views e (said_view name t) i j refl).0, subst (λ (x : Name × PlainRelvar). x ≡ emptied x) (sym is) refl)
  entry-in e (said_stored name t) i j =
      let is : e ≡ (name, view t stored) = elim j [ inl k ↦ k | inr k ↦ absurd k ] in
      (e, (from-views e (said_stored name t) i j refl).0, subst (λ (x : Name × PlainRelvar). x ≡ emptied x) (sym is) refl)
  entry-in e (said_history h) i j = from-early e (said_history h) i j refl
  entry-in e (said_rule name t) i j = absurd j

  pub ordinal-in : (o : OrdinalNames) (d : Said) → In d ds → In o (ordinals_said d) → In o w.ordinals
  ordinal-in o d i j = subst (In o) (sym made.ordinals) ((In-flat_map ordinals_said o ds).1 (d, i, j))

  pub rule-in : (r : Name × Test) (d : Said) → In d ds → In r (rules_said d) → In r w.rules
  rule-in r d i j = subst (In r) (sym made.rules) ((In-flat_map rules_said r ds).1 (d, i, j))

  -- ---- what stands in the state is said

  pub said-of : (x : Name × PlainRelvar) → In x w.relvars → is_log x.1 ≡ false → (d : Said) × In d ds × In (emptied x) (entries_said d)
  said-of x i none = by (is_early x) refl
    where
      by : (b : Bool) → is_early x ≡ b → (d : Said) × In d ds × In (emptied x) (entries_said d)
      by true q =
          let here : In (emptied x) (map emptied (filter is_early w.relvars)) = (In-map emptied (emptied x) (filter is_early w.relvars)).1 (x, (In-filter is_early x w.relvars).1 (i, q), refl) in
          let there = (In-flat_map entries_said (emptied x) (filter is_early_said ds)).0 (subst (In (emptied x)) made.early here) in
          (there.0, ((In-filter is_early_said there.0 ds).0 there.1).0, there.2)
      by false q =
          let late : is_late x ≡ true = early-or-late x none q in
          let here : In x (filter is_late w.relvars) = (In-filter is_late x w.relvars).1 (i, late) in
          let there = (In-flat_map entries_said x (filter is_view_said ds)).0 (subst (In x) made.views here) in
          (there.0, ((In-filter is_view_said there.0 ds).0 there.1).0, subst (λ (y : Name × PlainRelvar). In y (entries_said there.0)) (sym (late-same x late)) there.2)

  pub said-rule-of : (r : Name × Test) → In r w.rules → (d : Said) × In d ds × In r (rules_said d)
  said-rule-of r i = (In-flat_map rules_said r ds).0 (subst (In r) made.rules i)

  -- ---- names

  -- a name that is said is taken
  by-ordinal : (o : OrdinalNames) → In o w.ordinals → is_taken w o.name ≡ true
  by-ordinal o i =
      let here : list_any (λ (k : OrdinalNames). bytes_eq o.name k.name) w.ordinals ≡ true = (list_any-In (λ (k : OrdinalNames). bytes_eq o.name k.name) w.ordinals).1 (o, i, own_name o.name) in
      or_left (list_any (λ (k : OrdinalNames). bytes_eq o.name k.name) w.ordinals || is_some (relvar_named w.relvars o.name)) (is_rule w o.name)
      (or_left (list_any (λ (k : OrdinalNames). bytes_eq o.name k.name) w.ordinals) (is_some (relvar_named w.relvars o.name)) here)

  by-relvar : (x : Name × PlainRelvar) → In x w.relvars → is_taken w x.0 ≡ true
  by-relvar x i =
      or_left (list_any (λ (k : OrdinalNames). bytes_eq x.0 k.name) w.ordinals || is_some (relvar_named w.relvars x.0)) (is_rule w x.0)
      (or_right (list_any (λ (k : OrdinalNames). bytes_eq x.0 k.name) w.ordinals) (is_some (relvar_named w.relvars x.0)) (in-named w.relvars x i))

  by-rule : (r : Name × Test) → In r w.rules → is_taken w r.0 ≡ true
  by-rule r i =
      or_right (list_any (λ (k : OrdinalNames). bytes_eq r.0 k.name) w.ordinals || is_some (relvar_named w.relvars r.0)) (is_rule w r.0)
      ((list_any-In (λ (k : Name × Test). bytes_eq r.0 k.0) w.rules).1 (r, i, own_name r.0))

  by-entry : (e : Name × PlainRelvar) (d : Said) → In d ds → In e (entries_said d) → is_taken w e.0 ≡ true
  by-entry e d i j =
      let here = entry-in e d i j in
      subst (λ (n : Name). is_taken w n ≡ true) (sym (ap (λ (x : Name × PlainRelvar). x.0) here.2)) (by-relvar here.0 here.1)

  pub taken-by : (name : Name) (d : Said) → In d ds → In name (names_said d) → is_taken w name ≡ true
  taken-by name (said_ordinal own names) i j = elim j [
    | inl k ↦ subst (λ (n : Name). is_taken w n ≡ true) (sym k) (by-ordinal (record { name = own; values = names }) (ordinal-in _ (said_ordinal own names) i (inl refl)))
    | inr k ↦ absurd k
  ]
  taken-by name (said_base own heading typed) i j = elim j [
    | inl k ↦ subst (λ (n : Name). is_taken w n ≡ true) (sym k) (by-entry _ (said_base own heading typed) i (inl refl))
    | inr k ↦ absurd k
  ]
  taken-by name (said_view own t) i j = elim j [
    | inl k ↦ subst (λ (n : Name). is_taken w n ≡ true) (sym k) (by-entry _ (said_view own t) i (inl refl))
    | inr k ↦ absurd k
  ]
  taken-by name (said_stored own t) i j = elim j [
    | inl k ↦ subst (λ (n : Name). is_taken w n ≡ true) (sym k) (by-entry _ (said_stored own t) i (inl refl))
    | inr k ↦ absurd k
  ]
  taken-by name (said_history h) i j = elim j [
    | inl k ↦ subst (λ (n : Name). is_taken w n ≡ true) (sym k) (by-entry _ (said_history h) i (inl refl))
    | inr l ↦ elim l [
      | inl k ↦ subst (λ (n : Name). is_taken w n ≡ true) (sym k) (by-entry _ (said_history h) i (inr (inl refl)))
      | inr m ↦ elim m [
        | inl k ↦ subst (λ (n : Name). is_taken w n ≡ true) (sym k) (by-entry _ (said_history h) i (inr (inr (inl refl))))
        | inr k ↦ absurd k
      ]
    ]
  ]
  taken-by name (said_rule own t) i j = elim j [
    | inl k ↦ subst (λ (n : Name). is_taken w n ≡ true) (sym k) (by-rule (own, t) (rule-in _ (said_rule own t) i (inl refl)))
    | inr k ↦ absurd k
  ]

  -- ---- one more

  early-one : (d : Said) → map emptied (filter is_early (entries_said d)) ≡ early_of d
  early-one (said_ordinal name names) = refl
  early-one (said_base name heading typed) = refl
  early-one (said_view name t) = refl
  early-one (said_stored name t) = refl
  early-one (said_history h) = refl
  early-one (said_rule name t) = refl

  views-one : (d : Said) → filter is_late (entries_said d) ≡ views_of d
  views-one (said_ordinal name names) = refl
  views-one (said_base name heading typed) = refl
  views-one (said_view name t) = refl
  views-one (said_stored name t) = refl
  views-one (said_history h) = refl
  views-one (said_rule name t) = refl

  -- what is said under names that are free, and differ
  pub made-more : (d : Said) → ((name : Name) → In name (names_said d) → is_taken w name ≡ false) → IsDistinct bytes_eq (names_said d) → IsListedAs (with_said w d) (ds ++ d ∷ [])
  made-more d free differ = record {
    ordinals = ap (λ (l : List OrdinalNames). l ++ ordinals_said d) made.ordinals ∙ sym (given-last ordinals_said ds d);
    early =
        ap (map emptied) (filter-append is_early w.relvars (entries_said d))
        ∙ (map-append emptied (filter is_early w.relvars) (filter is_early (entries_said d))
        ∙ (ap₂ (λ (a b : Entries). a ++ b) (made.early ∙ gathered entries_said is_early_said ds) (early-one d)
        ∙ (sym (given-last early_of ds d) ∙ sym (gathered entries_said is_early_said (ds ++ d ∷ [])))));
    views =
        filter-append is_late w.relvars (entries_said d)
        ∙ (ap₂ (λ (a b : Entries). a ++ b) (made.views ∙ gathered entries_said is_view_said ds) (views-one d)
        ∙ (sym (given-last views_of ds d) ∙ sym (gathered entries_said is_view_said (ds ++ d ∷ []))));
    rules = ap (λ (l : Rules). l ++ rules_said d) made.rules ∙ sym (given-last rules_said ds d);
    different =
        subst (IsDistinct bytes_eq) (sym (given-last names_said ds d))
        (distinct-join bytes_eq (flat_map names_said ds) (names_said d) made.different differ
        (λ x y i j. let one = (In-flat_map names_said x ds).0 i in some-apart (is_taken w) x y (taken-by x one.0 one.1 one.2) (free y j)));
  }
