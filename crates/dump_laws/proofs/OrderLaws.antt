-- What is said, in the order of a script.
--     distinct-front, in-kept      the first part of what has no repeats, and what is given where some members are left out
--     kept-distinct, two-apart      members give different things, also where some members are left out, and two members apart
--     only-kept, none-left      where what is left out gives nothing, and where what is left does
--     early-rules, early-ordinals, late-ordinals, view-ordinals, rule-ordinals, rule-entries      what is added by each kind, and what is not
--     order-distinct      no name is said twice
--     order-member, member-order      the same is said
--     order-ordinals, order-entries, order-rules      what all of it adds to a state
--     parts-length      what stands before all rows and views are no more than all
use Rattle.std.proofs.Common.{◌≡◌, ◌⊎◌, inl, inr, ◌+◌, ◌≤◌, Bool, true, false, cond, List, [], ◌∷◌, ◌++◌, map, length, refl, sym, ap, ap₂, ◌∙◌, subst, append-nil, arith}
use Rattle.std.specs.List.{filter, flat_map, IsDistinct}
use Rattle.std.specs.Str.{bytes_eq}
use Rattle.std.proofs.lemmas.Bool.{true≢false}
use Rattle.base_core.proofs.ListLemmas.{bytes_eq-sym}
use Rattle.base_core.proofs.MemberLemmas.{In-append, In-filter, In-flat_map}
use Rattle.base_core.proofs.SetLemmas.{In}
use Rattle.value_core.specs.Values.{Name}
use Rattle.value_core.specs.declared.list.OrdinalNames.{OrdinalNames}
use Rattle.tree_core.specs.Relvars.{State, base, view, log, Entries, Rules, derived, stored, of_history}
use Rattle.typing_laws.specs.Saying.{Said, said_ordinal, said_base, said_view, said_stored, said_history, said_rule, names_said, entries_said, ordinals_said, rules_said}
use Rattle.dump_laws.specs.Kept.{is_early, is_late, is_early_said, is_view_said, IsMadeOf}
use Rattle.part_laws.specs.Parts.{emptied}
use Rattle.std.proofs.lemmas.List.Concat.{flat_map-append}
use Rattle.dump_laws.proofs.ListLaws.{distinct-apart, distinct-later, distinct-without, distinct-join}
use Rattle.dump_laws.specs.Standing.{is_rule_said, in_script_order}

-- ---- members that give different things

pub distinct-front : {X : Type 0} (e : X → X → Bool) (xs ys : List X) → IsDistinct e (xs ++ ys) → IsDistinct e xs
distinct-front {X} e xs ys d =
    let whole : IsDistinct e (xs ++ (ys ++ [])) = subst (λ (l : List X). IsDistinct e (xs ++ l)) (sym (append-nil ys)) d in
    subst (IsDistinct e) (append-nil xs) (distinct-without e xs ys [] whole)

pub in-kept : {X Y : Type 0} (f : X → List Y) (p : X → Bool) (y : Y) (xs : List X) → In y (flat_map f (filter p xs)) → In y (flat_map f xs)
in-kept f p y xs i =
    let parts = (In-flat_map f y (filter p xs)).0 i in
    (In-flat_map f y xs).1 (parts.0, ((In-filter p parts.0 xs).0 parts.1).0, parts.2)

module _ {X Y : Type 0} (e : Y → Y → Bool) (f : X → List Y) where
  pub kept-distinct : (p : X → Bool) (xs : List X) → IsDistinct e (flat_map f xs) → IsDistinct e (flat_map f (filter p xs))
  kept-distinct p [] d = d
  kept-distinct p (x ∷ xs) d = by (p x) (kept-distinct p xs (distinct-later e (f x) (flat_map f xs) d))
    where
      by : (b : Bool) → IsDistinct e (flat_map f (filter p xs)) → IsDistinct e (flat_map f (cond b (x ∷ filter p xs) (filter p xs)))
      by true more =
          distinct-join e (f x) (flat_map f (filter p xs)) (distinct-front e (f x) (flat_map f xs) d) more
          (λ a b i j. distinct-apart e (f x) (flat_map f xs) d a b i (in-kept f p b xs j))
      by false more = more

  pub two-apart : ((a b : Y) → e a b ≡ e b a) → (xs : List X) → IsDistinct e (flat_map f xs) → (x y : X) → (x ≡ y → ⊥) → In x xs → In y xs → (a b : Y) → In a (f x) → In b (f y) → e a b ≡ false
  two-apart swap [] d x y other i j a b k l = absurd i
  two-apart swap (z ∷ xs) d x y other i j a b k l = elim i [
    | inl p ↦ elim j [
      | inl q ↦ absurd (other (p ∙ sym q))
      | inr q ↦ distinct-apart e (f z) (flat_map f xs) d a b (subst (λ (v : X). In a (f v)) p k) ((In-flat_map f b xs).1 (y, q, l))
    ]
    | inr p ↦ elim j [
      | inl q ↦ swap a b ∙ distinct-apart e (f z) (flat_map f xs) d b a (subst (λ (v : X). In b (f v)) q l) ((In-flat_map f a xs).1 (x, p, k))
      | inr q ↦ two-apart swap xs (distinct-later e (f z) (flat_map f xs) d) x y other p q a b k l
    ]
  ]

module _ {X Y : Type 0} (f : X → List Y) (p : X → Bool) where
  pub only-kept : (xs : List X) → ((x : X) → p x ≡ false → f x ≡ []) → flat_map f (filter p xs) ≡ flat_map f xs
  only-kept [] none = refl
  only-kept (x ∷ xs) none = by (p x) refl (only-kept xs none)
    where
      by : (b : Bool) → p x ≡ b → flat_map f (filter p xs) ≡ flat_map f xs → flat_map f (cond b (x ∷ filter p xs) (filter p xs)) ≡ f x ++ flat_map f xs
      by true q more = ap (λ (l : List Y). f x ++ l) more
      by false q more = more ∙ ap (λ (l : List Y). l ++ flat_map f xs) (sym (none x q))

  pub none-left : (xs : List X) → ((x : X) → p x ≡ true → f x ≡ []) → flat_map f (filter p xs) ≡ []
  none-left [] none = refl
  none-left (x ∷ xs) none = by (p x) refl (none-left xs none)
    where
      by : (b : Bool) → p x ≡ b → flat_map f (filter p xs) ≡ [] → flat_map f (cond b (x ∷ filter p xs) (filter p xs)) ≡ []
      by true q more = ap₂ (λ (k l : List Y). k ++ l) (none x q) more
      by false q more = more

pub parts-length : (es : Entries) → length (filter is_early es) + length (filter is_late es) ≤ length es
parts-length [] = omega arith
parts-length ((name, base value constraints) ∷ es) = let more = parts-length es in omega (arith, more)
parts-length ((name, view t derived) ∷ es) = let more = parts-length es in omega (arith, more)
parts-length ((name, view t stored) ∷ es) = let more = parts-length es in omega (arith, more)
parts-length ((name, view t (of_history names)) ∷ es) = let more = parts-length es in omega (arith, more)
parts-length ((name, log o k last w) ∷ es) = let more = parts-length es in omega (arith, more)

-- ---- the three kinds

pub late-ordinals : (d : Said) → is_early_said d ≡ false → ordinals_said d ≡ []
late-ordinals (said_ordinal name names) e = absurd (true≢false e)
late-ordinals (said_base name heading typed) e = refl
late-ordinals (said_view name t) e = refl
late-ordinals (said_stored name t) e = refl
late-ordinals (said_history made) e = refl
late-ordinals (said_rule name t) e = refl

pub view-ordinals : (d : Said) → is_view_said d ≡ true → ordinals_said d ≡ []
view-ordinals (said_ordinal name names) e = absurd (true≢false (sym e))
view-ordinals (said_base name heading typed) e = refl
view-ordinals (said_view name t) e = refl
view-ordinals (said_stored name t) e = refl
view-ordinals (said_history made) e = refl
view-ordinals (said_rule name t) e = refl

pub rule-ordinals : (d : Said) → is_rule_said d ≡ true → ordinals_said d ≡ []
rule-ordinals (said_ordinal name names) e = absurd (true≢false (sym e))
rule-ordinals (said_base name heading typed) e = refl
rule-ordinals (said_view name t) e = refl
rule-ordinals (said_stored name t) e = refl
rule-ordinals (said_history made) e = refl
rule-ordinals (said_rule name t) e = refl

pub early-rules : (d : Said) → is_early_said d ≡ true → rules_said d ≡ []
early-rules (said_ordinal name names) e = refl
early-rules (said_base name heading typed) e = refl
early-rules (said_view name t) e = refl
early-rules (said_stored name t) e = refl
early-rules (said_history made) e = refl
early-rules (said_rule name t) e = absurd (true≢false (sym e))

view-rules : (d : Said) → is_view_said d ≡ true → rules_said d ≡ []
view-rules (said_ordinal name names) e = refl
view-rules (said_base name heading typed) e = refl
view-rules (said_view name t) e = refl
view-rules (said_stored name t) e = refl
view-rules (said_history made) e = refl
view-rules (said_rule name t) e = absurd (true≢false (sym e))

other-rules : (d : Said) → is_rule_said d ≡ false → rules_said d ≡ []
other-rules (said_ordinal name names) e = refl
other-rules (said_base name heading typed) e = refl
other-rules (said_view name t) e = refl
other-rules (said_stored name t) e = refl
other-rules (said_history made) e = refl
other-rules (said_rule name t) e = absurd (true≢false e)

pub rule-entries : (d : Said) → is_rule_said d ≡ true → entries_said d ≡ []
rule-entries (said_ordinal name names) e = refl
rule-entries (said_base name heading typed) e = absurd (true≢false (sym e))
rule-entries (said_view name t) e = absurd (true≢false (sym e))
rule-entries (said_stored name t) e = absurd (true≢false (sym e))
rule-entries (said_history made) e = absurd (true≢false (sym e))
rule-entries (said_rule name t) e = refl

-- what is said has one kind
early-no-view : (x y : Said) → is_early_said x ≡ true → is_view_said y ≡ true → x ≡ y → ⊥
early-no-view x y p q e = clash x p (subst (λ (d : Said). is_view_said d ≡ true) (sym e) q)
  where
    clash : (d : Said) → is_early_said d ≡ true → is_view_said d ≡ true → ⊥
    clash (said_ordinal name names) a b = true≢false (sym b)
    clash (said_base name heading typed) a b = true≢false (sym b)
    clash (said_view name t) a b = true≢false (sym a)
    clash (said_stored name t) a b = true≢false (sym a)
    clash (said_history made) a b = true≢false (sym b)
    clash (said_rule name t) a b = true≢false (sym b)

other-no-rule : (x y : Said) → (is_early_said x ≡ true) ⊎ (is_view_said x ≡ true) → is_rule_said y ≡ true → x ≡ y → ⊥
other-no-rule x y p q e = clash x p (subst (λ (d : Said). is_rule_said d ≡ true) (sym e) q)
  where
    clash : (d : Said) → (is_early_said d ≡ true) ⊎ (is_view_said d ≡ true) → is_rule_said d ≡ true → ⊥
    clash (said_ordinal name names) a b = true≢false (sym b)
    clash (said_base name heading typed) a b = true≢false (sym b)
    clash (said_view name t) a b = true≢false (sym b)
    clash (said_stored name t) a b = true≢false (sym b)
    clash (said_history made) a b = true≢false (sym b)
    clash (said_rule name t) a b = elim a [ inl c ↦ true≢false (sym c) | inr c ↦ true≢false (sym c) ]

-- ---- the same is said

in-some : (p : Said → Bool) (d : Said) (ds : List Said) → In d (filter p ds) → In d ds
in-some p d ds i = ((In-filter p d ds).0 i).0

in-kind : (p : Said → Bool) (d : Said) (ds : List Said) → In d (filter p ds) → p d ≡ true
in-kind p d ds i = ((In-filter p d ds).0 i).1

pub order-member : (d : Said) (ds : List Said) → In d (in_script_order ds) → In d ds
order-member d ds i = elim ((In-append d (filter is_early_said ds) (filter is_view_said ds ++ filter is_rule_said ds)).0 i) [
  | inl j ↦ in-some is_early_said d ds j
  | inr j ↦ elim ((In-append d (filter is_view_said ds) (filter is_rule_said ds)).0 j) [
    | inl k ↦ in-some is_view_said d ds k
    | inr k ↦ in-some is_rule_said d ds k
  ]
]

as-early : (d : Said) (ds : List Said) → In d ds → is_early_said d ≡ true → In d (in_script_order ds)
as-early d ds i e = (In-append d (filter is_early_said ds) (filter is_view_said ds ++ filter is_rule_said ds)).1 (inl ((In-filter is_early_said d ds).1 (i, e)))

as-view : (d : Said) (ds : List Said) → In d ds → is_view_said d ≡ true → In d (in_script_order ds)
as-view d ds i e =
    (In-append d (filter is_early_said ds) (filter is_view_said ds ++ filter is_rule_said ds)).1
    (inr ((In-append d (filter is_view_said ds) (filter is_rule_said ds)).1 (inl ((In-filter is_view_said d ds).1 (i, e)))))

as-rule : (d : Said) (ds : List Said) → In d ds → is_rule_said d ≡ true → In d (in_script_order ds)
as-rule d ds i e =
    (In-append d (filter is_early_said ds) (filter is_view_said ds ++ filter is_rule_said ds)).1
    (inr ((In-append d (filter is_view_said ds) (filter is_rule_said ds)).1 (inr ((In-filter is_rule_said d ds).1 (i, e)))))

pub member-order : (d : Said) (ds : List Said) → In d ds → In d (in_script_order ds)
member-order (said_ordinal name names) ds i = as-early (said_ordinal name names) ds i refl
member-order (said_base name heading typed) ds i = as-early (said_base name heading typed) ds i refl
member-order (said_view name t) ds i = as-view (said_view name t) ds i refl
member-order (said_stored name t) ds i = as-view (said_stored name t) ds i refl
member-order (said_history made) ds i = as-early (said_history made) ds i refl
member-order (said_rule name t) ds i = as-rule (said_rule name t) ds i refl

-- ---- no name is said twice

pub order-distinct : (ds : List Said) → IsDistinct bytes_eq (flat_map names_said ds) → IsDistinct bytes_eq (flat_map names_said (in_script_order ds))
order-distinct ds d =
    let first : List Said = filter is_early_said ds in
    let views : List Said = filter is_view_said ds in
    let last : List Said = filter is_rule_said ds in
    let apart : (x y : Said) → (x ≡ y → ⊥) → In x ds → In y ds → (a b : Name) → In a (names_said x) → In b (names_said y) → bytes_eq a b ≡ false = two-apart bytes_eq names_said bytes_eq-sym ds d in
    let late : IsDistinct bytes_eq (flat_map names_said (views ++ last)) =
    subst (IsDistinct bytes_eq) (sym (flat_map-append names_said views last))
    (distinct-join bytes_eq (flat_map names_said views) (flat_map names_said last) (kept-distinct bytes_eq names_said is_view_said ds d)
    (kept-distinct bytes_eq names_said is_rule_said ds d) (λ a b i j.
    let x = (In-flat_map names_said a views).0 i in
    let y = (In-flat_map names_said b last).0 j in
    apart x.0 y.0 (other-no-rule x.0 y.0 (inr (in-kind is_view_said x.0 ds x.1)) (in-kind is_rule_said y.0 ds y.1)) (in-some is_view_said x.0 ds x.1)
    (in-some is_rule_said y.0 ds y.1) a b x.2 y.2)) in
    subst (IsDistinct bytes_eq) (sym (flat_map-append names_said first (views ++ last)))
    (distinct-join bytes_eq (flat_map names_said first) (flat_map names_said (views ++ last)) (kept-distinct bytes_eq names_said is_early_said ds d) late (λ a b i j.
    let x = (In-flat_map names_said a first).0 i in
    let y = (In-flat_map names_said b (views ++ last)).0 j in
    elim ((In-append y.0 views last).0 y.1) [
      | inl k ↦ apart x.0 y.0 (early-no-view x.0 y.0 (in-kind is_early_said x.0 ds x.1) (in-kind is_view_said y.0 ds k)) (in-some is_early_said x.0 ds x.1)
          (in-some is_view_said y.0 ds k) a b x.2 y.2
      | inr k ↦ apart x.0 y.0 (other-no-rule x.0 y.0 (inl (in-kind is_early_said x.0 ds x.1)) (in-kind is_rule_said y.0 ds k)) (in-some is_early_said x.0 ds x.1)
          (in-some is_rule_said y.0 ds k) a b x.2 y.2
    ]))

-- ---- what is added

module _ (w : State) (ds : List Said) (made : IsMadeOf w ds) where
  pub early-ordinals : flat_map ordinals_said (filter is_early_said ds) ≡ w.ordinals
  early-ordinals = only-kept ordinals_said is_early_said ds late-ordinals ∙ sym made.ordinals

  pub order-entries : flat_map entries_said (in_script_order ds) ≡ map emptied (filter is_early w.relvars) ++ filter is_late w.relvars
  order-entries =
      flat_map-append entries_said (filter is_early_said ds) (filter is_view_said ds ++ filter is_rule_said ds)
      ∙ (ap (λ (l : Entries). flat_map entries_said (filter is_early_said ds) ++ l)
      (flat_map-append entries_said (filter is_view_said ds) (filter is_rule_said ds)
      ∙ (ap (λ (l : Entries). flat_map entries_said (filter is_view_said ds) ++ l) (none-left entries_said is_rule_said ds rule-entries) ∙ append-nil
      (flat_map entries_said (filter is_view_said ds))))
      ∙ ap₂ (λ (k l : Entries). k ++ l) (sym made.early) (sym made.views))

  pub order-rules : flat_map rules_said (in_script_order ds) ≡ w.rules
  order-rules =
      flat_map-append rules_said (filter is_early_said ds) (filter is_view_said ds ++ filter is_rule_said ds)
      ∙ (ap₂ (λ (k l : Rules). k ++ l) (none-left rules_said is_early_said ds early-rules)
      (flat_map-append rules_said (filter is_view_said ds) (filter is_rule_said ds)
      ∙ ap₂ (λ (k l : Rules). k ++ l) (none-left rules_said is_view_said ds view-rules) (only-kept rules_said is_rule_said ds other-rules))
      ∙ sym made.rules)

  pub order-ordinals : flat_map ordinals_said (in_script_order ds) ≡ w.ordinals
  order-ordinals =
      flat_map-append ordinals_said (filter is_early_said ds) (filter is_view_said ds ++ filter is_rule_said ds)
      ∙ (ap₂ (λ (k l : List OrdinalNames). k ++ l) early-ordinals
      (flat_map-append ordinals_said (filter is_view_said ds) (filter is_rule_said ds)
      ∙ ap₂ (λ (k l : List OrdinalNames). k ++ l) (none-left ordinals_said is_view_said ds view-ordinals) (none-left ordinals_said is_rule_said ds rule-ordinals))
      ∙ append-nil w.ordinals)
