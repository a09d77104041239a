-- Where the values of a group's row come from: from the aggregates or from attributes of the groups, and the listed ones from those
-- that are listed of the operand.
use Rattle.std.proofs.Common.{◌≡◌, ◌⊎◌, inl, inr, ℕ, suc, ◌+◌, ◌<◌, Bool, false, List, [], ◌∷◌, ◌++◌, map, length, get_or, refl, sym, ap, ◌∙◌, subst}
use Rattle.std.specs.Bool.{IsTrue}
use Rattle.std.specs.Cmp.Lexicographic.{texts_ties, nat_list_eq_equiv}
use Rattle.std.specs.List.{AllByRecursion, IsDistinct, list_all}
use Rattle.std.specs.Ordering.{is_eq}
use Rattle.std.specs.Str.{bytes_eq}
use Rattle.std.proofs.lemmas.Bool.{true≢false, cases_Bool}
use Rattle.std.proofs.lemmas.List.{map-append, get_or-map}
use Rattle.std.proofs.lemmas.List.Sorted.{IsPermutation-sym}
use Rattle.std.proofs.lemmas.Map.Keys.{IsDistinct-IsPermutation}
use Rattle.base_core.proofs.MemberLemmas.{In-append, In-map, list_any-In, list_all-In}
use Rattle.base_core.proofs.SetLemmas.{In, Ascends}
use Rattle.base_core.proofs.SetOperatorLemmas.{In-permutation, AllAfter-In}
use Rattle.base_core.proofs.ListLemmas.{In-get_or}
use Rattle.value_core.specs.Attributes.{among}
use Rattle.value_core.specs.Headings.{has_name}
use Rattle.value_core.specs.Values.{Name, Heading, attribute_cmp, is_heading}
use Rattle.value_core.specs.declared.kind.Kind.{Kind}
use Rattle.relation_core.specs.Agreement.{names_of, position_of}
use Rattle.relation_core.specs.Parts.{no_attribute, attributes_at}
use Rattle.relation_core.proofs.AttributeLemmas.{named_In}
use Rattle.relation_core.proofs.HeadingLemmas.{heading_ascends, within_by_members}
use Rattle.relation_core.proofs.AgreementLemmas.{position_within}
use Rattle.tree_core.specs.Trees.{PlainAggregate}
use Rattle.meaning_core.specs.Meanings.{names_at, positions_of}
use Rattle.meaning_core.specs.Places.{place_among, places}
use Rattle.meaning_core.specs.Rows.{aggregate_names}
use Rattle.meaning_core.specs.Typing.{Sums, IsSummary}
use Rattle.meaning_core.proofs.MadeLemmas.{place-position}
use Rattle.u_row.proofs.LabelLemmas.{map_twice}
use Rattle.u_join.proofs.NameLemmas.{position_at, position_prefix, position_behind, maps_agree}
use Rattle.meaning_core.proofs.GroupFits.{sum_names}

pub sum_count : (sizes : List ℕ) (from : Heading) (aggregates : List PlainAggregate) (made : Heading) → Sums sizes from aggregates made → length aggregates ≡ length made
sum_count sizes from [] [] h = refl
sum_count sizes from [] (a ∷ made) h = absurd h
sum_count sizes from (g ∷ aggregates) [] h = absurd h
sum_count sizes from (g ∷ aggregates) (a ∷ made) h = ap suc (sum_count sizes from aggregates made h.2)

-- ---- names that differ

abbrev named_alike : Name × Kind → Name × Kind → Bool
named_alike a b = bytes_eq a.0 b.0

all_apart : (a : Name × Kind) (rest : Heading) → ((b : Name × Kind) → In b rest → named_alike a b ≡ false) → AllByRecursion (λ b. named_alike a b ≡ false) rest
all_apart a [] h = tt
all_apart a (b ∷ rest) h = (h b (inl refl), all_apart a rest (λ c i. h c (inr i)))

ascending_apart : (heading : Heading) → Ascends attribute_cmp heading → IsDistinct named_alike heading
unfolding IsDistinct
ascending_apart [] up = tt
ascending_apart (a ∷ rest) up = (all_apart a rest (λ b i. texts_ties a.0 b.0 ∙ ap is_eq ((AllAfter-In attribute_cmp a rest).0 up.0 b i)), ascending_apart rest up.1)

one_apart : (b : Name × Kind) (rest : Heading) (a : Name × Kind) → AllByRecursion (λ c. named_alike b c ≡ false) rest → In a rest → named_alike b a ≡ false
one_apart b [] a h i = absurd i
one_apart b (c ∷ rest) a h i = elim i [ inl e ↦ subst (λ (z : Name × Kind). named_alike b z ≡ false) (sym e) h.0 | inr j ↦ one_apart b rest a h.1 j ]

both_sides : (left right : Heading) (b a : Name × Kind) → IsDistinct named_alike (left ++ right) → In b left → In a right → named_alike b a ≡ false
unfolding IsDistinct
both_sides [] right b a d i j = absurd i
both_sides (c ∷ left) right b a d i j = elim i [
  | inl e ↦ subst (λ (z : Name × Kind). named_alike z a ≡ false) (sym e) (one_apart c (left ++ right) a d.0 ((In-append a left right).1 (inr j)))
  | inr k ↦ both_sides left right b a d.1 k j
]

module _ (sizes : List ℕ) (from to : Heading) (by : List ℕ) (aggregates : List PlainAggregate) (headed : IsTrue (is_heading from)) (is : IsSummary sizes from to by aggregates) where
  abbrev pub at : List ℕ
  at = places (aggregate_names aggregates ++ names_of from) to

  abbrev pub many : ℕ
  many = length is.made

  abbrev kept : Heading
  kept = attributes_at by from

  abbrev list : Heading
  list = is.made ++ kept

  ascends_to : Ascends attribute_cmp to
  ascends_to = heading_ascends to is.headed.ordered

  apart : IsDistinct named_alike list
  apart = IsDistinct-IsPermutation named_alike (λ a b. nat_list_eq_equiv.symm a.0 b.0) to list (IsPermutation-sym list to is.headed.same) (ascending_apart to ascends_to)

  own_place : (j : ℕ) → j < length to → get_or at j 0 ≡ position_of (is.made ++ from) (get_or to j no_attribute).0
  own_place j l =
      let names : aggregate_names aggregates ++ names_of from ≡ names_of (is.made ++ from) =
      ap (λ (ns : List Name). ns ++ names_of from) (sum_names sizes from aggregates is.made is.makes) ∙ sym (map-append (λ (a : Name × Kind). a.0) is.made from) in
      get_or-map (λ (a : Name × Kind). place_among (aggregate_names aggregates ++ names_of from) a.0) to j no_attribute 0 l
      ∙ ap (λ (ns : List Name). place_among ns (get_or to j no_attribute).0) names
      ∙ place-position (is.made ++ from) (get_or to j no_attribute).0

  -- each value is one of an aggregate, or that of an attribute of the groups
  pub made_or_by : (j : ℕ) → j < length to → (get_or at j 0 < many) ⊎ ((p : ℕ) × In p by × (get_or at j 0 ≡ many + p) × (get_or from p no_attribute ≡ get_or to j no_attribute))
  made_or_by j l =
      let a : Name × Kind = get_or to j no_attribute in
      let m : In a list = In-permutation to list a (IsPermutation-sym list to is.headed.same) (In-get_or to j no_attribute l) in
      let e = own_place j l in
      elim (cases_Bool (has_name is.made a.0)) [
        | inl t ↦ inl (subst (λ k. k < many) (sym (e ∙ position_prefix is.made from a.0 t)) (position_within is.made a.0 t))
        | inr f ↦ elim ((In-append a is.made kept).0 m) [
          | inl k ↦ absurd (true≢false (sym (named_In is.made a k) ∙ f))
          | inr k ↦
              let w = (In-map (λ (p : ℕ). get_or from p no_attribute) a by).0 k in
              let low : w.0 < length from = within_by_members (length from) by is.positions.within w.0 w.1 in
              let back : position_of from a.0 ≡ w.0 = ap (λ (b : Name × Kind). position_of from b.0) w.2 ∙ position_at from w.0 (heading_ascends from headed) low in
              inr (w.0, w.1, e ∙ position_behind is.made from a.0 f ∙ ap (λ k. many + k) back, sym w.2)
        ]
      ]

  -- ---- listed attributes

  module _ (commalist ls : List ℕ) (listed_is : ls ≡ positions_of from (names_at to commalist)) (same : attributes_at ls from ≡ attributes_at commalist to) (within : (i : ℕ) → In i commalist → i < length to)
      (below : (p : ℕ) → In p ls → p < length from) (grouped : IsTrue (list_all (among by) ls)) (among_by : (p : ℕ) → IsTrue (among by p) → In p by) where
    abbrev pub own : ℕ → ℕ
    own i = position_of from (get_or to i no_attribute).0

    pub listed_own : ls ≡ map own commalist
    listed_own = listed_is ∙ map_twice (position_of from) (λ i. (get_or to i no_attribute).0) commalist

    held : (i : ℕ) → In i commalist → get_or from (own i) no_attribute ≡ get_or to i no_attribute
    held i m =
        maps_agree (λ i. get_or from (own i) no_attribute) (λ i. get_or to i no_attribute) commalist
        (sym (map_twice (λ p. get_or from p no_attribute) own commalist) ∙ ap (λ ps. attributes_at ps from) (sym listed_own) ∙ same) i m

    in_listed : (i : ℕ) → In i commalist → In (own i) ls
    in_listed i m = subst (In (own i)) (sym listed_own) ((In-map own (own i) commalist).1 (i, m, refl))

    not_made : (i : ℕ) → In i commalist → has_name is.made (get_or to i no_attribute).0 ≡ false
    not_made i m =
        let a : Name × Kind = get_or to i no_attribute in
        let there : In a kept = (In-map (λ (p : ℕ). get_or from p no_attribute) a by).1 (own i, among_by (own i) ((list_all-In (among by) ls).0 grouped (own i) (in_listed i m)), sym (held i m)) in
        elim (cases_Bool (has_name is.made a.0)) [
          | inl t ↦
              let w = (list_any-In (λ b. bytes_eq b.0 a.0) is.made).0 t in
              absurd (true≢false (sym w.2 ∙ both_sides is.made kept w.0 a apart w.1 there))
          | inr f ↦ f
        ]

    -- a listed attribute of the group's row is that of the operand
    pub at_listed : (i : ℕ) → In i commalist → get_or at i 0 ≡ many + own i
    at_listed i m = own_place i (within i m) ∙ position_behind is.made from (get_or to i no_attribute).0 (not_made i m)

    -- and another one is none of these
    pub at_other : (j : ℕ) → j < length to → (In j commalist → ⊥) → (get_or at j 0 < many) ⊎ ((p : ℕ) × In p by × (get_or at j 0 ≡ many + p) × (In p ls → ⊥))
    at_other j l out = elim (made_or_by j l) [
      | inl k ↦ inl k
      | inr w ↦ inr (
        w.0,
        w.1,
        w.2,
        λ i.
            let v = (In-map own w.0 commalist).0 (subst (In w.0) listed_own i) in
            let one : get_or to v.0 no_attribute ≡ get_or to j no_attribute = sym (held v.0 v.1) ∙ ap (λ p. get_or from p no_attribute) (sym v.2) ∙ w.3 in
            let e : v.0 ≡ j = sym (position_at to v.0 ascends_to (within v.0 v.1)) ∙ ap (λ (b : Name × Kind). position_of to b.0) one ∙ position_at to j ascends_to l in
            out (subst (λ k. In k commalist) e v.1),
      )
    ]
