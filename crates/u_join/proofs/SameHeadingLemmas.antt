-- Of two relations of one heading, rows agree where they are the same: what is matched is what both have, and what is unmatched is what
-- the first has alone.
use Rattle.std.proofs.Common.{◌≡◌, ℕ, suc, ◌<◌, Bool, false, not, ◌||◌, inl, inr, List, [], ◌∷◌, map, length, get_or, refl, sym, ap, ap₂, ◌∙◌, subst, arith, Result, Option}
use Rattle.std.specs.Prelude.{IfSome, MatchResult}
use Rattle.std.specs.List.{list_any}
use Rattle.std.specs.Ordering.{eq_by_cmp}
use Rattle.std.proofs.lemmas.List.{get_or-map, length-map}
use Rattle.base_core.specs.Sets.{has}
use Rattle.base_core.proofs.SetLemmas.{In, Ascends}
use Rattle.value_core.specs.Headings.{has_name}
use Rattle.value_core.specs.RowPacking.{packed, unpacked}
use Rattle.value_core.specs.Values.{Name, Row, Heading, Relation, IsRelation, truth, attribute_cmp, row_cmp}
use Rattle.value_core.proofs.HeadingLemmas.{attribute_total}
use Rattle.value_core.specs.declared.kind.Kind.{Kind}
use Rattle.value_core.specs.declared.refuse.RowsRefuse.{RowsRefuse}
use Rattle.relation_core.specs.Agreement.{names_of, position_of, common_names, common_positions, part_of, agree, matched, unmatched}
use Rattle.relation_core.specs.Answers.{IsAnswer, IsRefusal}
use Rattle.relation_core.specs.Joins.{HaveEqualKinds}
use Rattle.relation_core.specs.Operators.{subtracted, intersected}
use Rattle.relation_core.specs.Parts.{no_attribute}
use Rattle.relation_core.proofs.ApartLemmas.{tells_ascending}
use Rattle.relation_core.proofs.AttributeLemmas.{of_name, name_is, ties_by_name, kinds_from}
use Rattle.relation_core.proofs.FilterLemmas.{filter_same, filter_all, rows_ascend}
use Rattle.relation_core.proofs.HeadingLemmas.{heading_ascends}
use Rattle.u_set.specs.Boxes.{AreIntervals}
use Rattle.u_set.proofs.PlaceLemmas.{opened_shaped}
use Rattle.u_set.proofs.RelationLemmas.{relation_shaped, shaped_under}
use Rattle.u_join.proofs.NameLemmas.{position_at}

-- ---- the part of a row at all its positions

own_part : (names : List Name) (place : Name → ℕ) (all row : Row) → length row ≡ length names → ((m : ℕ) → m < length row → get_or all (place (get_or names m [])) (truth false) ≡ get_or row m (truth false))
    → part_of (map place names) all ≡ row
own_part [] place all [] l h = refl
own_part [] place all (v ∷ row) l h = absurd (omega arith)
own_part (n ∷ names) place all [] l h = absurd (omega arith)
own_part (n ∷ names) place all (v ∷ row) l h =
    let first : get_or all (place n) (truth false) ≡ v = h 0 (omega arith) in
    let rest : part_of (map place names) all ≡ row = own_part names place all row (omega arith) (λ m k. h (suc m) (omega arith)) in
    λ t. first t ∷ rest t

any_same : {X : Type 0} (p q : X → Bool) (xs : List X) → ((x : X) → In x xs → p x ≡ q x) → list_any p xs ≡ list_any q xs
any_same p q [] h = refl
any_same p q (x ∷ xs) h = ap₂ (λ a b. a || b) (h x (inl refl)) (any_same p q xs (λ y i. h y (inr i)))

module _ (heading : Heading) (up : Ascends attribute_cmp heading) where
  all_common : common_names heading heading ≡ names_of heading
  all_common = filter_all (has_name heading) (names_of heading) (λ n i. of_name heading n i)

  whole_part : (row : Row) → length row ≡ length heading → part_of (common_positions heading heading heading) row ≡ row
  whole_part row l =
      let many : length (names_of heading) ≡ length heading = length-map heading (λ (a : Name × Kind). a.0) in
      ap (λ (ns : List Name). part_of (map (position_of heading) ns) row) all_common
      ∙ own_part (names_of heading) (position_of heading) row row (l ∙ sym many) (λ m k.
      let below : m < length heading = omega arith in
      let name : get_or (names_of heading) m [] ≡ (get_or heading m no_attribute).0 = get_or-map (λ (a : Name × Kind). a.0) heading m no_attribute [] below in
      ap (λ i. get_or row i (truth false)) (ap (position_of heading) name ∙ position_at heading m up below))

  same_rows : (x y : Row) → length x ≡ length heading → length y ≡ length heading → agree heading heading x y ≡ eq_by_cmp row_cmp x y
  same_rows x y l m =
      let a = whole_part x l in
      let b = whole_part y m in
      λ t. eq_by_cmp row_cmp (a t) (b t)

  found_same : (s : List Row) → ((y : Row) → In y s → length y ≡ length heading) → (x : Row) → length x ≡ length heading → list_any (agree heading heading x) s ≡ has row_cmp s x
  found_same s long x l = any_same (agree heading heading x) (eq_by_cmp row_cmp x) s (λ y i. same_rows x y l (long y i))

  module _ (r s : List Row) (long : (x : Row) → In x r → length x ≡ length heading) (long' : (y : Row) → In y s → length y ≡ length heading) where
    matched_same : matched heading heading r s ≡ intersected r s
    matched_same = filter_same (λ x. list_any (agree heading heading x) s) (has row_cmp s) r (λ x i. found_same s long' x (long x i))

    unmatched_same : unmatched heading heading r s ≡ subtracted r s
    unmatched_same = filter_same (λ x. not (list_any (agree heading heading x) s)) (λ x. not (has row_cmp s x)) r (λ x i. ap not (found_same s long' x (long x i)))

  -- a heading has one kind for a name
  own_kinds : HaveEqualKinds heading heading
  own_kinds = kinds_from heading heading (λ a b i j e.
      let n : a.0 ≡ b.0 = name_is a.0 b.0 e in
      ap (λ (c : Name × Kind). c.1) (tells_ascending attribute_cmp attribute_total heading up a b i j (ties_by_name a b n)))

-- ---- two relations

module _ (left right : Relation) (l : IsRelation left) (r : IsRelation right) (same : left.heading ≡ right.heading) where
  first : Ascends attribute_cmp left.heading
  first = heading_ascends left.heading l.headed

  pub both_kinds : HaveEqualKinds left.heading right.heading
  both_kinds = subst (HaveEqualKinds left.heading) same (own_kinds left.heading first)

  module _ (commalist : List ℕ) (intervals : AreIntervals left.heading commalist) where
    long : (x : Row) → In x (unpacked commalist left.rows) → length x ≡ length left.heading
    long x i = (opened_shaped left.heading commalist intervals left.rows (rows_ascend left l) (relation_shaped left l commalist intervals) x i).long

    long' : (y : Row) → In y (unpacked commalist right.rows) → length y ≡ length left.heading
    long' y i = (opened_shaped left.heading commalist intervals right.rows (rows_ascend right r) (shaped_under left.heading right same r commalist intervals) y i).long

    abbrev lefts : List Row
    lefts = unpacked commalist left.rows

    abbrev rights : List Row
    rights = unpacked commalist right.rows

    pub matched_meant : (result : Result (Option Relation) RowsRefuse)
        → (let rows = packed commalist (matched left.heading right.heading lefts rights) in MatchResult result (λ o. IfSome o (IsAnswer left.heading rows)) (IsRefusal rows))
        → (let rows = packed commalist (intersected lefts rights) in MatchResult result (λ o. IfSome o (IsAnswer left.heading rows)) (IsRefusal rows))
    matched_meant result h =
        let is : matched left.heading right.heading lefts rights ≡ intersected lefts rights = (λ t. matched left.heading (sym same t) lefts rights) ∙ matched_same left.heading first lefts rights long long' in
        subst (λ (T : Type 0). T) (λ t. MatchResult result (λ o. IfSome o (IsAnswer left.heading (packed commalist (is t)))) (IsRefusal (packed commalist (is t)))) h

    pub unmatched_meant : (result : Result (Option Relation) RowsRefuse)
        → (let rows = packed commalist (unmatched left.heading right.heading lefts rights) in MatchResult result (λ o. IfSome o (IsAnswer left.heading rows)) (IsRefusal rows))
        → (let rows = packed commalist (subtracted lefts rights) in MatchResult result (λ o. IfSome o (IsAnswer left.heading rows)) (IsRefusal rows))
    unmatched_meant result h =
        let is : unmatched left.heading right.heading lefts rights ≡ subtracted lefts rights = (λ t. unmatched left.heading (sym same t) lefts rights) ∙ unmatched_same left.heading first lefts rights long long' in
        subst (λ (T : Type 0). T) (λ t. MatchResult result (λ o. IfSome o (IsAnswer left.heading (packed commalist (is t)))) (IsRefusal (packed commalist (is t)))) h
