-- Rows of one label are joined to rows with the same places.
use Rattle.std.proofs.Common.{◌≡◌, ◌↔◌, ◌⊎◌, inl, inr, ℕ, zero, suc, ◌<◌, ◌-◌, ◌+◌, ℤ, ◌≤ℤ◌, cond, true, false, List, [], ◌∷◌, ◌++◌, map, length, get_or, set, Option, Some, None, Result, refl, sym, ap, ◌∙◌, subst, arith, Ordering}
use Rattle.std.specs.Prelude.{unwrap_or}
use Rattle.std.specs.Bool.{IsTrue}
use Rattle.std.specs.Option.{IfSome}
use Rattle.std.specs.Result.{MatchResult}
use Rattle.std.specs.declared.cmp.Ordering.TheVariants.{Less, Equal, Greater}
use Rattle.std.specs.List.{All}
use Rattle.std.specs.List.Sorted.{IsPermutation}
use Rattle.std.specs.FinMap.{int_cmp-IsAntisymmetric}
use Rattle.std.specs.Ordering.{int_cmp, is_eq}
use Rattle.std.proofs.lemmas.Bool.{true≢false, and_parts, and_from}
use Rattle.std.proofs.lemmas.Cmp.{int_cmp_total}
use Rattle.std.proofs.lemmas.List.{append_assoc, map-append, map-id, get_or-set_same, get_or_default}
use Rattle.std.proofs.lemmas.List.Elements.{Contains-get_or}
use Rattle.std.proofs.lemmas.List.Sorted.{IsPermutation-refl, IsPermutation-sym}
use Rattle.base_core.specs.Sets.{are_same, union_of}
use Rattle.base_core.proofs.SetLemmas.{In, In-from_Contains}
use Rattle.base_core.proofs.MemberLemmas.{In-append, In-map, list_all-In}
use Rattle.base_core.proofs.SetOperatorLemmas.{In-permutation, are_same-In, in_order-permutation}
use Rattle.interval_core.specs.Members.{Span, members}
use Rattle.interval_core.specs.Operators.{hull_of, interval_of, union}
use Rattle.interval_core.proofs.MembersLemmas.{In-members}
use Rattle.point_core.specs.declared.any_type.AnyType.{AnyType}
use Rattle.cell_packing.specs.Boxed.{Boxed, packed_boxes, unpacked_boxes, InBoxes}
use Rattle.cell_packing.specs.Packed.{Has}
use Rattle.cell_core.proofs.PackedGridPoints.{packed_from_same, both_boxes}
use Rattle.value_core.specs.declared.kind.Kind.{Kind}
use Rattle.value_core.specs.declared.kind.Kind.TheVariants.{Truth, Span as SpanOf}
use Rattle.value_core.specs.declared.refuse.RowsRefuse.{RowsRefuse}
use Rattle.value_core.specs.declared.refuse.RowsRefuse.TheVariants.{TooMany, Memory}
use Rattle.value_core.specs.declared.value.Value.{Value as Held}
use Rattle.value_core.specs.Attributes.{value_at, span_of, among}
use Rattle.value_core.specs.Order.{row_total, row_separates}
use Rattle.value_core.specs.Plain.{plain}
use Rattle.value_core.specs.Relations.{all_fit, IsRelationOf, IsRowsRefusal}
use Rattle.value_core.specs.Values.{Name, Value, Row, Heading, Relation, truth, row_cmp, rows_of, most_rows, fits, fits_heading, IsRelation}
use Rattle.value_core.specs.RowPacking.{packed, unpacked}
use Rattle.relation_core.specs.Agreement.{part_of}
use Rattle.relation_core.specs.Answers.{IsAnswer, IsRefusal}
use Rattle.relation_core.specs.Operators.{united}
use Rattle.relation_core.specs.Parts.{kind_at}
use Rattle.relation_core.proofs.FilterLemmas.{rows_ascend}
use Rattle.u_set.specs.declared.apart.Gap.TheVariants.{One}
use Rattle.u_set.specs.Apart.{span_in, HasInterval, IsBeyond, IsChain, outside}
use Rattle.u_set.specs.Boxes.{AreIntervals, type_of, others, boxed, unboxed}
use Rattle.u_set.specs.Coalescing.{AreJoined, IsFormByLabel}
use Rattle.u_set.proofs.ApartLemmas.{beyond_at, row_has, span_within, value_there}
use Rattle.u_set.proofs.BoxLemmas.{others-set, place_listed, kind_listed, value_at-get, span_fits, shaped_from_fit}
use Rattle.u_set.proofs.BridgeLemmas.{box_cmp, boxes_have, same_places, packed_rows}
use Rattle.u_set.proofs.KeptLemmas.{part_outside, given_back, one_listed, one_intervals}
use Rattle.u_set.proofs.RelationLemmas.{relation_shaped, shaped_under}
use Rattle.u_set.proofs.UnionLemmas.{packed_union, united_rows}

-- ---- the points of two intervals

interval_of-points : (ns : List ℤ) (k : Span) → interval_of ns ≡ Some k → (p : ℤ) → In p ns ↔ In p (members k)
interval_of-points [] k e = absurd (cc)
interval_of-points (n ∷ ns) k e =
    let h : Span = hull_of n ns in
    let w = are_same-In int_cmp int_cmp_total int_cmp-IsAntisymmetric (members h) (n ∷ ns) in
    elim (are_same int_cmp (members h) (n ∷ ns)) as (λ b. are_same int_cmp (members h) (n ∷ ns) ≡ b → cond b (Some h) None ≡ Some k → (p : ℤ) → In p (n ∷ ns) ↔ In p (members k)) [
      | true ↦ λ same e p.
          let at : h ≡ k = ap (λ (o : Option Span). unwrap_or o h) e in
          let v = w.0 same p in
          subst (λ (s : Span). In p (n ∷ ns) ↔ In p (members s)) at (v.1, v.0)
      | false ↦ λ same e. absurd cc
    ] refl e

-- the union of two intervals has the points of either
union_points : (i j k : Span) → union i j ≡ Some k → (p : ℤ) → ((k.0 ≤ℤ p) × (p ≤ℤ k.1)) ↔ (((i.0 ≤ℤ p) × (p ≤ℤ i.1)) ⊎ ((j.0 ≤ℤ p) × (p ≤ℤ j.1)))
union_points i j k e p =
    let w = interval_of-points (members i ++ members j) k e p in
    let u = In-append p (members i) (members j) in
    let a = In-members i p in
    let b = In-members j p in
    let c = In-members k p in (
      λ h. elim (u.0 (w.1 (c.1 h))) [ inl m ↦ inl (a.0 m) | inr m ↦ inr (b.0 m) ],
      λ h. c.0 (w.0 (u.1 (elim h [ inl m ↦ inl (a.1 m) | inr m ↦ inr (b.1 m) ]))),
    )

-- so a box of one side has the places of two
has_union : (i j k : Span) → union i j ≡ Some k → (place : List ℤ) → Has (k ∷ []) place ↔ (Has (i ∷ []) place ⊎ Has (j ∷ []) place)
has_union i j k e [] = (λ h. absurd h, λ h. elim h [ inl v ↦ v | inr v ↦ v ])
has_union i j k e (p ∷ q ∷ ps) = (λ h. absurd h.2, λ h. elim h [ inl v ↦ absurd v.2 | inr v ↦ absurd v.2 ])
has_union i j k e (p ∷ []) =
    let w = union_points i j k e p in (
      λ h. elim (w.0 (h.0, h.1)) [ inl v ↦ inl (v.0, v.1, tt) | inr v ↦ inr (v.0, v.1, tt) ],
      λ h. let v = w.1 (elim h [ inl u ↦ inl (u.0, u.1) | inr u ↦ inr (u.0, u.1) ]) in (v.0, v.1, tt),
    )

-- ---- a row with another interval

pub set_fits : (heading : Heading) (row : Row) (i : ℕ) (v : Value) → IsTrue (fits_heading heading row) → IsTrue (fits (kind_at heading i) v) → IsTrue (fits_heading heading (set row i v))
set_fits [] [] i v f g = f
set_fits [] (w ∷ row) i v f g = absurd (true≢false (sym f))
set_fits (a ∷ heading) [] i v f g = absurd (true≢false (sym f))
set_fits (a ∷ heading) (w ∷ row) zero v f g = and_from (fits a.1 v) (fits_heading heading row) g (and_parts (fits a.1 w) (fits_heading heading row) f).1
set_fits (a ∷ heading) (w ∷ row) (suc i) v f g =
    let p = and_parts (fits a.1 w) (fits_heading heading row) f in
    and_from (fits a.1 w) (fits_heading heading (set row i v)) p.0 (set_fits heading row i v p.1 g)

all_more : (heading : Heading) (xs : List Row) (y : Row) → IsTrue (all_fit heading xs) → IsTrue (fits_heading heading y) → IsTrue (all_fit heading (xs ++ y ∷ []))
all_more heading [] y f g = and_from (fits_heading heading y) true g refl
all_more heading (x ∷ xs) y f g =
    let p = and_parts (fits_heading heading x) (all_fit heading xs) f in
    and_from (fits_heading heading x) (all_fit heading (xs ++ y ∷ [])) p.0 (all_more heading xs y p.1 g)

pub all_less : (heading : Heading) (xs : List Row) (y : Row) → IsTrue (all_fit heading (xs ++ y ∷ [])) → IsTrue (all_fit heading xs) × IsTrue (fits_heading heading y)
all_less heading [] y f = (refl, (and_parts (fits_heading heading y) true f).0)
all_less heading (x ∷ xs) y f =
    let p = and_parts (fits_heading heading x) (all_fit heading (xs ++ y ∷ [])) f in
    let w = all_less heading xs y p.1 in
    (and_from (fits_heading heading x) (all_fit heading xs) p.0 w.0, w.1)

module _ (heading : Heading) (at : ℕ) (intervals : AreIntervals heading (at ∷ [])) where
  abbrev box : Row → Boxed Row
  box = boxed (at ∷ [])

  abbrev Places : List Row → Row → List ℤ → Type 0
  Places rows l place = InBoxes (map box rows) l place

  pub places_append : (xs ys : List Row) (l : Row) (place : List ℤ) → Places (xs ++ ys) l place ↔ (Places xs l place ⊎ Places ys l place)
  places_append xs ys l place = subst (λ bs. InBoxes bs l place ↔ (Places xs l place ⊎ Places ys l place)) (sym (map-append box xs ys)) (both_boxes (map box xs) (map box ys) l place)

  long : (x : Row) → IsTrue (fits_heading heading x) → length x ≡ length heading
  long x f = (shaped_from_fit heading (at ∷ []) intervals x f).long

  pub within : (x : Row) → IsTrue (fits_heading heading x) → at < length x
  within x f = let l = intervals.within 0 0 (omega arith) in let e = long x f in omega arith

  -- ---- two rows, joined

  module _ (x y : Row) (v : Value) (fx : IsTrue (fits_heading heading x)) (fy : IsTrue (fits_heading heading y)) (same : part_of (outside (at ∷ []) heading) x ≡ part_of (outside (at ∷ []) heading) y)
      (union_is : union (span_in at x) (span_in at y) ≡ Some (span_of v)) where
    labels : others (at ∷ []) x ≡ others (at ∷ []) y
    labels = sym (part_outside (at ∷ []) heading x (long x fx)) ∙ same ∙ part_outside (at ∷ []) heading y (long y fy)

    label_kept : others (at ∷ []) (set x at v) ≡ others (at ∷ []) x
    label_kept =
        let z : at ≡ 0 + at = omega arith in
        others-set 0 (at ∷ []) x at v (subst (λ i. IsTrue (among (at ∷ []) i)) z (place_listed (at ∷ []) 0 (omega arith)))

    value_put : value_at (set x at v) at ≡ v
    value_put = value_at-get (set x at v) at ∙ get_or-set_same x at v (truth false) (within x fx)

    box_put : box (set x at v) ≡ (others (at ∷ []) x, span_of v ∷ [])
    box_put = λ t. (label_kept t, span_of (value_put t) ∷ [])

    two_places : (l : Row) (place : List ℤ) → Places (x ∷ y ∷ []) l place ↔ Places (set x at v ∷ []) l place
    two_places l place =
        let i : Span = span_in at x in
        let j : Span = span_in at y in
        let w = has_union i j (span_of v) union_is place in
        let one : InBoxes ((others (at ∷ []) x, span_of v ∷ []) ∷ []) l place ↔ Places (set x at v ∷ []) l place = subst (λ (b : Boxed Row). InBoxes ((others (at ∷ []) x, span_of v ∷ []) ∷ []) l place ↔ InBoxes (b ∷ []) l place) (sym box_put) (λ h. h, λ h. h) in (
          λ h. one.0 (elim h.1 [
            | inl e ↦ (span_of v ∷ [], inl (λ t. ((e t).0, span_of v ∷ [])), w.1 (inl (subst (λ (is : List Span). Has is place) (sym (ap (λ (b : Boxed Row). b.1) e)) h.2)))
            | inr m ↦ elim m [
              | inl e ↦ (span_of v ∷ [], inl (λ t. ((labels ∙ ap (λ (b : Boxed Row). b.0) e) t, span_of v ∷ [])), w.1 (inr (subst (λ (is : List Span). Has is place) (sym (ap (λ (b : Boxed Row). b.1) e)) h.2)))
              | inr n ↦ absurd n
            ]
          ]),
          λ g. let h = one.1 g in
              elim h.1 [
                | inl e ↦
                    let p : Has (span_of v ∷ []) place = subst (λ (is : List Span). Has is place) (sym (ap (λ (b : Boxed Row). b.1) e)) h.2 in
                    let at_label : others (at ∷ []) x ≡ l = ap (λ (b : Boxed Row). b.0) e in
                    elim (w.0 p) [
                      | inl q ↦ (i ∷ [], inl (λ t. (at_label t, i ∷ [])), q)
                      | inr q ↦ (j ∷ [], inr (inl (λ t. ((sym labels ∙ at_label) t, j ∷ []))), q)
                    ]
                | inr n ↦ absurd n
              ],
        )

    pub one_row : (xs old new : List Row) → IsTrue (all_fit heading xs) → IsTrue (fits (kind_at heading at) v) → old ≡ xs ++ x ∷ [] → new ≡ xs ++ set x at v ∷ [] → AreJoined heading at (old ++ y ∷ []) new
    one_row xs old new f g before after =
        let z : Row = set x at v in
        let all : old ++ y ∷ [] ≡ xs ++ (x ∷ y ∷ []) = (λ t. before t ++ y ∷ []) ∙ append_assoc xs (x ∷ []) (y ∷ []) in
        subst (λ (rows : List Row). AreJoined heading at rows new) (sym all) (subst (λ (rows : List Row). AreJoined heading at (xs ++ (x ∷ y ∷ [])) rows) (sym after) (record {
          fit = all_more heading xs z f (set_fits heading x at v fx g);
          places = λ l place.
              let a = places_append xs (x ∷ y ∷ []) l place in
              let b = places_append xs (z ∷ []) l place in
              let w = two_places l place in (
                λ h. b.1 (elim (a.0 h) [ inl m ↦ inl m | inr m ↦ inr (w.0 m) ]),
                λ h. a.1 (elim (b.0 h) [ inl m ↦ inl m | inr m ↦ inr (w.1 m) ]),
              );
        }))

  -- ---- a row more

  pub one_more : (before rows new : List Row) (y : Row) → AreJoined heading at before rows → AreJoined heading at (rows ++ y ∷ []) new → AreJoined heading at (before ++ y ∷ []) new
  one_more before rows new y h g = record {
    fit = g.fit;
    places = λ l place.
        let a = places_append before (y ∷ []) l place in
        let b = places_append rows (y ∷ []) l place in
        let w = h.places l place in
        let v = g.places l place in (
          λ k. v.0 (b.1 (elim (a.0 k) [ inl m ↦ inl (w.0 m) | inr m ↦ inr m ])),
          λ k. a.1 (elim (b.0 (v.1 k)) [ inl m ↦ inl (w.1 m) | inr m ↦ inr m ]),
        );
  }

  -- ---- all rows

  moved_places : (rows moved : List Row) → IsPermutation rows moved → (l : Row) (place : List ℤ) → Places rows l place ↔ Places moved l place
  moved_places rows moved p = same_places (map box rows) (map box moved) (λ b.
      let u = In-map box b rows in
      let w = In-map box b moved in (
        λ i. let v = u.0 i in w.1 (v.0, In-permutation rows moved v.0 p v.1, v.2),
        λ i. let v = w.0 i in u.1 (v.0, In-permutation moved rows v.0 (IsPermutation-sym rows moved p) v.1, v.2),
      ))

  -- rows that are a chain are packed as they stand
  pub chain_packed : (rows : List Row) → IsTrue (all_fit heading rows) → IsChain (outside (at ∷ []) heading) at One rows → rows_of (map (unboxed heading (at ∷ [])) (packed_boxes row_cmp 1 (map box rows))) ≡ rows_of rows
  chain_packed rows fit = given_back heading at intervals rows (λ x i. shaped_from_fit heading (at ∷ []) intervals x ((list_all-In (fits_heading heading) rows).0 fit x i))

  pub joined_itself : (rows : List Row) → IsTrue (all_fit heading rows) → AreJoined heading at rows rows
  joined_itself rows fit = record { fit = fit; places = λ l place. (λ h. h, λ h. h) }

  pub joined_moved : (rows moved after : List Row) → IsPermutation rows moved → AreJoined heading at moved after → AreJoined heading at rows after
  joined_moved rows moved after p h = record {
    fit = h.fit;
    places = λ l place.
        let a = moved_places rows moved p l place in
        let b = h.places l place in
        (λ k. b.0 (a.0 k), λ k. a.1 (b.1 k));
  }

  -- joined rows are packed to what the rows before are
  pub given_joined : (rows after : List Row) → AreJoined heading at rows after
      → rows_of (map (unboxed heading (at ∷ [])) (packed_boxes row_cmp 1 (map box rows))) ≡ rows_of (map (unboxed heading (at ∷ [])) (packed_boxes row_cmp 1 (map box after)))
  given_joined rows after h =
      ap (λ bs. rows_of (map (unboxed heading (at ∷ [])) bs))
      (packed_from_same row_cmp row_total row_separates 1 (map box rows) (map box after) (boxes_have heading (at ∷ []) intervals rows) (boxes_have heading (at ∷ []) intervals after) h.places)

  -- and are the packed rows where they are a chain
  pub joined_chain : (rows after : List Row) → AreJoined heading at rows after → IsChain (outside (at ∷ []) heading) at One after
      → rows_of (map (unboxed heading (at ∷ [])) (packed_boxes row_cmp 1 (map box rows))) ≡ rows_of after
  joined_chain rows after h chain = given_joined rows after h ∙ chain_packed after h.fit chain

  pub form_packed : (rows after : List Row) → IsFormByLabel heading at rows after → rows_of (map (unboxed heading (at ∷ [])) (packed_boxes row_cmp 1 (map box rows))) ≡ rows_of after
  form_packed rows after h = joined_chain rows after h.joined (record { list = after; moved = IsPermutation-refl after; beyond = h.beyond })

-- ---- rows that stand apart

pub next_apart : (label : List ℕ) (at : ℕ) (rows : List Row) (i : ℕ) (a b : Row) → i < length rows → a ≡ get_or rows (i - 1) a → b ≡ get_or rows i b → IsBeyond label at One a b → (j : ℕ) (d : Row) → suc j ≡ i
    → IsBeyond label at One (get_or rows j d) (get_or rows i d)
next_apart label at rows i a b l first second h =
    subst (λ (rs : List Row). (j : ℕ) (d : Row) → suc j ≡ i → IsBeyond label at One (get_or rs j d) (get_or rs i d)) (map-id rows) (beyond_at label at One (λ (r : Row). r) rows i a b l first second h)

pub all_have : (heading : Heading) (at : ℕ) → AreIntervals heading (at ∷ []) → (rows : List Row) → IsTrue (all_fit heading rows) → All (HasInterval at) rows
all_have heading at intervals rows f = λ i d l.
    row_has heading at intervals (get_or rows i d) ((list_all-In (fits_heading heading) rows).0 f (get_or rows i d) (In-from_Contains rows (get_or rows i d) (Contains-get_or rows i d l)))

pub all_moved : (heading : Heading) (rows moved : List Row) → IsPermutation rows moved → IsTrue (all_fit heading rows) → IsTrue (all_fit heading moved)
all_moved heading rows moved p f =
    (list_all-In (fits_heading heading) moved).1 (λ x i. (list_all-In (fits_heading heading) rows).0 f x (In-permutation moved rows x (IsPermutation-sym rows moved p) i))

pub rows_moved : (rows moved : List Row) → IsPermutation rows moved → rows_of rows ≡ rows_of moved
rows_moved rows moved p = in_order-permutation row_cmp row_total row_separates rows moved p

pub each_fits : {A : Type 0} (heading : Heading) (row : A → Row) (items : List A) (rows : List Row) → IsPermutation rows (map row items) → IsTrue (all_fit heading rows) → All (λ a. IsTrue (fits_heading heading (row a))) items
each_fits heading row items rows p f = λ i d l.
    let x : Row = row (get_or items i d) in
    let inside : In x (map row items) = (In-map row x items).1 (get_or items i d, In-from_Contains items (get_or items i d) (Contains-get_or items i d l), refl) in
    (list_all-In (fits_heading heading) rows).0 f x (In-permutation (map row items) rows x (IsPermutation-sym rows (map row items) p) inside)

-- ---- the values of a row

module _ (heading : Heading) (at : ℕ) (intervals : AreIntervals heading (at ∷ [])) where
  pub listed : IsTrue (among (at ∷ []) at)
  listed = place_listed (at ∷ []) 0 (omega arith)

  -- the kind is that of the intervals of a type
  pub kind_there : (d : Name × Kind) (t : AnyType) → t ≡ type_of (get_or heading at d).1 → kind_at heading at ≡ SpanOf t
  kind_there d t type =
      let k = kind_listed heading (at ∷ []) intervals at listed in
      k.1 ∙ ap SpanOf (sym (type ∙ ap (λ (b : Name × Kind). type_of b.1) (get_or_default heading at d ([], Truth) k.0)))

  module _ (values : List Held) (row : Row) where
    pub held_within : map plain values ≡ row → IsTrue (fits_heading heading row) → at < length values
    held_within same f = span_within at values (subst (λ (r : Row). HasInterval at r) (sym same) (row_has heading at intervals row f))

    there : (v : Held) → map plain values ≡ row → IsTrue (fits_heading heading row) → v ≡ get_or values at v → value_at row at ≡ plain v
    there v same f is = value_there at values row v same (row_has heading at intervals row f) is

    pub held_fits : (v : Held) (t : AnyType) → map plain values ≡ row → IsTrue (fits_heading heading row) → v ≡ get_or values at v → kind_at heading at ≡ SpanOf t → IsTrue (fits (SpanOf t) (plain v))
    held_fits v t same f is kind =
        let k = kind_listed heading (at ∷ []) intervals at listed in
        let here : IsTrue (fits (SpanOf (type_of (kind_at heading at))) (value_at row at)) = span_fits heading (at ∷ []) intervals row f at listed in
        subst (λ (q : Kind). IsTrue (fits q (plain v))) (sym k.1 ∙ kind) (subst (λ (w : Value). IsTrue (fits (SpanOf (type_of (kind_at heading at))) w)) (there v same f is) here)

    pub held_span : (v : Held) → map plain values ≡ row → IsTrue (fits_heading heading row) → v ≡ get_or values at v → span_in at row ≡ span_of (plain v)
    held_span v same f is = ap span_of (there v same f is)

pub same_labels : (a b : Row) (r : Ordering) → r ≡ row_cmp a b → is_eq r ≡ true → a ≡ b
same_labels a b Less e h = absurd (true≢false (sym h))
same_labels a b Equal e h = row_separates a b (sym e)
same_labels a b Greater e h = absurd (true≢false (sym h))

pub some_always : {X : Type 0} (P : Type 0) → P → (o : Option X) → IfSome o (λ v. P)
some_always P h (Some v) = h
some_always P h None = tt

-- ---- the relation of the rows

pub is_answer : (heading : Heading) (rows after : List Row) → rows ≡ rows_of after → (r : Relation) → IsRelationOf heading after r → IsAnswer heading rows r
is_answer heading rows after same r h = subst (λ (list : List Row). IsAnswer heading list r) (sym same) (record { few = h.few; is = h.is })

pub is_refusal : (rows after : List Row) → rows ≡ rows_of after → (e : RowsRefuse) → IsRowsRefusal after e → IsRefusal rows e
is_refusal rows after same TooMany h = subst (λ (list : List Row). most_rows < length list) (sym same) h
is_refusal rows after same Memory h = tt

-- ---- packing on a single attribute

-- the rows that the boxes give
abbrev pub given : Heading → ℕ → List Row → List Row
given heading at rows = rows_of (map (unboxed heading (at ∷ [])) (packed_boxes row_cmp 1 (map (boxed (at ∷ [])) rows)))

-- what is answered to the rows is the answer of those that are meant
pub answer_moved : (heading meant : Heading) (list rows : List Row) → heading ≡ meant → list ≡ rows → (result : Result (Option Relation) RowsRefuse)
    → MatchResult result (λ o. IfSome o (IsAnswer heading list)) (IsRefusal list) → MatchResult result (λ o. IfSome o (IsAnswer meant rows)) (IsRefusal rows)
answer_moved heading meant list rows same is result h = subst (λ (T : Type 0). T) (λ t. MatchResult result (λ o. IfSome o (IsAnswer (same t) (is t))) (IsRefusal (is t))) h

pub packed_given : (r : Relation) → IsRelation r → (commalist : List ℕ) (i : ℕ) → length commalist ≡ 1 → i ≡ get_or commalist 0 0 → AreIntervals r.heading commalist → given r.heading i r.rows ≡ packed commalist r.rows
packed_given r is commalist i one at intervals =
    let same : i ∷ [] ≡ commalist = one_listed commalist i one at in
    let here : AreIntervals r.heading (i ∷ []) = one_intervals r.heading commalist i one at intervals in
    subst (λ (ps : List ℕ). given r.heading i r.rows ≡ packed ps r.rows) same (sym (packed_rows r.heading (i ∷ []) here r.rows (rows_ascend r is) (relation_shaped r is (i ∷ []) here)).are)

pub united_given : (left right : Relation) → IsRelation left → IsRelation right → left.heading ≡ right.heading → (commalist : List ℕ) (i : ℕ) → length commalist ≡ 1 → i ≡ get_or commalist 0 0 → AreIntervals left.heading commalist
    → given left.heading i (left.rows ++ right.rows) ≡ packed commalist (united (unpacked commalist left.rows) (unpacked commalist right.rows))
united_given left right l r heading commalist i one at intervals =
    let same : i ∷ [] ≡ commalist = one_listed commalist i one at in
    let here : AreIntervals left.heading (i ∷ []) = one_intervals left.heading commalist i one at intervals in
    let box : Row → Boxed Row = boxed (i ∷ []) in
    let form : packed_boxes row_cmp 1 (map box (left.rows ++ right.rows)) ≡ packed_boxes row_cmp 1 (union_of box_cmp (unpacked_boxes row_cmp 1 (map box left.rows)) (unpacked_boxes row_cmp 1 (map box right.rows))) =
    ap (packed_boxes row_cmp 1) (map-append box left.rows right.rows)
    ∙ packed_union row_cmp row_total row_separates 1 (map box left.rows) (map box right.rows) (boxes_have left.heading (i ∷ []) here left.rows) (boxes_have left.heading (i ∷ []) here right.rows) in
    let are = united_rows left.heading (i ∷ []) here left.rows right.rows (rows_ascend left l) (rows_ascend right r) (relation_shaped left l (i ∷ []) here) (shaped_under left.heading right heading r (i ∷ []) here) in
    subst (λ (ps : List ℕ). given left.heading i (left.rows ++ right.rows) ≡ packed ps (united (unpacked ps left.rows) (unpacked ps right.rows))) same
    (ap (λ bs. rows_of (map (unboxed left.heading (i ∷ [])) bs)) form ∙ sym are.are)
