-- Rows that stand apart are the rows that they are packed to.
use Rattle.std.proofs.Common.{◌≡◌, inl, inr, ℕ, zero, suc, ◌+◌, ◌<◌, true, false, List, [], ◌∷◌, ◌++◌, map, length, get_or, refl, sym, ap, ◌∙◌, subst, arith}
use Rattle.std.specs.Prelude.{slice_index_or}
use Rattle.std.proofs.lemmas.List.{map-append, get_or-map, length-map}
use Rattle.std.proofs.lemmas.List.Sorted.{IsPermutation-map, IsPermutation-sym}
use Rattle.base_core.specs.Sets.{in_order, union_of}
use Rattle.base_core.proofs.SetLemmas.{In, Ascends, In-in_order, in_order_by_members, in_order_of_ascending}
use Rattle.base_core.proofs.MemberLemmas.{In-append, In-map}
use Rattle.base_core.proofs.SetOperatorLemmas.{In-permutation}
use Rattle.value_core.specs.Attributes.{among}
use Rattle.value_core.specs.Order.{row_total, row_separates}
use Rattle.value_core.specs.RowPacking.{packed, unpacked}
use Rattle.value_core.specs.Values.{Row, Heading, Relation, IsRelation, truth, row_cmp, rows_of}
use Rattle.relation_core.specs.Agreement.{part_of}
use Rattle.relation_core.specs.Operators.{united}
use Rattle.relation_core.proofs.FilterLemmas.{rows_ascend}
use Rattle.cell_packing.specs.Boxed.{Boxed, packed_boxes, unpacked_boxes}
use Rattle.cell_core.specs.Apart.{HasOneSide, IsBeyond as IsBoxBeyond, AreBeyond as AreBoxesBeyond}
use Rattle.cell_core.proofs.ApartLemmas.{apart_packed}
use Rattle.u_set.specs.declared.apart.Gap.TheVariants.{One}
use Rattle.u_set.specs.Apart.{IsBeyond, AreBeyond, IsChain, outside_from, outside}
use Rattle.u_set.specs.Boxes.{AreIntervals, IsShaped, unless, others_from, others, boxed, unboxed}
use Rattle.u_set.proofs.ApartLemmas.{span_ordered}
use Rattle.u_set.proofs.BoxLemmas.{unboxed-boxed}
use Rattle.u_set.proofs.BridgeLemmas.{box_cmp, box_total, box_separates, boxes_have, packed_rows}
use Rattle.u_set.proofs.RelationLemmas.{relation_shaped, shaped_under}
use Rattle.u_set.proofs.UnionLemmas.{packed_union, united_rows}

-- ---- the label at the positions outside

part_from : (commalist : List ℕ) (heading : Heading) (all : Row) (n : ℕ) (row : Row) → length row ≡ length heading
    → ((m : ℕ) → m < length row → slice_index_or all (n + m) (truth false) ≡ get_or row m (truth false)) → part_of (outside_from n commalist heading) all ≡ others_from n commalist row
part_from commalist [] all n [] l h = refl
part_from commalist [] all n (v ∷ row) l h = absurd (omega arith)
part_from commalist (a ∷ heading) all n [] l h = absurd (omega arith)
part_from commalist (a ∷ heading) all n (v ∷ row) l h =
    let ih : part_of (outside_from (suc n) commalist heading) all ≡ others_from (suc n) commalist row =
    part_from commalist heading all (suc n) row (omega arith) (λ m k.
    let s : n + suc m ≡ suc n + m = omega arith in
    subst (λ j. slice_index_or all j (truth false) ≡ get_or row m (truth false)) s (h (suc m) (omega arith))) in
    let z : n + 0 ≡ n = omega arith in
    let first : slice_index_or all n (truth false) ≡ v = subst (λ j. slice_index_or all j (truth false) ≡ v) z (h 0 (omega arith)) in
    elim (among commalist n) as (λ b. part_of (unless b n (outside_from (suc n) commalist heading)) all ≡ unless b v (others_from (suc n) commalist row)) [
      | true ↦ ih
      | false ↦ λ t. first t ∷ ih t
    ]

index_get : (row : Row) (m : ℕ) → slice_index_or row m (truth false) ≡ get_or row m (truth false)
index_get [] m = refl
index_get (v ∷ row) zero = refl
index_get (v ∷ row) (suc m) = index_get row m

pub part_outside : (commalist : List ℕ) (heading : Heading) (row : Row) → length row ≡ length heading → part_of (outside commalist heading) row ≡ others commalist row
part_outside commalist heading row l = part_from commalist heading row 0 row l (λ m k.
    let z : m ≡ 0 + m = omega arith in
    subst (λ j. slice_index_or row j (truth false) ≡ get_or row m (truth false)) z (index_get row m))

-- ---- one listed position

pub one_listed : (commalist : List ℕ) (i : ℕ) → length commalist ≡ 1 → i ≡ get_or commalist 0 0 → i ∷ [] ≡ commalist
one_listed [] i l e = absurd (omega arith)
one_listed (j ∷ k ∷ commalist) i l e = absurd (omega arith)
one_listed (j ∷ []) i l e = λ t. e t ∷ []

-- ---- rows that are beyond one another are packed

module _ (heading : Heading) (at : ℕ) (intervals : AreIntervals heading (at ∷ [])) where
  abbrev commalist : List ℕ
  commalist = at ∷ []

  abbrev label : List ℕ
  label = outside commalist heading

  abbrev box : Row → Boxed Row
  box = boxed commalist

  row_beyond : (x y : Row) → IsShaped heading commalist x → IsShaped heading commalist y → IsBeyond label at One x y → IsBoxBeyond row_cmp (box x) (box y)
  row_beyond x y s t h =
      let a = part_outside commalist heading x s.long in
      let b = part_outside commalist heading y t.long in
      let same : row_cmp (part_of label x) (part_of label y) ≡ row_cmp (others commalist x) (others commalist y) = λ i. row_cmp (a i) (b i) in
      elim h [ inl l ↦ inl (sym same ∙ l) | inr w ↦ inr (sym same ∙ w.0, w.1) ]

  boxes_beyond : (list : List Row) → ((x : Row) → In x list → IsShaped heading commalist x) → AreBeyond label at One list → AreBoxesBeyond row_cmp (map box list)
  boxes_beyond list shaped h = record {
    sides = λ i d l.
        let k : i < length list = omega (arith, length-map list box) in
        let x : Row = get_or list i [] in
        subst HasOneSide (sym (get_or-map box list i [] d k)) (refl, span_ordered at x (h.spans i [] k));
    beyond = λ i d l.
        let k : suc i < length list = omega (arith, length-map list box) in
        let j : i < length list = omega arith in
        let x : Row = get_or list i [] in
        let y : Row = get_or list (suc i) [] in
        let here : IsBoxBeyond row_cmp (box x) (box y) = row_beyond x y (shaped x (in_at list i j)) (shaped y (in_at list (suc i) k)) (h.beyond i [] k) in
        let first = get_or-map box list i [] d j in
        let second = get_or-map box list (suc i) [] d k in
        subst (λ (u : Boxed Row). IsBoxBeyond row_cmp u (get_or (map box list) (suc i) d)) (sym first) (subst (λ (u : Boxed Row). IsBoxBeyond row_cmp (box x) u) (sym second) here);
  }
    where
      in_at : (xs : List Row) (i : ℕ) → i < length xs → In (get_or xs i []) xs
      in_at [] i l = absurd (omega arith)
      in_at (x ∷ xs) zero l = inl refl
      in_at (x ∷ xs) (suc i) l = inr (in_at xs i (omega arith))

  module _ (rows : List Row) (shaped : (x : Row) → In x rows → IsShaped heading commalist x) where
    own_packed : IsChain label at One rows → in_order box_cmp (map box rows) ≡ packed_boxes row_cmp 1 (map box rows)
    own_packed chain =
        apart_packed row_cmp row_total box_total box_separates (map box rows) (map box chain.list) (IsPermutation-map box rows chain.list chain.moved)
        (boxes_beyond chain.list (λ x i. shaped x (In-permutation chain.list rows x (IsPermutation-sym rows chain.list chain.moved) i)) chain.beyond)

    -- the rows of their boxes
    come_back : rows_of (map (unboxed heading commalist) (in_order box_cmp (map box rows))) ≡ rows_of rows
    come_back = in_order_by_members row_cmp row_total row_separates (map (unboxed heading commalist) (in_order box_cmp (map box rows))) rows (λ x. (
      λ i.
          let u = (In-map (unboxed heading commalist) x (in_order box_cmp (map box rows))).0 i in
          let v = (In-map box u.0 rows).0 ((In-in_order box_cmp box_total box_separates u.0 (map box rows)).0 u.1) in
          let back : x ≡ v.0 = u.2 ∙ ap (unboxed heading commalist) v.2 ∙ unboxed-boxed heading commalist intervals v.0 (shaped v.0 v.1) in
          subst (λ (y : Row). In y rows) (sym back) v.1,
      λ i. (In-map (unboxed heading commalist) x (in_order box_cmp (map box rows))).1 (
        box x,
        (In-in_order box_cmp box_total box_separates (box x) (map box rows)).1 ((In-map box (box x) rows).1 (x, i, refl)),
        sym (unboxed-boxed heading commalist intervals x (shaped x i)),
      ),
    ))

    -- what the packed boxes of the rows give are the rows
    pub given_back : IsChain label at One rows → rows_of (map (unboxed heading commalist) (packed_boxes row_cmp 1 (map box rows))) ≡ rows_of rows
    given_back chain = ap (λ bs. rows_of (map (unboxed heading commalist) bs)) (sym (own_packed chain)) ∙ come_back

  pub one_apart : (rows : List Row) → Ascends row_cmp rows → ((x : Row) → In x rows → IsShaped heading commalist x) → IsChain label at One rows → packed commalist rows ≡ rows
  one_apart rows up shaped chain =
      (packed_rows heading commalist intervals rows up shaped).are ∙ given_back rows shaped chain ∙ in_order_of_ascending row_cmp row_total row_separates rows up

  pub both_apart : (r s : List Row) → Ascends row_cmp r → Ascends row_cmp s → ((x : Row) → In x r → IsShaped heading commalist x) → ((x : Row) → In x s → IsShaped heading commalist x)
      → IsChain label at One (r ++ s) → packed commalist (united (unpacked commalist r) (unpacked commalist s)) ≡ united r s
  both_apart r s up up' shaped shaped' chain =
      let all : (x : Row) → In x (r ++ s) → IsShaped heading commalist x = λ x i. elim ((In-append x r s).0 i) [ inl j ↦ shaped x j | inr j ↦ shaped' x j ] in
      let form : packed_boxes row_cmp 1 (map box (r ++ s)) ≡ packed_boxes row_cmp 1 (union_of box_cmp (unpacked_boxes row_cmp 1 (map box r)) (unpacked_boxes row_cmp 1 (map box s))) =
      ap (packed_boxes row_cmp 1) (map-append box r s)
      ∙ packed_union row_cmp row_total row_separates 1 (map box r) (map box s) (boxes_have heading commalist intervals r) (boxes_have heading commalist intervals s) in
      (united_rows heading commalist intervals r s up up' shaped shaped').are ∙ ap (λ bs. rows_of (map (unboxed heading commalist) bs)) (sym form) ∙ given_back (r ++ s) all chain

-- ---- relations

pub one_intervals : (heading : Heading) (commalist : List ℕ) (i : ℕ) → length commalist ≡ 1 → i ≡ get_or commalist 0 0 → AreIntervals heading commalist → AreIntervals heading (i ∷ [])
one_intervals heading commalist i one is intervals = subst (AreIntervals heading) (sym (one_listed commalist i one is)) intervals

pub one_kept : (r : Relation) → IsRelation r → (commalist : List ℕ) (i : ℕ) → length commalist ≡ 1 → i ≡ get_or commalist 0 0 → AreIntervals r.heading commalist → (outer : List ℕ) → outer ≡ outside commalist r.heading
    → IsChain outer i One r.rows → packed commalist r.rows ≡ r.rows
one_kept r is commalist i one at intervals outer places chain =
    let same : i ∷ [] ≡ commalist = one_listed commalist i one at in
    let here : AreIntervals r.heading (i ∷ []) = one_intervals r.heading commalist i one at intervals in
    let moved : IsChain (outside (i ∷ []) r.heading) i One r.rows = subst (λ (ps : List ℕ). IsChain ps i One r.rows) (places ∙ ap (λ (ps : List ℕ). outside ps r.heading) (sym same)) chain in
    subst (λ (ps : List ℕ). packed ps r.rows ≡ r.rows) same (one_apart r.heading i here r.rows (rows_ascend r is) (relation_shaped r is (i ∷ []) here) moved)

pub both_kept : (left right : Relation) → IsRelation left → IsRelation right → left.heading ≡ right.heading → (commalist : List ℕ) (i : ℕ) → length commalist ≡ 1 → i ≡ get_or commalist 0 0 → AreIntervals left.heading commalist
    → (outer : List ℕ) → outer ≡ outside commalist left.heading → IsChain outer i One (left.rows ++ right.rows) → packed commalist (united (unpacked commalist left.rows) (unpacked commalist right.rows)) ≡ united left.rows right.rows
both_kept left right l r heading commalist i one at intervals outer places chain =
    let same : i ∷ [] ≡ commalist = one_listed commalist i one at in
    let here : AreIntervals left.heading (i ∷ []) = one_intervals left.heading commalist i one at intervals in
    let moved : IsChain (outside (i ∷ []) left.heading) i One (left.rows ++ right.rows) =
    subst (λ (ps : List ℕ). IsChain ps i One (left.rows ++ right.rows)) (places ∙ ap (λ (ps : List ℕ). outside ps left.heading) (sym same)) chain in
    subst (λ (ps : List ℕ). packed ps (united (unpacked ps left.rows) (unpacked ps right.rows)) ≡ united left.rows right.rows) same
    (both_apart left.heading i here left.rows right.rows (rows_ascend left l) (rows_ascend right r) (relation_shaped left l (i ∷ []) here) (shaped_under left.heading right heading r (i ∷ []) here) moved)
