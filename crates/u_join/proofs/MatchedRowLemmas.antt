-- Left rows with what they have in common with right ones of their keys, packed, are the matched rows.
use Rattle.std.proofs.Common.{◌≡◌, ◌↔◌, ℕ, suc, ◌+◌, ◌<◌, false, List, [], ◌∷◌, ◌++◌, map, set, length, get_or, refl, sym, ap, ◌∙◌, subst, arith}
use Rattle.std.specs.Bool.{IsTrue}
use Rattle.std.proofs.lemmas.List.{get_or_append_left}
use Rattle.base_core.proofs.MemberLemmas.{list_all-In}
use Rattle.point_core.specs.Points.{line_of}
use Rattle.cell_packing.specs.Boxed.{Boxed, packed_boxes, unpacked_boxes, InBoxes}
use Rattle.cell_packing.specs.Covering.{Among}
use Rattle.cell_packing.proofs.PackedBoxes.{among_in}
use Rattle.cell_core.proofs.PackedGridPoints.{AllHave, packed_from_same}
use Rattle.value_core.specs.declared.kind.Kind.TheVariants.{Span as SpanOf}
use Rattle.value_core.specs.Attributes.{value_at, span_of, with_span, put_span}
use Rattle.value_core.specs.Order.{row_total, row_separates}
use Rattle.value_core.specs.Relations.{all_fit}
use Rattle.value_core.specs.RowPacking.{packed, unpacked}
use Rattle.value_core.specs.Values.{Row, Heading, Relation, IsRelation, truth, interval, row_cmp, rows_of, fits, fits_heading}
use Rattle.relation_core.specs.Agreement.{part_of, common_positions, matched}
use Rattle.relation_core.specs.Joins.{HaveEqualKinds}
use Rattle.relation_core.specs.Parts.{no_attribute, kind_at, attributes_at}
use Rattle.relation_core.proofs.FilterLemmas.{rows_ascend}
use Rattle.relation_core.proofs.HeadingLemmas.{heading_ascends}
use Rattle.u_set.specs.Apart.{span_in, outside_from, outside}
use Rattle.u_set.specs.Boxes.{AreIntervals, IsShaped, type_of, others, boxed, unboxed}
use Rattle.u_set.proofs.BoxLemmas.{place_listed, kind_listed, span_fits, shaped_from_fit, all_alike}
use Rattle.u_set.proofs.BridgeLemmas.{boxes_have}
use Rattle.u_set.proofs.CoalescingLemmas.{listed, set_fits}
use Rattle.u_set.proofs.RelationLemmas.{relation_shaped}
use Rattle.u_row.specs.Kept.{inner, unlisted}
use Rattle.u_row.proofs.LabelLemmas.{inner_values}
use Rattle.u_join.specs.Pairs.{matched_boxes, joined_boxes, IsMatchedAt, IsJoinedAt}
use Rattle.u_join.specs.RowPairs.{met, Meet, AreMade, made_row}
use Rattle.u_join.proofs.ListedLemmas.{matched_at}
use Rattle.u_join.proofs.MadeLemmas.{same_line-self, relation_fits}
use Rattle.u_join.proofs.MadePlaces.{packed_made}
use Rattle.u_join.proofs.PairPlaces.{places_matched, places_joined, matched_have, joined_have}
use Rattle.u_join.proofs.PairRowLemmas.{met_fits}

-- ---- all values of a row, of which others follow

own_from : {X : Type 0} (xs : List X) (all : Row) (n : ℕ) (row : Row) → length row ≡ length xs
    → ((m : ℕ) → m < length row → get_or all (n + m) (truth false) ≡ get_or row m (truth false)) → part_of (outside_from n [] xs) all ≡ row
own_from [] all n [] l h = refl
own_from [] all n (v ∷ row) l h = absurd (omega arith)
own_from (a ∷ xs) all n [] l h = absurd (omega arith)
own_from (a ∷ xs) all n (v ∷ row) l h =
    let ih : part_of (outside_from (suc n) [] xs) all ≡ row = own_from xs all (suc n) row (omega arith) (λ m k.
    let s : n + suc m ≡ suc n + m = omega arith in
    subst (λ j. get_or all j (truth false) ≡ get_or row m (truth false)) s (h (suc m) (omega arith))) in
    let z : n + 0 ≡ n = omega arith in
    let first : get_or all n (truth false) ≡ v = subst (λ j. get_or all j (truth false) ≡ v) z (h 0 (omega arith)) in
    λ t. first t ∷ ih t

pub own_values : {X : Type 0} (xs : List X) (x y : Row) → length x ≡ length xs → part_of (outside [] xs) (x ++ y) ≡ x
own_values xs x y l = own_from xs (x ++ y) 0 x l (λ m k.
    let z : m ≡ 0 + m = omega arith in
    subst (λ j. get_or (x ++ y) j (truth false) ≡ get_or x m (truth false)) z (get_or_append_left x y (truth false) m k))

pub all_places : {X : Type 0} (xs : List X) → length (outside [] xs) ≡ length xs
all_places xs = go xs 0
  where
    go : {X : Type 0} (xs : List X) (n : ℕ) → length (outside_from n [] xs) ≡ length xs
    go [] n = refl
    go (x ∷ xs) n = ap suc (go xs (suc n))

-- ---- the label of the left row alone

matched_is_joined : (here there : List ℕ) (A B : Row → Type 0) (l : Row) → IsJoinedAt here there (λ a b. a) A B l ↔ IsMatchedAt here there A B l
matched_is_joined here there A B l = (
  λ h. let e : l ≡ h.0 = h.5 in (subst A (sym e) h.2, (h.1, h.3, ap (part_of here) e ∙ h.4)),
  λ h. (l, h.1.0, h.0, h.1.1, h.1.2, refl),
)

module _ (left right : Heading) (here there : ℕ) (same : attributes_at (here ∷ []) left ≡ attributes_at (there ∷ []) right)
    (intervals : AreIntervals left (here ∷ [])) (intervals' : AreIntervals right (there ∷ [])) where
  abbrev made : Row → Row → Row
  made = made_row (outside [] left) (type_of (kind_at left here)) here here there

  -- ---- one made row

  module _ (x y : Row) (fx : IsTrue (fits_heading left x)) (fy : IsTrue (fits_heading right y)) where
    other_kind : kind_at left here ≡ kind_at right there
    other_kind = ap (λ (h : Heading). (get_or h 0 no_attribute).1) same

    shaped : IsShaped left (here ∷ []) x
    shaped = shaped_from_fit left (here ∷ []) intervals x fx

    whole : part_of (outside [] left) (x ++ y) ≡ x
    whole = own_values left x y shaped.long

    -- it is the left row with another interval
    made_is : made x y ≡ put_span x here (met (span_in here x) (span_in there y))
    made_is =
        let m = met (span_in here x) (span_in there y) in
        let is : value_at x here ≡ interval (line_of (type_of (kind_at left here))) (span_of (value_at x here)) = shaped.spans here (listed left here intervals) in
        let with : with_span (value_at x here) m ≡ interval (line_of (type_of (kind_at left here))) m = ap (λ v. with_span v m) is in
        (λ t. set (whole t) here (sym with t))

    made_box : boxed (here ∷ []) (made x y) ≡ (others (here ∷ []) x, met (span_in here x) (span_in there y) ∷ [])
    made_box = ap (boxed (here ∷ [])) made_is ∙ (all_alike left (here ∷ []) intervals).0.put x (met (span_in here x) (span_in there y)) shaped

    made_fits : Meet (span_in here x) (span_in there y) → IsTrue (fits_heading left (made x y))
    made_fits meet =
        let t = type_of (kind_at left here) in
        let v = value_at x here in
        let w = value_at y there in
        let own = span_fits left (here ∷ []) intervals x fx here (listed left here intervals) in
        let other = subst (λ k. IsTrue (fits (SpanOf (type_of k)) w)) (sym other_kind) (span_fits right (there ∷ []) intervals' y fy there (place_listed (there ∷ []) 0 (omega arith))) in
        let both : IsTrue (fits (SpanOf t) (interval (line_of t) (met (span_of v) (span_of w)))) = met_fits t v w own other meet (same_line-self (line_of t)) in
        let kind : kind_at left here ≡ SpanOf t = (kind_listed left (here ∷ []) intervals here (listed left here intervals)).1 in
        subst (λ (r : Row). IsTrue (fits_heading left (set r here (interval (line_of t) (met (span_of v) (span_of w)))))) (sym whole)
        (set_fits left x here (interval (line_of t) (met (span_of v) (span_of w))) fx (subst (λ k. IsTrue (fits k (interval (line_of t) (met (span_of v) (span_of w))))) (sym kind) both))

  -- ---- all of them

  module _ (r s rows : List Row) (fr : (x : Row) → Among x r → IsTrue (fits_heading left x)) (fs : (y : Row) → Among y s → IsTrue (fits_heading right y))
      (are : AreMade (unlisted (here ∷ []) (common_positions left left right)) (unlisted (there ∷ []) (common_positions right left right)) here there made r s rows) where
    all_fit_matched : IsTrue (all_fit left rows)
    all_fit_matched = (list_all-In (fits_heading left) rows).1 (λ z m.
        let w = are.from z ((among_in z rows).1 m) in
        subst (λ (q : Row). IsTrue (fits_heading left q)) (sym w.6) (made_fits w.0 w.1 (fr w.0 w.2) (fs w.1 w.3) w.5))

    packed_matched : packed_boxes row_cmp 1 (map (boxed (here ∷ [])) rows)
        ≡ packed_boxes row_cmp 1 (matched_boxes (inner (here ∷ []) (common_positions left left right)) (inner (there ∷ []) (common_positions right left right))
        (unpacked_boxes row_cmp 1 (map (boxed (here ∷ [])) r)) (unpacked_boxes row_cmp 1 (map (boxed (there ∷ [])) s)))
    packed_matched =
        let key = inner (here ∷ []) (common_positions left left right) in
        let key' = inner (there ∷ []) (common_positions right left right) in
        let lefts : List (Boxed Row) = map (boxed (here ∷ [])) r in
        let rights : List (Boxed Row) = map (boxed (there ∷ [])) s in
        let hl : AllHave 1 lefts = boxes_have left (here ∷ []) intervals r in
        let hr : AllHave 1 rights = boxes_have right (there ∷ []) intervals' s in
        let own : Row → Row → Row = λ a b. a in
        packed_made (unlisted (here ∷ []) (common_positions left left right)) (unlisted (there ∷ []) (common_positions right left right)) key key' here there here own made r s rows are
        (λ x. inner_values (here ∷ []) (common_positions left left right) x (truth false)) (λ y. inner_values (there ∷ []) (common_positions right left right) y (truth false))
        (λ x y m n. made_box x y (fr x m) (fs y n))
        ∙ packed_from_same row_cmp row_total row_separates 1 (joined_boxes key key' own (unpacked_boxes row_cmp 1 lefts) (unpacked_boxes row_cmp 1 rights))
        (matched_boxes key key' (unpacked_boxes row_cmp 1 lefts) (unpacked_boxes row_cmp 1 rights)) (joined_have key key' 1 lefts rights hl hr own) (matched_have key key' 1 lefts rights hl hr)
        (λ l p.
        let a = places_joined key key' 1 lefts rights hl hr own l p in
        let b = places_matched key key' 1 lefts rights hl hr l p in
        let e = matched_is_joined key key' (λ a. InBoxes lefts a p) (λ b. InBoxes rights b p) l in
        (λ w. b.1 (e.0 (a.0 w)), λ w. a.1 (e.1 (b.0 w))))

-- the rows that the pairs of two relations give
module _ (left right : Relation) (l : IsRelation left) (r : IsRelation right) (here there : ℕ) (same : attributes_at (here ∷ []) left.heading ≡ attributes_at (there ∷ []) right.heading)
    (kinds : HaveEqualKinds left.heading right.heading) (intervals : AreIntervals left.heading (here ∷ [])) (intervals' : AreIntervals right.heading (there ∷ [])) (rows : List Row)
    (are : AreMade (unlisted (here ∷ []) (common_positions left.heading left.heading right.heading)) (unlisted (there ∷ []) (common_positions right.heading left.heading right.heading)) here there
    (made_row (outside [] left.heading) (type_of (kind_at left.heading here)) here here there) left.rows right.rows rows) where
  pub matched_fit : IsTrue (all_fit left.heading rows)
  matched_fit = all_fit_matched left.heading right.heading here there same intervals intervals' left.rows right.rows rows (relation_fits left l) (relation_fits right r) are

  pub made_matched : rows_of (map (unboxed left.heading (here ∷ [])) (packed_boxes row_cmp 1 (map (boxed (here ∷ [])) rows)))
      ≡ packed (here ∷ []) (matched left.heading right.heading (unpacked (here ∷ []) left.rows) (unpacked (there ∷ []) right.rows))
  made_matched =
      let form = packed_matched left.heading right.heading here there same intervals intervals' left.rows right.rows rows (relation_fits left l) (relation_fits right r) are in
      let rows_are = matched_at left.heading right.heading (here ∷ []) (there ∷ []) same kinds (heading_ascends left.heading l.headed) (heading_ascends right.heading r.headed) intervals intervals'
      left.rows right.rows (rows_ascend left l) (rows_ascend right r) (relation_shaped left l (here ∷ []) intervals) (relation_shaped right r (there ∷ []) intervals') in
      ap (λ bs. rows_of (map (unboxed left.heading (here ∷ [])) bs)) form ∙ sym rows_are.are
