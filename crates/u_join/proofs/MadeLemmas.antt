-- The rows that pairs give, packed, are the joined rows.
use Rattle.std.proofs.Common.{◌≡◌, ◌↔◌, true, false, ℕ, ◌++◌, List, [], ◌∷◌, map, set, length, get_or, sym, ap, ◌∙◌, subst, arith}
use Rattle.std.specs.Prelude.{Result, Ok, Err, Option, Some, None, IfOk, IfSome}
use Rattle.std.specs.Ordering.{is_eq}
use Rattle.std.specs.Bool.{IsTrue}
use Rattle.std.proofs.lemmas.Cmp.{tied_itself, on_total, lists_total, int_cmp_total}
use Rattle.base_core.proofs.SetLemmas.{In, Ascends, In-in_order, Ascends-in_order}
use Rattle.base_core.proofs.MemberLemmas.{In-map, list_all-In}
use Rattle.point_core.specs.Points.{line_of, Line}
use Rattle.cell_packing.specs.Boxed.{Boxed, packed_boxes, unpacked_boxes}
use Rattle.cell_packing.specs.Covering.{Among}
use Rattle.cell_packing.proofs.PackedBoxes.{among_in}
use Rattle.value_core.specs.declared.kind.Kind.TheVariants.{Span as SpanOf}
use Rattle.value_core.specs.Attributes.{value_at, span_of, with_span, put_span}
use Rattle.value_core.specs.Order.{row_total, row_separates}
use Rattle.value_core.specs.Relations.{all_fit}
use Rattle.value_core.specs.RowPacking.{packed, unpacked}
use Rattle.value_core.specs.Values.{Row, Heading, Relation, IsRelation, truth, interval, line_key, same_line, attribute_cmp, row_cmp, rows_of, fits, fits_heading}
use Rattle.relation_core.specs.Agreement.{common_positions}
use Rattle.relation_core.specs.Joins.{joined_heading, HaveEqualKinds, joined_row, joined}
use Rattle.relation_core.specs.Parts.{no_attribute, kind_at, attributes_at, positions_in}
use Rattle.relation_core.proofs.AttributeLemmas.{joined_ascends}
use Rattle.relation_core.proofs.FilterLemmas.{rows_ascend}
use Rattle.relation_core.proofs.HeadingLemmas.{heading_ascends}
use Rattle.relation_core.proofs.JoinLemmas.{joined_fits}
use Rattle.u_set.specs.Apart.{span_in}
use Rattle.u_set.specs.Boxes.{AreIntervals, IsShaped, type_of, others, boxed, unboxed}
use Rattle.u_set.proofs.BoxLemmas.{place_listed, kind_listed, span_fits, shaped_from_fit, all_alike}
use Rattle.cell_core.proofs.PackedGridPoints.{packed_from_same}
use Rattle.u_set.proofs.BridgeLemmas.{boxes_have, same_places, packed_rows}
use Rattle.u_set.proofs.CoalescingLemmas.{set_fits}
use Rattle.u_set.proofs.RelationLemmas.{relation_shaped}
use Rattle.u_row.specs.Kept.{inner, unlisted}
use Rattle.u_row.proofs.LabelLemmas.{inner_values}
use Rattle.u_join.specs.Pairs.{joined_label, joined_boxes}
use Rattle.u_join.specs.Places.{positions_of_both}
use Rattle.u_join.specs.RowPairs.{met, Meet, AreMade, made_row}
use Rattle.u_join.proofs.ListedLemmas.{shaped_at, boxed_at, joined_under}
use Rattle.u_join.proofs.MadePlaces.{packed_made}
use Rattle.u_join.proofs.PairRowLemmas.{met_fits}

-- what some rows have holds with what follows from it
pub if_made : {X E : Type 0} (P Q : X → Type 0) → ((x : X) → P x → Q x) → (r : Result (Option X) E) → IfOk r (λ o. IfSome o P) → IfOk r (λ o. IfSome o Q)
if_made P Q f (Ok (Some x)) h = f x h
if_made P Q f (Ok None) h = tt
if_made P Q f (Err e) h = tt

pub same_line-self : (l : Line) → same_line l l ≡ true
same_line-self l = ap is_eq (tied_itself (on_total line_key (lists_total int_cmp_total)) l)

module _ (left right : Heading) (at here there : ℕ) (same : attributes_at (here ∷ []) left ≡ attributes_at (there ∷ []) right) (kinds : HaveEqualKinds left right)
    (first : Ascends attribute_cmp left) (second : Ascends attribute_cmp right) (intervals : AreIntervals left (here ∷ [])) (intervals' : AreIntervals right (there ∷ [])) where
  abbrev label : Heading → Row → Row → Row
  label heading = joined_label (inner (positions_of_both (length left) (here ∷ []) (there ∷ [])) (positions_in (left ++ right) heading))

  abbrev made : Heading → Row → Row → Row
  made heading = made_row (positions_in (left ++ right) heading) (type_of (kind_at left here)) at here there

  abbrev whole : Heading
  whole = joined_heading left right

  -- ---- one made row

  module _ (whole_intervals : AreIntervals whole (at ∷ [])) (listed : attributes_at (at ∷ []) whole ≡ attributes_at (here ∷ []) left)
      (x y : Row) (fx : IsTrue (fits_heading left x)) (fy : IsTrue (fits_heading right y)) where
    kind_is : kind_at whole at ≡ kind_at left here
    kind_is = ap (λ (h : Heading). (get_or h 0 no_attribute).1) listed

    other_kind : kind_at left here ≡ kind_at right there
    other_kind = ap (λ (h : Heading). (get_or h 0 no_attribute).1) same

    shaped : IsShaped left (here ∷ []) x
    shaped = shaped_from_fit left (here ∷ []) intervals x fx

    shaped' : IsShaped right (there ∷ []) y
    shaped' = shaped_from_fit right (there ∷ []) intervals' y fy

    own_shaped : IsShaped whole (at ∷ []) (joined_row left right x y)
    own_shaped = shaped_at left right (here ∷ []) (there ∷ []) same kinds first second intervals intervals' (at ∷ []) whole_intervals (joined_ascends left right first second kinds) listed x y shaped shaped'

    -- it is the joined row with another interval
    made_is : made whole x y ≡ put_span (joined_row left right x y) at (met (span_in here x) (span_in there y))
    made_is =
        let z : Row = joined_row left right x y in
        let is : value_at z at ≡ interval (line_of (type_of (kind_at whole at))) (span_of (value_at z at)) = own_shaped.spans at (place_listed (at ∷ []) 0 (omega arith)) in
        let with : with_span (value_at z at) (met (span_in here x) (span_in there y)) ≡ interval (line_of (type_of (kind_at left here))) (met (span_in here x) (span_in there y)) =
        ap (λ v. with_span v (met (span_in here x) (span_in there y))) is ∙ ap (λ k. interval (line_of (type_of k)) (met (span_in here x) (span_in there y))) kind_is in
        ap (set z at) (sym with)

    made_box : boxed (at ∷ []) (made whole x y) ≡ (label whole (others (here ∷ []) x) (others (there ∷ []) y), met (span_in here x) (span_in there y) ∷ [])
    made_box =
        let z : Row = joined_row left right x y in
        let m = met (span_in here x) (span_in there y) in
        let put = (all_alike whole (at ∷ []) whole_intervals).0.put z m own_shaped in
        let box = boxed_at left right (here ∷ []) (there ∷ []) same kinds first second intervals intervals' (at ∷ []) whole_intervals (joined_ascends left right first second kinds) listed x y shaped shaped' in
        let named : others (at ∷ []) z ≡ label whole (others (here ∷ []) x) (others (there ∷ []) y) = ap (λ (b : Boxed Row). b.0) box in
        ap (boxed (at ∷ [])) made_is ∙ put ∙ (λ t. (named t, m ∷ []))

    made_fits : Meet (span_in here x) (span_in there y) → IsTrue (fits_heading whole (made whole x y))
    made_fits meet =
        let t = type_of (kind_at left here) in
        let v = value_at x here in
        let w = value_at y there in
        let own = span_fits left (here ∷ []) intervals x fx here (place_listed (here ∷ []) 0 (omega arith)) in
        let other = subst (λ k. IsTrue (fits (SpanOf (type_of k)) w)) (sym other_kind) (span_fits right (there ∷ []) intervals' y fy there (place_listed (there ∷ []) 0 (omega arith))) in
        let both : IsTrue (fits (SpanOf t) (interval (line_of t) (met (span_of v) (span_of w)))) = met_fits t v w own other meet (same_line-self (line_of t)) in
        let kind : kind_at whole at ≡ SpanOf t = (kind_listed whole (at ∷ []) whole_intervals at (place_listed (at ∷ []) 0 (omega arith))).1 ∙ ap (λ k. SpanOf (type_of k)) kind_is in
        set_fits whole (joined_row left right x y) at (interval (line_of t) (met (span_of v) (span_of w))) (joined_fits left right first second kinds x y fx fy)
        (subst (λ k. IsTrue (fits k (interval (line_of t) (met (span_of v) (span_of w))))) (sym kind) both)

  -- ---- under a heading that is the joined one

  module _ (heading : Heading) (is : heading ≡ joined_heading left right) (whole_intervals : AreIntervals heading (at ∷ [])) (listed : attributes_at (at ∷ []) heading ≡ attributes_at (here ∷ []) left) where
    own_intervals : AreIntervals whole (at ∷ [])
    own_intervals = subst (λ (h : Heading). AreIntervals h (at ∷ [])) is whole_intervals

    own_listed : attributes_at (at ∷ []) whole ≡ attributes_at (here ∷ []) left
    own_listed = ap (attributes_at (at ∷ [])) (sym is) ∙ listed

    box_at : (x y : Row) → IsTrue (fits_heading left x) → IsTrue (fits_heading right y)
        → boxed (at ∷ []) (made heading x y) ≡ (label heading (others (here ∷ []) x) (others (there ∷ []) y), met (span_in here x) (span_in there y) ∷ [])
    box_at x y fx fy =
        subst (λ (h : Heading). boxed (at ∷ []) (made h x y) ≡ (label h (others (here ∷ []) x) (others (there ∷ []) y), met (span_in here x) (span_in there y) ∷ [])) (sym is) (made_box own_intervals own_listed x y fx fy)

    fits_at : (x y : Row) → IsTrue (fits_heading left x) → IsTrue (fits_heading right y) → Meet (span_in here x) (span_in there y) → IsTrue (fits_heading heading (made heading x y))
    fits_at x y fx fy meet = subst (λ (h : Heading). IsTrue (fits_heading h (made h x y))) (sym is) (made_fits own_intervals own_listed x y fx fy meet)

    module _ (r s rows : List Row) (fr : (x : Row) → Among x r → IsTrue (fits_heading left x)) (fs : (y : Row) → Among y s → IsTrue (fits_heading right y))
        (are : AreMade (unlisted (here ∷ []) (common_positions left left right)) (unlisted (there ∷ []) (common_positions right left right)) here there (made heading) r s rows) where
      pub all_fit_made : IsTrue (all_fit heading rows)
      all_fit_made = (list_all-In (fits_heading heading) rows).1 (λ z m.
          let w = are.from z ((among_in z rows).1 m) in
          subst (λ (q : Row). IsTrue (fits_heading heading q)) (sym w.6) (fits_at w.0 w.1 (fr w.0 w.2) (fs w.1 w.3) w.5))

      pub packed_pairs : packed_boxes row_cmp 1 (map (boxed (at ∷ [])) rows)
          ≡ packed_boxes row_cmp 1 (joined_boxes (inner (here ∷ []) (common_positions left left right)) (inner (there ∷ []) (common_positions right left right)) (label heading)
          (unpacked_boxes row_cmp 1 (map (boxed (here ∷ [])) r)) (unpacked_boxes row_cmp 1 (map (boxed (there ∷ [])) s)))
      packed_pairs =
          packed_made (unlisted (here ∷ []) (common_positions left left right)) (unlisted (there ∷ []) (common_positions right left right))
          (inner (here ∷ []) (common_positions left left right)) (inner (there ∷ []) (common_positions right left right)) here there at (label heading) (made heading) r s rows are
          (λ x. inner_values (here ∷ []) (common_positions left left right) x (truth false)) (λ y. inner_values (there ∷ []) (common_positions right left right) y (truth false))
          (λ x y m n. box_at x y (fr x m) (fs y n))

pub relation_fits : (q : Relation) → IsRelation q → (x : Row) → Among x q.rows → IsTrue (fits_heading q.heading x)
relation_fits q given x m = (list_all-In (fits_heading q.heading) q.rows).0 given.fitting x ((among_in x q.rows).0 m)

-- the rows that the pairs of two relations give, packed, are the joined rows
module _ (left right : Relation) (l : IsRelation left) (r : IsRelation right) (at here there : ℕ) (same : attributes_at (here ∷ []) left.heading ≡ attributes_at (there ∷ []) right.heading)
    (kinds : HaveEqualKinds left.heading right.heading) (intervals : AreIntervals left.heading (here ∷ [])) (intervals' : AreIntervals right.heading (there ∷ []))
    (heading : Heading) (is : heading ≡ joined_heading left.heading right.heading) (whole_intervals : AreIntervals heading (at ∷ [])) (listed : attributes_at (at ∷ []) heading ≡ attributes_at (here ∷ []) left.heading)
    (rows : List Row)
    (are : AreMade (unlisted (here ∷ []) (common_positions left.heading left.heading right.heading)) (unlisted (there ∷ []) (common_positions right.heading left.heading right.heading)) here there
    (made_row (positions_in (left.heading ++ right.heading) heading) (type_of (kind_at left.heading here)) at here there) left.rows right.rows rows) where
  pub made_fit : IsTrue (all_fit heading rows)
  made_fit =
      all_fit_made left.heading right.heading at here there same kinds (heading_ascends left.heading l.headed) (heading_ascends right.heading r.headed) intervals intervals' heading is whole_intervals listed
      left.rows right.rows rows (relation_fits left l) (relation_fits right r) are

  pub made_joined : rows_of (map (unboxed heading (at ∷ [])) (packed_boxes row_cmp 1 (map (boxed (at ∷ [])) rows)))
      ≡ packed (at ∷ []) (joined left.heading right.heading (unpacked (here ∷ []) left.rows) (unpacked (there ∷ []) right.rows))
  made_joined =
      let first = heading_ascends left.heading l.headed in
      let second = heading_ascends right.heading r.headed in
      let form = packed_pairs left.heading right.heading at here there same kinds first second intervals intervals' heading is whole_intervals listed
      left.rows right.rows rows (relation_fits left l) (relation_fits right r) are in
      let rows_are = joined_under left.heading right.heading (here ∷ []) (there ∷ []) same kinds first second intervals intervals'
      left.rows right.rows (rows_ascend left l) (rows_ascend right r) (relation_shaped left l (here ∷ []) intervals) (relation_shaped right r (there ∷ []) intervals')
      heading (at ∷ []) is whole_intervals listed in
      ap (λ bs. rows_of (map (unboxed heading (at ∷ [])) bs)) form ∙ sym rows_are.are

  -- so the rows are a set that packs to the joined rows
  pub made_set : packed (at ∷ []) (rows_of rows) ≡ packed (at ∷ []) (joined left.heading right.heading (unpacked (here ∷ []) left.rows) (unpacked (there ∷ []) right.rows))
  made_set =
      let fit : (z : Row) → In z rows → IsTrue (fits_heading heading z) = (list_all-In (fits_heading heading) rows).0 made_fit in
      let all = λ (z : Row). In-in_order row_cmp row_total row_separates z rows in
      let members : (b : Boxed Row) → In b (map (boxed (at ∷ [])) (rows_of rows)) ↔ In b (map (boxed (at ∷ [])) rows) = λ b. (
        λ m. let w = (In-map (boxed (at ∷ [])) b (rows_of rows)).0 m in (In-map (boxed (at ∷ [])) b rows).1 (w.0, (all w.0).0 w.1, w.2),
        λ m. let w = (In-map (boxed (at ∷ [])) b rows).0 m in (In-map (boxed (at ∷ [])) b (rows_of rows)).1 (w.0, (all w.0).1 w.1, w.2),
      ) in
      let form = packed_from_same row_cmp row_total row_separates 1 (map (boxed (at ∷ [])) (rows_of rows)) (map (boxed (at ∷ [])) rows)
      (boxes_have heading (at ∷ []) whole_intervals (rows_of rows)) (boxes_have heading (at ∷ []) whole_intervals rows) (same_places (map (boxed (at ∷ [])) (rows_of rows)) (map (boxed (at ∷ [])) rows) members) in
      (packed_rows heading (at ∷ []) whole_intervals (rows_of rows) (Ascends-in_order row_cmp row_total row_separates rows) (λ z m. shaped_from_fit heading (at ∷ []) whole_intervals z (fit z ((all z).0 m)))).are
      ∙ ap (λ bs. rows_of (map (unboxed heading (at ∷ [])) bs)) form ∙ made_joined
