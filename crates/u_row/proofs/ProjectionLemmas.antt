-- The parts of unpacked rows, packed, are those of the boxes under the parts of their labels.
use Rattle.std.proofs.Common.{◌≡◌, ◌↔◌, ℕ, ◌<◌, false, List, map, length, get_or, refl, sym, ap, ◌∙◌, subst}
use Rattle.std.specs.Bool.{IsTrue}
use Rattle.std.specs.List.{All}
use Rattle.std.specs.Ordering.{nat_cmp}
use Rattle.std.proofs.lemmas.List.{get_or-map, length-map}
use Rattle.base_core.proofs.SetLemmas.{In, Ascends, In-in_order, Ascends-in_order}
use Rattle.base_core.proofs.MemberLemmas.{In-map}
use Rattle.base_core.proofs.ListLemmas.{map-In}
use Rattle.point_core.specs.Points.{line_of}
use Rattle.value_core.specs.Attributes.{value_at, span_of, among}
use Rattle.value_core.specs.Order.{row_total, row_separates}
use Rattle.value_core.specs.RowPacking.{packed, unpacked}
use Rattle.value_core.specs.Values.{Row, Heading, truth, interval, row_cmp, rows_of, fits_heading}
use Rattle.relation_core.specs.Agreement.{part_of}
use Rattle.relation_core.specs.Parts.{no_attribute, kind_at, attributes_at, projected}
use Rattle.relation_core.proofs.HeadingLemmas.{part_fits}
use Rattle.cell_packing.specs.Boxed.{Boxed, packed_boxes, unpacked_boxes}
use Rattle.cell_core.proofs.PackedGridPoints.{AllHave}
use Rattle.cell_core.proofs.UnpackedLemmas.{in_unpacked_boxes}
use Rattle.u_set.specs.Boxes.{AreIntervals, IsShaped, type_of, types_at, others, spans_at, boxed, unboxed}
use Rattle.u_set.proofs.BoxLemmas.{value_at-get}
use Rattle.u_set.proofs.BridgeLemmas.{AreRowsOf, boxes_have, unpacked_image, same_places, closed_by_boxes}
use Rattle.u_row.specs.Kept.{inner, beneath}
use Rattle.u_row.specs.Labels.{relabelled}
use Rattle.u_row.proofs.BeneathLemmas.{among_in, in_all, beneath_listed, beneath_intervals, kind_beneath}
use Rattle.u_row.proofs.LabelLemmas.{map_twice, label_of_kept, inner_within}
use Rattle.u_row.proofs.PlaceLemmas.{relabelled_have, packed_relabelled}

module _ (from : Heading) (kept commalist : List ℕ) (within : All (λ (i : ℕ). i < length from) kept) (up : Ascends nat_cmp kept)
    (intervals : AreIntervals (attributes_at kept from) commalist) where
  abbrev to : Heading
  to = attributes_at kept from

  abbrev listed : List ℕ
  listed = beneath kept commalist

  abbrev part : Row → Row
  part x = part_of kept x

  below : (j : ℕ) → In j commalist → j < length kept
  below j m = subst (λ n. j < n) (length-map kept (λ i. get_or from i no_attribute)) (in_all (λ (i : ℕ). i < length to) commalist intervals.within j m)

  -- ---- the box of a part

  value_kept : (x : Row) (j : ℕ) → j < length kept → value_at (part x) j ≡ value_at x (get_or kept j 0)
  value_kept x j l = value_at-get (part x) j ∙ get_or-map (λ i. get_or x i (truth false)) kept j 0 (truth false) l ∙ sym (value_at-get x (get_or kept j 0))

  spans_kept : (x : Row) → spans_at commalist (part x) ≡ spans_at listed x
  spans_kept x =
      map-In (λ j. span_of (value_at (part x) j)) (λ j. span_of (value_at x (get_or kept j 0))) commalist (λ j m. ap span_of (value_kept x j (below j m)))
      ∙ sym (map_twice (λ i. span_of (value_at x i)) (λ j. get_or kept j 0) commalist)

  label_kept : (x : Row) → others commalist (part x) ≡ part_of (inner listed kept) (others listed x)
  label_kept x = label_of_kept commalist listed kept x (truth false) (beneath_listed from kept commalist within up intervals)

  boxed_kept : (x : Row) → boxed commalist (part x) ≡ relabelled (part_of (inner listed kept)) (boxed listed x)
  boxed_kept x =
      let l = label_kept x in
      let s = spans_kept x in
      λ t. (l t, s t)

  heading_kept : others commalist to ≡ attributes_at (inner listed kept) (others listed from)
  heading_kept = label_of_kept commalist listed kept from no_attribute (beneath_listed from kept commalist within up intervals)

  shaped_kept : (x : Row) → IsShaped from listed x → IsShaped to commalist (part x)
  shaped_kept x h = record {
    long = length-map kept (λ i. get_or x i (truth false)) ∙ sym (length-map kept (λ i. get_or from i no_attribute));
    spans = λ i l.
        let m : i < length kept = below i (among_in commalist i l) in
        let there : IsTrue (among listed (get_or kept i 0)) = sym (beneath_listed from kept commalist within up intervals i m) ∙ l in
        let v = value_kept x i m in
        let k = kind_beneath from kept commalist within up intervals i m in
        v ∙ h.spans (get_or kept i 0) there ∙ (λ t. interval (line_of (type_of (sym k t))) (span_of (sym v t)));
    label =
        let fits : IsTrue (fits_heading (attributes_at (inner listed kept) (others listed from)) (part_of (inner listed kept) (others listed x))) =
        part_fits (others listed from) (others listed x) (inner listed kept) h.label (inner_within listed kept from (in_all (λ (i : ℕ). i < length from) kept within)) in
        let a = heading_kept in
        let b = label_kept x in
        (λ t. fits_heading (a t) (b t)) ∙ fits;
  }

  pub types_kept : types_at from listed ≡ types_at to commalist
  types_kept =
      map_twice (λ i. type_of (kind_at from i)) (λ j. get_or kept j 0) commalist
      ∙ map-In (λ j. type_of (kind_at from (get_or kept j 0))) (λ j. type_of (kind_at to j)) commalist (λ j m. ap type_of (sym (kind_beneath from kept commalist within up intervals j (below j m))))

  -- ---- the rows

  module _ (rows : List Row) (ascends : Ascends row_cmp rows) (shaped : (x : Row) → In x rows → IsShaped from listed x) where
    abbrev boxes : List (Boxed Row)
    boxes = unpacked_boxes row_cmp (length listed) (map (boxed listed) rows)

    abbrev parts : List Row
    parts = projected kept (unpacked listed rows)

    members : (y : Boxed Row) → In y (map (boxed commalist) parts) ↔ In y (map (relabelled (part_of (inner listed kept))) boxes)
    members y =
        let image = unpacked_image from listed (beneath_intervals from kept commalist within up intervals) rows ascends shaped in
        let all = In-map (boxed commalist) y parts in
        let made = In-map (relabelled (part_of (inner listed kept))) y boxes in (
          λ i.
              let w = all.0 i in
              let v = (In-map part w.0 (unpacked listed rows)).0 ((In-in_order row_cmp row_total row_separates w.0 (map part (unpacked listed rows))).0 w.1) in
              made.1 (boxed listed v.0, image.to v.0 v.1, w.2 ∙ ap (boxed commalist) v.2 ∙ boxed_kept v.0),
          λ i.
              let w = made.0 i in
              let v = image.from w.0 w.1 in
              let m : In (part v.0) parts = (In-in_order row_cmp row_total row_separates (part v.0) (map part (unpacked listed rows))).1 ((In-map part (part v.0) (unpacked listed rows)).1 (v.0, v.1, refl)) in
              all.1 (part v.0, m, w.2 ∙ ap (relabelled (part_of (inner listed kept))) v.2 ∙ sym (boxed_kept v.0)),
        )

    parts_shaped : (x : Row) → In x parts → IsShaped to commalist x
    parts_shaped x i =
        let image = unpacked_image from listed (beneath_intervals from kept commalist within up intervals) rows ascends shaped in
        let v = (In-map part x (unpacked listed rows)).0 ((In-in_order row_cmp row_total row_separates x (map part (unpacked listed rows))).0 i) in
        subst (IsShaped to commalist) (sym v.2) (shaped_kept v.0 (image.shaped v.0 v.1))

    points_have : AllHave (length commalist) (map (relabelled (part_of (inner listed kept))) boxes)
    points_have =
        let have = boxes_have from listed (beneath_intervals from kept commalist within up intervals) rows in
        let points : AllHave (length listed) boxes = λ x m. ((in_unpacked_boxes row_cmp row_total row_separates (length listed) (map (boxed listed) rows) have x).0 m).0 in
        let same : length listed ≡ length commalist = length-map commalist (λ j. get_or kept j 0) in
        subst (λ k. AllHave k (map (relabelled (part_of (inner listed kept))) boxes)) same (relabelled_have (part_of (inner listed kept)) (length listed) boxes points)

    -- the parts of the unpacked rows, packed, are those of the boxes
    pub projected_rows : AreRowsOf to commalist (packed commalist (projected kept (unpacked listed rows)))
        (packed_boxes row_cmp (length commalist) (map (relabelled (part_of (inner listed kept))) (unpacked_boxes row_cmp (length commalist) (map (boxed listed) rows))))
    projected_rows =
        let same : length listed ≡ length commalist = length-map commalist (λ j. get_or kept j 0) in
        subst (λ k. AreRowsOf to commalist (packed commalist parts) (packed_boxes row_cmp (length commalist) (map (relabelled (part_of (inner listed kept))) (unpacked_boxes row_cmp k (map (boxed listed) rows))))) same
        (closed_by_boxes to commalist intervals parts (Ascends-in_order row_cmp row_total row_separates (map part (unpacked listed rows))) parts_shaped
        (map (relabelled (part_of (inner listed kept))) boxes) points_have (same_places (map (boxed commalist) parts) (map (relabelled (part_of (inner listed kept))) boxes) members))

    -- the boxes of the parts of the rows themselves pack to the same rows
    pub own_rows : rows_of (map (unboxed to commalist) (packed_boxes row_cmp (length commalist) (map (boxed commalist) (map part rows)))) ≡ packed commalist (projected kept (unpacked listed rows))
    own_rows =
        let label : Row → Row = part_of (inner listed kept) in
        let same : length listed ≡ length commalist = length-map commalist (λ j. get_or kept j 0) in
        let have : AllHave (length commalist) (map (boxed listed) rows) = subst (λ k. AllHave k (map (boxed listed) rows)) same (boxes_have from listed (beneath_intervals from kept commalist within up intervals) rows) in
        let own : map (boxed commalist) (map part rows) ≡ map (relabelled label) (map (boxed listed) rows) =
        map_twice (boxed commalist) part rows ∙ (λ t. map (λ x. boxed_kept x t) rows) ∙ sym (map_twice (relabelled label) (boxed listed) rows) in
        let form : packed_boxes row_cmp (length commalist) (map (boxed commalist) (map part rows)) ≡ packed_boxes row_cmp (length commalist) (map (relabelled label) (unpacked_boxes row_cmp (length commalist) (map (boxed listed) rows))) =
        ap (packed_boxes row_cmp (length commalist)) own ∙ packed_relabelled label row_cmp row_total row_separates row_cmp row_total row_separates (length commalist) (map (boxed listed) rows) have in
        ap (λ bs. rows_of (map (unboxed to commalist) bs)) form ∙ sym projected_rows.are
