-- The rows of a relation are packed and unpacked as their boxes are, one for one.
use Rattle.std.proofs.Common.{◌≡◌, ◌↔◌, ℕ, ℤ, List, length, map, refl, sym, ap, ◌∙◌, subst, Ordering}
use Rattle.std.proofs.lemmas.List.{length-map}
use Rattle.std.specs.Bool.{IsTrue}
use Rattle.std.specs.Cmp.{IsTotalOrder}
use Rattle.base_core.specs.Sets.{in_order}
use Rattle.base_core.proofs.SetLemmas.{In, Ascends, Separates, In-in_order, Ascends-in_order}
use Rattle.base_core.proofs.MemberLemmas.{In-map}
use Rattle.interval_core.specs.Members.{Span}
use Rattle.value_core.specs.Attributes.{value_at, span_of}
use Rattle.value_core.specs.Order.{row_total, row_separates}
use Rattle.value_core.specs.RowPacking.{attribute, packed, unpacked}
use Rattle.value_core.specs.Values.{Row, Heading, row_cmp, rows_of, fits_heading}
use Rattle.cell_packing.specs.Boxed.{Boxed, boxed_cmp, sides_from, packed_boxes, unpacked_boxes, InBoxes}
use Rattle.cell_packing.specs.Covering.{Among}
use Rattle.cell_packing.specs.Packed.{firsts, points_of, packs}
use Rattle.cell_packing.proofs.PackedBoxes.{among_in, packs-iff, packed_form_is}
use Rattle.cell_core.proofs.OrderLemmas.{boxed_total, boxed_separates}
use Rattle.cell_core.proofs.PackedGridPoints.{AllHave, packed_from_same}
use Rattle.cell_core.proofs.UnpackedGridPoints.{unpacked_grid_points}
use Rattle.cell_core.proofs.UnpackedLemmas.{unpack_ascends}
use Rattle.u_set.specs.Boxes.{AreIntervals, IsShaped, others, boxed, unboxed}
use Rattle.u_set.proofs.ImageLemmas.{IsImage, Ascends-pack, image-pack, image-unpack, list_back, same_length}
use Rattle.u_set.proofs.BoxLemmas.{all_alike, unboxed-boxed}

abbrev pub box_cmp : Boxed Row → Boxed Row → Ordering
box_cmp = boxed_cmp row_cmp

pub box_total : IsTotalOrder box_cmp
box_total = boxed_total row_total

pub box_separates : Separates box_cmp
box_separates = boxed_separates row_separates

-- ---- lists with the same members have the same places

pub same_places : {P : Type 0} (r s : List (Boxed P)) → ((x : Boxed P) → In x r ↔ In x s) → (l : P) (place : List ℤ) → InBoxes r l place ↔ InBoxes s l place
same_places r s h l place = (
  λ w. (w.0, (among_in (l, w.0) s).1 ((h (l, w.0)).0 ((among_in (l, w.0) r).0 w.1)), w.2),
  λ w. (w.0, (among_in (l, w.0) r).1 ((h (l, w.0)).1 ((among_in (l, w.0) s).0 w.1)), w.2),
)

-- ---- rows and their boxes

-- boxes that ascend and are the packed form of the labels that P has at the places
pub record IsFormOf (k : ℕ) (P : Row → List ℤ → Type 0) (form : List (Boxed Row)) : Type 0 where
  pub ascends : Ascends box_cmp form
  pub members : (x : Boxed Row) → Among x form ↔ ((length x.1 ≡ k) × packs k (points_of (P x.0)) x.1)

-- the rows are those of the boxes, as many as these, and their labels fit
pub record AreRowsOf (heading : Heading) (commalist : List ℕ) (rows : List Row) (boxes : List (Boxed Row)) : Type 0 where
  pub are : rows ≡ rows_of (map (unboxed heading commalist) boxes)
  pub many : length rows ≡ length boxes
  pub labels : (y : Boxed Row) → In y boxes → IsTrue (fits_heading (others commalist heading) y.0)

module _ (heading : Heading) (commalist : List ℕ) (intervals : AreIntervals heading commalist) where
  pub boxes_have : (rows : List Row) → AllHave (length commalist) (map (boxed commalist) rows)
  boxes_have rows x m =
      let w = (In-map (boxed commalist) x rows).0 ((among_in x (map (boxed commalist) rows)).0 m) in
      ap (λ (b : Boxed Row). length b.1) w.2 ∙ length-map commalist (λ i. span_of (value_at w.0 i))

  rows_of_image : (rows : List Row) (boxes : List (Boxed Row)) → Ascends row_cmp rows → Ascends box_cmp boxes → IsImage (IsShaped heading commalist) (boxed commalist) rows boxes → AreRowsOf heading commalist rows boxes
  rows_of_image rows boxes up up' image = record {
    are = list_back row_cmp row_total row_separates box_cmp box_total box_separates (IsShaped heading commalist) (boxed commalist) (unboxed heading commalist) (unboxed-boxed heading commalist intervals) rows boxes up image;
    many = same_length row_cmp row_total row_separates box_cmp box_total box_separates (IsShaped heading commalist) (boxed commalist) (unboxed heading commalist) (unboxed-boxed heading commalist intervals) rows boxes up up' image;
    labels = λ y i.
        let w = image.from y i in
        subst (λ (z : Boxed Row). IsTrue (fits_heading (others commalist heading) z.0)) (sym w.2) (image.shaped w.0 w.1).label;
  }

  module _ (rows : List Row) (up : Ascends row_cmp rows) (shaped : (x : Row) → In x rows → IsShaped heading commalist x) where
    image : IsImage (IsShaped heading commalist) (boxed commalist) rows (in_order box_cmp (map (boxed commalist) rows))
    image = record {
      shaped = shaped;
      to = λ x i. (In-in_order box_cmp box_total box_separates (boxed commalist x) (map (boxed commalist) rows)).1 ((In-map (boxed commalist) (boxed commalist x) rows).1 (x, i, refl));
      from = λ y i. (In-map (boxed commalist) y rows).0 ((In-in_order box_cmp box_total box_separates y (map (boxed commalist) rows)).0 i);
    }

    boxes_ascend : Ascends box_cmp (in_order box_cmp (map (boxed commalist) rows))
    boxes_ascend = Ascends-in_order box_cmp box_total box_separates (map (boxed commalist) rows)

    packed_image : IsImage (IsShaped heading commalist) (boxed commalist) (packed commalist rows) (packed_boxes row_cmp (length commalist) (map (boxed commalist) rows))
    packed_image =
        image-pack row_cmp row_total row_separates box_cmp box_total box_separates (IsShaped heading commalist) (boxed commalist) (unboxed heading commalist) (unboxed-boxed heading commalist intervals)
        (map attribute commalist) (sides_from 0 (length commalist)) (all_alike heading commalist intervals) rows (in_order box_cmp (map (boxed commalist) rows)) image

    pub unpacked_image : IsImage (IsShaped heading commalist) (boxed commalist) (unpacked commalist rows) (unpacked_boxes row_cmp (length commalist) (map (boxed commalist) rows))
    unpacked_image =
        image-unpack row_cmp row_total row_separates box_cmp box_total box_separates (IsShaped heading commalist) (boxed commalist) (unboxed heading commalist) (unboxed-boxed heading commalist intervals)
        (map attribute commalist) (sides_from 0 (length commalist)) (all_alike heading commalist intervals) rows (in_order box_cmp (map (boxed commalist) rows)) image

    -- the packed rows are those of the packed boxes
    pub packed_rows : AreRowsOf heading commalist (packed commalist rows) (packed_boxes row_cmp (length commalist) (map (boxed commalist) rows))
    packed_rows =
        rows_of_image (packed commalist rows) (packed_boxes row_cmp (length commalist) (map (boxed commalist) rows))
        (Ascends-pack row_cmp row_total row_separates (map attribute commalist) rows up)
        (Ascends-pack box_cmp box_total box_separates (sides_from 0 (length commalist)) (in_order box_cmp (map (boxed commalist) rows)) boxes_ascend)
        packed_image

    -- and the unpacked rows those of the unpacked boxes
    pub unpacked_rows : AreRowsOf heading commalist (unpacked commalist rows) (unpacked_boxes row_cmp (length commalist) (map (boxed commalist) rows))
    unpacked_rows =
        rows_of_image (unpacked commalist rows) (unpacked_boxes row_cmp (length commalist) (map (boxed commalist) rows))
        (unpack_ascends row_cmp row_total row_separates (map attribute commalist) rows up)
        (unpack_ascends box_cmp box_total box_separates (sides_from 0 (length commalist)) (in_order box_cmp (map (boxed commalist) rows)) boxes_ascend)
        unpacked_image

    pub unpacked_ascends : Ascends row_cmp (unpacked commalist rows)
    unpacked_ascends = unpack_ascends row_cmp row_total row_separates (map attribute commalist) rows up

    -- ---- what an operator sees under USING, and what it gives

    -- the boxes of the unpacked rows have the places of the boxes of the rows
    pub opened_places : (l : Row) (place : List ℤ) → InBoxes (map (boxed commalist) (unpacked commalist rows)) l place ↔ InBoxes (map (boxed commalist) rows) l place
    opened_places l place =
        let same = same_places (map (boxed commalist) (unpacked commalist rows)) (unpacked_boxes row_cmp (length commalist) (map (boxed commalist) rows)) (λ x. (
          λ i. let w = (In-map (boxed commalist) x (unpacked commalist rows)).0 i in subst (λ z. In z (unpacked_boxes row_cmp (length commalist) (map (boxed commalist) rows))) (sym w.2) (unpacked_image.to w.0 w.1),
          λ i. (In-map (boxed commalist) x (unpacked commalist rows)).1 (unpacked_image.from x i),
        )) l place in
        let all = unpacked_grid_points row_cmp row_total row_separates (length commalist) (map (boxed commalist) rows) (boxes_have rows) l place in
        (λ w. all.0 (same.0 w), λ w. same.1 (all.1 w))

    -- boxes with the places of the rows' boxes pack to the boxes of the packed rows
    pub closed_by_boxes : (boxes : List (Boxed Row)) → AllHave (length commalist) boxes → ((l : Row) (place : List ℤ) → InBoxes (map (boxed commalist) rows) l place ↔ InBoxes boxes l place)
        → AreRowsOf heading commalist (packed commalist rows) (packed_boxes row_cmp (length commalist) boxes)
    closed_by_boxes boxes have h =
        subst (AreRowsOf heading commalist (packed commalist rows)) (packed_from_same row_cmp row_total row_separates (length commalist) (map (boxed commalist) rows) boxes (boxes_have rows) have h) packed_rows

    -- so does the packed form of the labels that the rows' boxes have at their places
    pub closed_by_form : (P : Row → List ℤ → Type 0) (form : List (Boxed Row)) → IsFormOf (length commalist) P form → ((l : Row) (place : List ℤ) → InBoxes (map (boxed commalist) rows) l place ↔ P l place)
        → AreRowsOf heading commalist (packed commalist rows) form
    closed_by_form P form is h =
        let Q : Row → List ℤ → Type 0 = InBoxes (map (boxed commalist) rows) in
        let points : (l : Row) (z : List Span) → points_of (P l) z ↔ points_of (Q l) z = λ l z. (
          λ w. (w.0, (h l (firsts z)).1 w.1),
          λ w. (w.0, (h l (firsts z)).0 w.1),
        ) in
        let e : form ≡ packed_boxes row_cmp (length commalist) (map (boxed commalist) rows) =
        packed_form_is box_cmp box_total box_separates (length commalist) (map (boxed commalist) rows) form (boxes_have rows) is.ascends (λ x.
        let w = is.members x in (
          λ m. let v = w.0 m in (v.0, packs-iff (length commalist) (length commalist) (points_of (P x.0)) (points_of (Q x.0)) (λ z l. points x.0 z) x.1 v.0 v.1),
          λ v. w.1 (v.0, packs-iff (length commalist) (length commalist) (points_of (Q x.0)) (points_of (P x.0)) (λ z l. ((points x.0 z).1, (points x.0 z).0)) x.1 v.0 v.1),
        )) in
        subst (AreRowsOf heading commalist (packed commalist rows)) (sym e) packed_rows
