-- The places of the points that two lists of boxes have in common, and of those of the first alone; and the rows of both.
use Rattle.std.proofs.Common.{◌≡◌, ◌↔◌, ◌∙◌, ℕ, ℤ, List, length, map, sym, subst, Ordering}
use Rattle.std.specs.Cmp.{IsTotalOrder}
use Rattle.base_core.specs.Sets.{common_of, difference_of}
use Rattle.base_core.proofs.SetLemmas.{In, Ascends, Separates}
use Rattle.base_core.proofs.MemberLemmas.{In-map}
use Rattle.base_core.proofs.SetOperatorLemmas.{In-common_of, In-difference_of, Ascends-common_of, Ascends-difference_of}
use Rattle.interval_core.specs.Members.{Span, at_point}
use Rattle.value_core.specs.Order.{row_total, row_separates}
use Rattle.value_core.specs.RowPacking.{packed, unpacked}
use Rattle.value_core.specs.Values.{Row, Heading, row_cmp}
use Rattle.relation_core.specs.Operators.{intersected, subtracted}
use Rattle.cell_packing.specs.Boxed.{Boxed, boxed_cmp, packed_boxes, unpacked_boxes, InBoxes}
use Rattle.cell_packing.specs.Packed.{Has}
use Rattle.cell_packing.proofs.PackedBoxes.{among_in}
use Rattle.cell_core.proofs.PackedGridPoints.{AllHave, grid_point_length}
use Rattle.cell_core.proofs.UnpackedLemmas.{firsts_at, are_points, length_at, in_unpacked_boxes}
use Rattle.cell_core.proofs.UnpackedGridPoints.{has_grid_point, unpacked_grid_points}
use Rattle.u_set.specs.Boxes.{AreIntervals, IsShaped, boxed, unboxed}
use Rattle.u_set.proofs.BoxLemmas.{unboxed-boxed}
use Rattle.u_set.proofs.BridgeLemmas.{box_cmp, box_total, box_separates, same_places, AreRowsOf, boxes_have, unpacked_image, unpacked_ascends, closed_by_boxes}
use Rattle.u_set.proofs.ImageLemmas.{In-image}
use Rattle.u_set.proofs.PlaceLemmas.{points_are}
use Rattle.cell_core.proofs.OrderLemmas.{boxed_total, boxed_separates}

module _ {P : Type 0} (order : P → P → Ordering) (o : IsTotalOrder order) (same : Separates order) (k : ℕ) where
  abbrev B : Boxed P → Boxed P → Ordering
  B = boxed_cmp order

  -- where boxes have a label, the box of the point is one of the unpacked ones
  at_points : (r : List (Boxed P)) → AllHave k r → (l : P) (p : List ℤ) → InBoxes r l p → In (l, map at_point p) (unpacked_boxes order k r)
  at_points r h l p g =
      (among_in (l, map at_point p) (unpacked_boxes order k r)).0
      ((in_unpacked_boxes order o same k r h (l, map at_point p)).1 (length_at p ∙ grid_point_length k r h l p g, (are_points p, subst (InBoxes r l) (sym (firsts_at p)) g)))

  -- and no other has a box of the point
  from_points : (r : List (Boxed P)) → AllHave k r → (l : P) (p : List ℤ) (y : List Span) → In (l, y) (unpacked_boxes order k r) → Has y p → InBoxes r l p
  from_points r h l p y i b = (unpacked_grid_points order o same k r h l p).0 (y, (among_in (l, y) (unpacked_boxes order k r)).1 i, b)

  is_point : (r : List (Boxed P)) → AllHave k r → (l : P) (p : List ℤ) (y : List Span) → In (l, y) (unpacked_boxes order k r) → Has y p → y ≡ map at_point p
  is_point r h l p y i b = points_are y p ((in_unpacked_boxes order o same k r h (l, y)).0 ((among_in (l, y) (unpacked_boxes order k r)).1 i)).1.0 b

  module _ (left right : List (Boxed P)) (hl : AllHave k left) (hr : AllHave k right) where
    abbrev L : List (Boxed P)
    L = unpacked_boxes order k left

    abbrev R : List (Boxed P)
    R = unpacked_boxes order k right

    pub places_common : (l : P) (p : List ℤ) → InBoxes (common_of B L R) l p ↔ InBoxes left l p × InBoxes right l p
    places_common l p = (
      λ w.
          let i = (In-common_of B (boxed_total o) (boxed_separates same) (l, w.0) L R).0 ((among_in (l, w.0) (common_of B L R)).0 w.1) in
          (from_points left hl l p w.0 i.0 w.2, from_points right hr l p w.0 i.1 w.2),
      λ h. (
        map at_point p,
        (among_in (l, map at_point p) (common_of B L R)).1 ((In-common_of B (boxed_total o) (boxed_separates same) (l, map at_point p) L R).1 (at_points left hl l p h.0, at_points right hr l p h.1)),
        has_grid_point p,
      ),
    )

    pub places_difference : (l : P) (p : List ℤ) → InBoxes (difference_of B L R) l p ↔ InBoxes left l p × (InBoxes right l p → ⊥)
    places_difference l p = (
      λ w.
          let i = (In-difference_of B (boxed_total o) (boxed_separates same) (l, w.0) L R).0 ((among_in (l, w.0) (difference_of B L R)).0 w.1) in
          let e = is_point left hl l p w.0 i.0 w.2 in (
            from_points left hl l p w.0 i.0 w.2,
            λ g. i.1 (subst (λ z. In (l, z) R) (sym e) (at_points right hr l p g)),
          ),
      λ h. (
        map at_point p,
        (among_in (l, map at_point p) (difference_of B L R)).1 ((In-difference_of B (boxed_total o) (boxed_separates same) (l, map at_point p) L R).1 (at_points left hl l p h.0, λ i. h.1 (from_points right hr l p (map at_point p) i (has_grid_point p)))),
        has_grid_point p,
      ),
    )

    left_have : (x : Boxed P) → In x L → length x.1 ≡ k
    left_have x i = ((in_unpacked_boxes order o same k left hl x).0 ((among_in x L).1 i)).0

    pub common_have : AllHave k (common_of B L R)
    common_have x m = left_have x ((In-common_of B (boxed_total o) (boxed_separates same) x L R).0 ((among_in x (common_of B L R)).0 m)).0

    pub difference_have : AllHave k (difference_of B L R)
    difference_have x m = left_have x ((In-difference_of B (boxed_total o) (boxed_separates same) x L R).0 ((among_in x (difference_of B L R)).0 m)).0

-- ---- rows

module _ (heading : Heading) (commalist : List ℕ) (intervals : AreIntervals heading commalist) (r s : List Row) (up : Ascends row_cmp r) (up' : Ascends row_cmp s)
    (shaped : (x : Row) → In x r → IsShaped heading commalist x) (shaped' : (x : Row) → In x s → IsShaped heading commalist x) where
  abbrev left_boxes : List (Boxed Row)
  left_boxes = unpacked_boxes row_cmp (length commalist) (map (boxed commalist) r)

  abbrev right_boxes : List (Boxed Row)
  right_boxes = unpacked_boxes row_cmp (length commalist) (map (boxed commalist) s)

  -- an unpacked left row is one of the right rows where its box is one of the right boxes
  in_right : (x : Row) → In x (unpacked commalist r) → In x (unpacked commalist s) ↔ In (boxed commalist x) right_boxes
  in_right x i =
      In-image row_cmp row_total row_separates box_cmp box_total box_separates (IsShaped heading commalist) (boxed commalist) (unboxed heading commalist) (unboxed-boxed heading commalist intervals)
      (unpacked commalist s) right_boxes (unpacked_image heading commalist intervals s up' shaped') x ((unpacked_image heading commalist intervals r up shaped).shaped x i)

  common_members : (x : Boxed Row) → In x (map (boxed commalist) (intersected (unpacked commalist r) (unpacked commalist s))) ↔ In x (common_of box_cmp left_boxes right_boxes)
  common_members x =
      let left = unpacked_image heading commalist intervals r up shaped in
      let all = In-map (boxed commalist) x (intersected (unpacked commalist r) (unpacked commalist s)) in
      let boxes = In-common_of box_cmp box_total box_separates x left_boxes right_boxes in (
        λ i.
            let w = all.0 i in
            let both = (In-common_of row_cmp row_total row_separates w.0 (unpacked commalist r) (unpacked commalist s)).0 w.1 in
            boxes.1 (subst (λ z. In z left_boxes) (sym w.2) (left.to w.0 both.0), subst (λ z. In z right_boxes) (sym w.2) ((in_right w.0 both.0).0 both.1)),
        λ i.
            let b = boxes.0 i in
            let w = left.from x b.0 in
            all.1 (w.0, (In-common_of row_cmp row_total row_separates w.0 (unpacked commalist r) (unpacked commalist s)).1 (w.1, (in_right w.0 w.1).1 (subst (λ z. In z right_boxes) w.2 b.1)), w.2),
      )

  difference_members : (x : Boxed Row) → In x (map (boxed commalist) (subtracted (unpacked commalist r) (unpacked commalist s))) ↔ In x (difference_of box_cmp left_boxes right_boxes)
  difference_members x =
      let left = unpacked_image heading commalist intervals r up shaped in
      let all = In-map (boxed commalist) x (subtracted (unpacked commalist r) (unpacked commalist s)) in
      let boxes = In-difference_of box_cmp box_total box_separates x left_boxes right_boxes in (
        λ i.
            let w = all.0 i in
            let both = (In-difference_of row_cmp row_total row_separates w.0 (unpacked commalist r) (unpacked commalist s)).0 w.1 in
            boxes.1 (subst (λ z. In z left_boxes) (sym w.2) (left.to w.0 both.0), λ j. both.1 ((in_right w.0 both.0).1 (subst (λ z. In z right_boxes) w.2 j))),
        λ i.
            let b = boxes.0 i in
            let w = left.from x b.0 in
            all.1 (w.0, (In-difference_of row_cmp row_total row_separates w.0 (unpacked commalist r) (unpacked commalist s)).1 (w.1, λ j. b.1 (subst (λ z. In z right_boxes) (sym w.2) ((in_right w.0 w.1).0 j))), w.2),
      )

  -- what both unpacked relations have in common, packed, is that of the boxes
  pub intersected_rows : AreRowsOf heading commalist (packed commalist (intersected (unpacked commalist r) (unpacked commalist s))) (packed_boxes row_cmp (length commalist) (common_of box_cmp left_boxes right_boxes))
  intersected_rows =
      closed_by_boxes heading commalist intervals (intersected (unpacked commalist r) (unpacked commalist s))
      (Ascends-common_of row_cmp row_total row_separates (unpacked commalist r) (unpacked commalist s) (unpacked_ascends heading commalist intervals r up shaped))
      (λ x i. (unpacked_image heading commalist intervals r up shaped).shaped x ((In-common_of row_cmp row_total row_separates x (unpacked commalist r) (unpacked commalist s)).0 i).0)
      (common_of box_cmp left_boxes right_boxes) (common_have row_cmp row_total row_separates (length commalist) (map (boxed commalist) r) (map (boxed commalist) s) (boxes_have heading commalist intervals r) (boxes_have heading commalist intervals s))
      (same_places (map (boxed commalist) (intersected (unpacked commalist r) (unpacked commalist s))) (common_of box_cmp left_boxes right_boxes) common_members)

  -- and so is what the first has alone
  pub subtracted_rows : AreRowsOf heading commalist (packed commalist (subtracted (unpacked commalist r) (unpacked commalist s))) (packed_boxes row_cmp (length commalist) (difference_of box_cmp left_boxes right_boxes))
  subtracted_rows =
      closed_by_boxes heading commalist intervals (subtracted (unpacked commalist r) (unpacked commalist s))
      (Ascends-difference_of row_cmp row_total row_separates (unpacked commalist r) (unpacked commalist s) (unpacked_ascends heading commalist intervals r up shaped))
      (λ x i. (unpacked_image heading commalist intervals r up shaped).shaped x ((In-difference_of row_cmp row_total row_separates x (unpacked commalist r) (unpacked commalist s)).0 i).0)
      (difference_of box_cmp left_boxes right_boxes) (difference_have row_cmp row_total row_separates (length commalist) (map (boxed commalist) r) (map (boxed commalist) s) (boxes_have heading commalist intervals r) (boxes_have heading commalist intervals s))
      (same_places (map (boxed commalist) (subtracted (unpacked commalist r) (unpacked commalist s))) (difference_of box_cmp left_boxes right_boxes) difference_members)
