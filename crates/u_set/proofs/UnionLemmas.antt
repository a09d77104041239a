-- The places of the boxes of two lists, one behind the other or unpacked and united.
use Rattle.std.proofs.Common.{◌≡◌, ◌↔◌, ◌⊎◌, inl, inr, ℕ, ℤ, List, ◌++◌, length, map, sym, subst, Ordering}
use Rattle.std.specs.Cmp.{IsTotalOrder}
use Rattle.base_core.specs.Sets.{union_of}
use Rattle.base_core.proofs.SetLemmas.{In, Ascends, Separates}
use Rattle.base_core.proofs.MemberLemmas.{In-map}
use Rattle.base_core.proofs.SetOperatorLemmas.{In-union_of, Ascends-union_of}
use Rattle.value_core.specs.Order.{row_total, row_separates}
use Rattle.value_core.specs.RowPacking.{packed, unpacked}
use Rattle.value_core.specs.Values.{Row, Heading, row_cmp}
use Rattle.relation_core.specs.Operators.{united}
use Rattle.cell_packing.specs.Boxed.{Boxed, boxed_cmp, packed_boxes, unpacked_boxes, InBoxes}
use Rattle.cell_packing.specs.Covering.{Among}
use Rattle.cell_packing.proofs.AmongLemmas.{among_append}
use Rattle.cell_packing.proofs.PackedBoxes.{among_in}
use Rattle.cell_core.proofs.OrderLemmas.{boxed_total, boxed_separates}
use Rattle.cell_core.proofs.PackedGridPoints.{AllHave, packed_from_same, both_have}
use Rattle.cell_core.proofs.UnpackedLemmas.{in_unpacked_boxes}
use Rattle.cell_core.proofs.UnpackedGridPoints.{unpacked_grid_points}
use Rattle.u_set.specs.Boxes.{AreIntervals, IsShaped, boxed}
use Rattle.u_set.proofs.BridgeLemmas.{box_cmp, box_total, box_separates, same_places, AreRowsOf, boxes_have, unpacked_image, closed_by_boxes}

module _ {P : Type 0} (order : P → P → Ordering) (o : IsTotalOrder order) (same : Separates order) (k : ℕ) where
  abbrev B : Boxed P → Boxed P → Ordering
  B = boxed_cmp order

  pub places_append : (left right : List (Boxed P)) (l : P) (place : List ℤ) → InBoxes (left ++ right) l place ↔ (InBoxes left l place ⊎ InBoxes right l place)
  places_append left right l place = (
    λ h. elim ((among_append (l, h.0) left right).0 h.1) [ inl a ↦ inl (h.0, a, h.2) | inr a ↦ inr (h.0, a, h.2) ],
    λ h. elim h [ inl a ↦ (a.0, (among_append (l, a.0) left right).1 (inl a.1), a.2) | inr a ↦ (a.0, (among_append (l, a.0) left right).1 (inr a.1), a.2) ],
  )

  Among-union : (left right : List (Boxed P)) (x : Boxed P) → Among x (union_of B left right) ↔ (Among x left ⊎ Among x right)
  Among-union left right x =
      let w = In-union_of B (boxed_total o) (boxed_separates same) x left right in
      let u = among_in x (union_of B left right) in
      let a = among_in x left in
      let b = among_in x right in (
        λ m. elim (w.0 (u.0 m)) [ inl i ↦ inl (a.1 i) | inr i ↦ inr (b.1 i) ],
        λ m. u.1 (w.1 (elim m [ inl i ↦ inl (a.0 i) | inr i ↦ inr (b.0 i) ])),
      )

  pub places_union : (left right : List (Boxed P)) (l : P) (place : List ℤ) → InBoxes (union_of B left right) l place ↔ (InBoxes left l place ⊎ InBoxes right l place)
  places_union left right l place = (
    λ h. elim ((Among-union left right (l, h.0)).0 h.1) [ inl a ↦ inl (h.0, a, h.2) | inr a ↦ inr (h.0, a, h.2) ],
    λ h. elim h [ inl a ↦ (a.0, (Among-union left right (l, a.0)).1 (inl a.1), a.2) | inr a ↦ (a.0, (Among-union left right (l, a.0)).1 (inr a.1), a.2) ],
  )

  module _ (left right : List (Boxed P)) (hl : AllHave k left) (hr : AllHave k right) where
    pub union_have : AllHave k (union_of B (unpacked_boxes order k left) (unpacked_boxes order k right))
    union_have x m = elim ((Among-union (unpacked_boxes order k left) (unpacked_boxes order k right) x).0 m) [
      | inl a ↦ ((in_unpacked_boxes order o same k left hl x).0 a).0
      | inr a ↦ ((in_unpacked_boxes order o same k right hr x).0 a).0
    ]

    -- the boxes of both pack as the union of their points does
    pub packed_union : packed_boxes order k (left ++ right) ≡ packed_boxes order k (union_of B (unpacked_boxes order k left) (unpacked_boxes order k right))
    packed_union =
        packed_from_same order o same k (left ++ right) (union_of B (unpacked_boxes order k left) (unpacked_boxes order k right)) (both_have k left right hl hr) union_have (λ l place.
        let a = places_append left right l place in
        let u = places_union (unpacked_boxes order k left) (unpacked_boxes order k right) l place in
        let pl = unpacked_grid_points order o same k left hl l place in
        let pr = unpacked_grid_points order o same k right hr l place in (
          λ h. u.1 (elim (a.0 h) [ inl g ↦ inl (pl.1 g) | inr g ↦ inr (pr.1 g) ]),
          λ h. a.1 (elim (u.0 h) [ inl g ↦ inl (pl.0 g) | inr g ↦ inr (pr.0 g) ]),
        ))

-- ---- rows

module _ (heading : Heading) (commalist : List ℕ) (intervals : AreIntervals heading commalist) (r s : List Row) (up : Ascends row_cmp r) (up' : Ascends row_cmp s)
    (shaped : (x : Row) → In x r → IsShaped heading commalist x) (shaped' : (x : Row) → In x s → IsShaped heading commalist x) where
  abbrev left_boxes : List (Boxed Row)
  left_boxes = unpacked_boxes row_cmp (length commalist) (map (boxed commalist) r)

  abbrev right_boxes : List (Boxed Row)
  right_boxes = unpacked_boxes row_cmp (length commalist) (map (boxed commalist) s)

  united_members : (x : Boxed Row) → In x (map (boxed commalist) (united (unpacked commalist r) (unpacked commalist s))) ↔ In x (union_of box_cmp left_boxes right_boxes)
  united_members x =
      let left = unpacked_image heading commalist intervals r up shaped in
      let right = unpacked_image heading commalist intervals s up' shaped' in
      let all = In-map (boxed commalist) x (united (unpacked commalist r) (unpacked commalist s)) in
      let boxes = In-union_of box_cmp box_total box_separates x left_boxes right_boxes in (
        λ i. let w = all.0 i in
            elim ((In-union_of row_cmp row_total row_separates w.0 (unpacked commalist r) (unpacked commalist s)).0 w.1) [
              | inl j ↦ boxes.1 (inl (subst (λ z. In z left_boxes) (sym w.2) (left.to w.0 j)))
              | inr j ↦ boxes.1 (inr (subst (λ z. In z right_boxes) (sym w.2) (right.to w.0 j)))
            ],
        λ i. elim (boxes.0 i) [
          | inl j ↦ let w = left.from x j in all.1 (w.0, (In-union_of row_cmp row_total row_separates w.0 (unpacked commalist r) (unpacked commalist s)).1 (inl w.1), w.2)
          | inr j ↦ let w = right.from x j in all.1 (w.0, (In-union_of row_cmp row_total row_separates w.0 (unpacked commalist r) (unpacked commalist s)).1 (inr w.1), w.2)
        ],
      )

  united_shaped : (x : Row) → In x (united (unpacked commalist r) (unpacked commalist s)) → IsShaped heading commalist x
  united_shaped x i = elim ((In-union_of row_cmp row_total row_separates x (unpacked commalist r) (unpacked commalist s)).0 i) [
    | inl j ↦ (unpacked_image heading commalist intervals r up shaped).shaped x j
    | inr j ↦ (unpacked_image heading commalist intervals s up' shaped').shaped x j
  ]

  -- the union of the unpacked rows, packed, is that of the boxes
  pub united_rows : AreRowsOf heading commalist (packed commalist (united (unpacked commalist r) (unpacked commalist s))) (packed_boxes row_cmp (length commalist) (union_of box_cmp left_boxes right_boxes))
  united_rows =
      closed_by_boxes heading commalist intervals (united (unpacked commalist r) (unpacked commalist s)) (Ascends-union_of row_cmp row_total row_separates (unpacked commalist r) (unpacked commalist s)) united_shaped
      (union_of box_cmp left_boxes right_boxes) (union_have row_cmp row_total row_separates (length commalist) (map (boxed commalist) r) (map (boxed commalist) s) (boxes_have heading commalist intervals r) (boxes_have heading commalist intervals s))
      (same_places (map (boxed commalist) (united (unpacked commalist r) (unpacked commalist s))) (union_of box_cmp left_boxes right_boxes) united_members)
