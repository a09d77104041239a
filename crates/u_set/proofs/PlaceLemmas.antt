-- Rows of single points: what an operator sees under USING, and the places of what it gives.
use Rattle.std.proofs.Common.{◌≡◌, ◌↔◌, ℕ, ℤ, ◌≤ℤ◌, List, [], ◌∷◌, length, map, refl, sym, ◌∙◌, arith}
use Rattle.std.proofs.lemmas.Int.{ints}
use Rattle.std.proofs.lemmas.List.{length-map}
use Rattle.base_core.proofs.SetLemmas.{In, Ascends}
use Rattle.interval_core.specs.Members.{Span, at_point}
use Rattle.value_core.specs.Attributes.{value_at, span_of}
use Rattle.value_core.specs.Order.{row_total, row_separates}
use Rattle.value_core.specs.RowPacking.{unpacked}
use Rattle.value_core.specs.Values.{Row, Heading, row_cmp}
use Rattle.cell_packing.specs.Boxed.{Boxed, unpacked_boxes, InBoxes}
use Rattle.cell_packing.specs.Packed.{ArePoints, firsts, Has}
use Rattle.cell_packing.proofs.PackedBoxes.{among_in}
use Rattle.cell_core.proofs.UnpackedLemmas.{in_unpacked_boxes}
use Rattle.u_set.specs.Boxes.{AreIntervals, IsShaped, others, spans_at, boxed, unboxed}
use Rattle.u_set.proofs.BoxLemmas.{unboxed-boxed}
use Rattle.u_set.proofs.BridgeLemmas.{box_cmp, box_total, box_separates, boxes_have, unpacked_image}
use Rattle.u_set.proofs.ImageLemmas.{In-image}

-- a box of points that has a place is the box of this place
pub points_are : (y : List Span) (place : List ℤ) → ArePoints y → Has y place → y ≡ map at_point place
points_are [] [] a h = refl
points_are [] (p ∷ ps) a h = absurd h
points_are (i ∷ is) [] a h = absurd h
points_are (i ∷ is) (p ∷ ps) a h =
    let begin : i.0 ≡ p = first i.0 i.1 p a.0 h.0 h.1 in
    let end : i.1 ≡ p = sym a.0 ∙ begin in
    let rest : is ≡ map at_point ps = points_are is ps a.1 h.2 in
    λ t. (begin t, end t) ∷ rest t
  where
    first : (b e p : ℤ) → b ≡ e → b ≤ℤ p → p ≤ℤ e → b ≡ p
    first b e p q l m = omega (arith, ints)

module _ (heading : Heading) (commalist : List ℕ) (intervals : AreIntervals heading commalist) where
  module _ (rows : List Row) (up : Ascends row_cmp rows) (shaped : (x : Row) → In x rows → IsShaped heading commalist x) where
    -- a row is among the unpacked ones where it has single points and the rows' boxes have its label at this place
    pub opened_at : (x : Row) → IsShaped heading commalist x → In x (unpacked commalist rows) ↔ (ArePoints (spans_at commalist x) × InBoxes (map (boxed commalist) rows) (others commalist x) (firsts (spans_at commalist x)))
    opened_at x h =
        let boxes : List (Boxed Row) = unpacked_boxes row_cmp (length commalist) (map (boxed commalist) rows) in
        let i =
        In-image row_cmp row_total row_separates box_cmp box_total box_separates (IsShaped heading commalist) (boxed commalist) (unboxed heading commalist) (unboxed-boxed heading commalist intervals)
        (unpacked commalist rows) boxes (unpacked_image heading commalist intervals rows up shaped) x h in
        let a = among_in (boxed commalist x) boxes in
        let w = in_unpacked_boxes row_cmp row_total row_separates (length commalist) (map (boxed commalist) rows) (boxes_have heading commalist intervals rows) (boxed commalist x) in (
          λ m. (w.0 (a.1 (i.0 m))).1,
          λ g. i.1 (a.0 (w.1 (length-map commalist (λ j. span_of (value_at x j)), g))),
        )

    pub opened_shaped : (x : Row) → In x (unpacked commalist rows) → IsShaped heading commalist x
    opened_shaped x i = (unpacked_image heading commalist intervals rows up shaped).shaped x i
