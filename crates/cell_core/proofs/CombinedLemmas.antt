-- What a combination of boxes gives is the packed form of any boxes that have the same labels at the same places.
use Rattle.std.proofs.Common.{◌≡◌, ◌↔◌, ℕ, ℤ, List, length, Ordering}
use Rattle.std.specs.Cmp.{IsTotalOrder}
use Rattle.base_core.proofs.SetLemmas.{Separates, Ascends-from_sorted}
use Rattle.interval_core.specs.Members.{Span}
use Rattle.cell_packing.specs.Boxed.{boxed_cmp, packed_boxes, InBoxes}
use Rattle.cell_packing.specs.Covering.{Among, CellFunction, InCells}
use Rattle.cell_packing.specs.Packed.{firsts, points_of, packs}
use Rattle.cell_packing.proofs.PackedBoxes.{packs-iff, packed_form_is}
use Rattle.cell_core.specs.Cells.{IsPackedForm}
use Rattle.cell_core.proofs.OrderLemmas.{boxed_total, boxed_separates}

pub combined_packed : {L F : Type 0} (order : L → L → Ordering) → IsTotalOrder order → Separates order → (k : ℕ) (f : CellFunction L F) (left right : List (List Span)) (form : List (L × List Span))
    → IsPackedForm order k f left right form → (r : List (L × List Span)) → ((x : L × List Span) → Among x r → length x.1 ≡ k)
    → ((l : L) (grid_point : List ℤ) → InBoxes r l grid_point ↔ InCells f left right l grid_point) → form ≡ packed_boxes order k r
combined_packed {L} order o same k f left right form is r have h =
    let points : (l : L) (z : List Span) → points_of (InCells f left right l) z ↔ points_of (InBoxes r l) z = λ l z. (
      λ w. (w.0, (h l (firsts z)).1 w.1),
      λ w. (w.0, (h l (firsts z)).0 w.1),
    ) in
    packed_form_is (boxed_cmp order) (boxed_total o) (boxed_separates same) k r form have (Ascends-from_sorted (boxed_cmp order) form is.sorted) (λ x.
    let w = is.members x in (
      λ m. let v = w.0 m in (v.0, packs-iff k k (points_of (InCells f left right x.0)) (points_of (InBoxes r x.0)) (λ z l. points x.0 z) x.1 v.0 v.1),
      λ v. w.1 (v.0, packs-iff k k (points_of (InBoxes r x.0)) (points_of (InCells f left right x.0)) (λ z l. ((points x.0 z).1, (points x.0 z).0)) x.1 v.0 v.1),
    ))
