-- The laws of packing on any number of sides: to unpack the packed form is to unpack the boxes, and boxes have one packed form
-- exactly where they have one unpacked form.
use Rattle.std.proofs.Common.{◌≡◌, ℕ, ℤ, List, ◌↔◌, Ordering}
use Rattle.std.specs.Cmp.{IsTotalOrder}
use Rattle.base_core.proofs.SetLemmas.{Separates}
use Rattle.base_core.proofs.SetOperatorLemmas.{are_same-≡}
use Rattle.cell_packing.specs.Boxed.{Boxed, boxed_cmp, packed_boxes, unpacked_boxes, InBoxes}
use Rattle.cell_packing.proofs.PackedBoxes.{in_packed_form}
use Rattle.cell_core.proofs.OrderLemmas.{boxed_total, boxed_separates}
use Rattle.cell_core.proofs.PackedGridPoints.{AllHave, in_packed_box, from_packed_box, packed_from_same, same_from_packed}
use Rattle.cell_core.proofs.UnpackedLemmas.{same_iff, unpacked_ascends}

module _ {P : Type 0} (order : P → P → Ordering) (o : IsTotalOrder order) (same : Separates order) (k : ℕ) where
  -- boxes unpack alike exactly where they have the same places
  pub unpacked_iff : (left right : List (Boxed P)) → AllHave k left → AllHave k right → (unpacked_boxes order k left ≡ unpacked_boxes order k right) ↔ ((l : P) (grid_point : List ℤ) → InBoxes left l grid_point ↔ InBoxes right l grid_point)
  unpacked_iff left right hl hr =
      let e = are_same-≡ (boxed_cmp order) (boxed_total o) (boxed_separates same) (unpacked_boxes order k left) (unpacked_boxes order k right) (unpacked_ascends order o same k left) (unpacked_ascends order o same k right) in
      let s = same_iff order o same k left right hl hr in
      (λ q. s.0 (e.1 q), λ h. e.0 (s.1 h))

  pub packed_iff : (left right : List (Boxed P)) → AllHave k left → AllHave k right → (packed_boxes order k left ≡ packed_boxes order k right) ↔ (unpacked_boxes order k left ≡ unpacked_boxes order k right)
  packed_iff left right hl hr =
      let u = unpacked_iff left right hl hr in
      (λ q. u.1 (same_from_packed order o same k left right hl hr q), λ q. packed_from_same order o same k left right hl hr (u.0 q))

  pub unpack_of_packed : (r : List (Boxed P)) → AllHave k r → unpacked_boxes order k (packed_boxes order k r) ≡ unpacked_boxes order k r
  unpack_of_packed r h =
      let have : AllHave k (packed_boxes order k r) = λ x m. ((in_packed_form (boxed_cmp order) (boxed_total o) (boxed_separates same) k r h x).0 m).0 in
      (unpacked_iff (packed_boxes order k r) r have h).1 (λ l grid_point. (from_packed_box order o same k r h l grid_point, in_packed_box order o same k r h l grid_point))
