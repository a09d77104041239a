-- The places of boxes under other labels.
use Rattle.std.proofs.Common.{◌≡◌, ◌↔◌, ℕ, ℤ, List, [], ◌∷◌, length, map, refl, sym, ap, ◌∙◌, subst, Ordering}
use Rattle.std.specs.Cmp.{IsTotalOrder}
use Rattle.base_core.proofs.SetLemmas.{Separates}
use Rattle.interval_core.specs.Members.{Span}
use Rattle.cell_packing.specs.Boxed.{Boxed, packed_boxes, unpacked_boxes, InBoxes}
use Rattle.cell_packing.specs.Packed.{Has}
use Rattle.cell_packing.proofs.AmongLemmas.{among_map}
use Rattle.cell_core.specs.Cells.{box_numbers, row_numbers}
use Rattle.cell_core.proofs.PackedGridPoints.{AllHave, packed_from_same}
use Rattle.cell_core.proofs.UnpackedLemmas.{in_unpacked_boxes}
use Rattle.cell_core.proofs.UnpackedGridPoints.{unpacked_grid_points}
use Rattle.u_row.specs.Labels.{relabelled}

module _ {P Q : Type 0} (f : P → Q) where
  -- the labels at a place are those made of the labels there
  pub places_relabelled : (r : List (Boxed P)) (l : Q) (place : List ℤ) → InBoxes (map (relabelled f) r) l place ↔ ((p : P) × (f p ≡ l) × InBoxes r p place)
  places_relabelled r l place = (
    λ h. let w = (among_map (relabelled f) (l, h.0) r).0 h.1 in
        ((w.0).0, ap (λ (x : Boxed Q). x.0) w.2, ((w.0).1, w.1, subst (λ (s : List Span). Has s place) (sym (ap (λ (x : Boxed Q). x.1) w.2)) h.2)),
    λ h. let e = h.1 in let b = h.2 in
        (b.0, (among_map (relabelled f) (l, b.0) r).1 ((h.0, b.0), b.1, λ t. (e t, b.0)), b.2),
  )

  pub relabelled_have : (k : ℕ) (r : List (Boxed P)) → AllHave k r → AllHave k (map (relabelled f) r)
  relabelled_have k r h x m =
      let w = (among_map (relabelled f) x r).0 m in
      sym (ap (λ (y : Boxed Q). length y.1) w.2) ∙ h w.0 w.1

module _ {P Q : Type 0} (f : P → Q) (order : P → P → Ordering) (o : IsTotalOrder order) (same : Separates order) (order' : Q → Q → Ordering) (o' : IsTotalOrder order') (same' : Separates order')
    (k : ℕ) (r : List (Boxed P)) (have : AllHave k r) where
  unpacked_have : AllHave k (unpacked_boxes order k r)
  unpacked_have x m = ((in_unpacked_boxes order o same k r have x).0 m).0

  -- boxes under other labels pack as their points do under these
  pub packed_relabelled : packed_boxes order' k (map (relabelled f) r) ≡ packed_boxes order' k (map (relabelled f) (unpacked_boxes order k r))
  packed_relabelled =
      packed_from_same order' o' same' k (map (relabelled f) r) (map (relabelled f) (unpacked_boxes order k r)) (relabelled_have f k r have) (relabelled_have f k (unpacked_boxes order k r) unpacked_have) (λ l place.
      let a = places_relabelled f r l place in
      let b = places_relabelled f (unpacked_boxes order k r) l place in (
        λ h. let w = a.0 h in b.1 (w.0, w.1, (unpacked_grid_points order o same k r have w.0 place).1 w.2),
        λ h. let w = b.0 h in a.1 (w.0, w.1, (unpacked_grid_points order o same k r have w.0 place).0 w.2),
      ))

pub numbers_relabelled : {L M P : Type 0} (f : L → M) (n : P → ℤ) (rows : List (L × List (P × P))) → map (row_numbers n) (map (relabelled f) rows) ≡ map (relabelled f) (map (row_numbers n) rows)
numbers_relabelled f n [] = refl
numbers_relabelled f n (x ∷ xs) = ap (λ ys. (f x.0, box_numbers n x.1) ∷ ys) (numbers_relabelled f n xs)
