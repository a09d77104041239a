-- Intersection and difference over the cells of a numbering: what the way back asks of them, and what they are by their numbers.
use Rattle.std.proofs.Common.{◌≡◌, ℕ, ◌<◌, ◌≤◌, ℤ, List, map, length, get_or, ◌↔◌, Ordering}
use Rattle.std.specs.Cmp.{IsTotalOrder}
use Rattle.std.specs.List.{All}
use Rattle.std.specs.List.Sorted.{IsStrictlySortedBy}
use Rattle.std.proofs.lemmas.List.Elements.{recursion_from_All}
use Rattle.base_core.specs.Sets.{common_of, difference_of}
use Rattle.base_core.proofs.SetLemmas.{Separates}
use Rattle.cell_packing.specs.Boxed.{Boxed, boxed_cmp, packed_boxes, unpacked_boxes, InBoxes}
use Rattle.cell_packing.specs.Covering.{Among}
use Rattle.cell_packing.specs.Packed.{no_cells}
use Rattle.cell_sweep.specs.Rows.{key_cmp}
use Rattle.cell_sweep.specs.PackedRows.{HasRow}
use Rattle.cell_boxes.specs.Answers.{IsPackedCover, IsBoxOf, InBoth, InFirst}
use Rattle.cell_core.specs.Boxes.{IsBox}
use Rattle.cell_core.specs.Cells.{grids_of, grid_row, row_numbers}
use Rattle.cell_core.specs.Numbering.{IsGrid}
use Rattle.cell_core.proofs.BackLemmas.{box_length}
use Rattle.cell_core.proofs.KeyLemmas.{rows_have}
use Rattle.cell_core.proofs.PackedGridPoints.{AllHave}
use Rattle.u_set.proofs.KernelLemmas.{AreOn, grids, left_on, right_on, left_grid_points, right_grid_points, fewer_on, fewer_grid_points, within, form}
use Rattle.u_set.specs.FewerCells.{AreFewerCells}
use Rattle.u_set.proofs.CommonLemmas.{places_common, places_difference, common_have, difference_have}

-- boxes of points have a number for each side
pub numbers_have : {T P L : Type 0} (n : P → ℤ) (has : T → P → Type 0) (ts : List T) (rows : List (L × List (P × P))) → All (λ r. IsBox has ts r.1) rows → AllHave (length ts) (map (row_numbers n) rows)
numbers_have {P = P} {L = L} n has ts rows h = rows_have n (length ts) rows (recursion_from_All (λ (r : L × List (P × P)). length r.1 ≡ length ts) rows (λ j d l. box_length has ts _ (h j d l)))

module _ {T P L : Type 0} (n : P → ℤ) (has : T → P → Type 0) (high : T → ℤ) (order : L → L → Ordering) (point : (t : T) → P) (ts : List T) (left right : List (L × List (P × P)))
    (ss : List (List P × List P × List (ℕ × ℕ))) (ls rs : List (L × List (ℕ × ℕ))) (cells : AreFewerCells n has high order ts left right ss ls rs) where
  abbrev S : Type 0
  S = List P × List P × List (ℕ × ℕ)

  abbrev k : ℕ
  k = length ts

  abbrev ns : List (List ℤ × ℤ)
  ns = grids_of n high ts ss

  pub grids_numbered : (j : ℕ) (t : T) (e : S) → j < k → IsGrid n (has (get_or ts j t)) (high (get_or ts j t)) (get_or ss j e)
  grids_numbered j t e h = grids n has high point ts left right ss cells.left_cells cells.right_cells cells.over j t e h

  -- ---- the rows

  on_left : AreOn k ss cells.left_cells
  on_left = left_on n has high point ts left right ss cells.left_cells cells.right_cells cells.over

  on_right : AreOn k ss cells.right_cells
  on_right = right_on n has high point ts left right ss cells.left_cells cells.right_cells cells.over

  lefts_on : AreOn k ss ls
  lefts_on = fewer_on n has high point ts left right ss cells.left_cells cells.right_cells cells.over order cells.left_cells ls on_left cells.lefts

  rights_on : AreOn k ss rs
  rights_on = fewer_on n has high point ts left right ss cells.left_cells cells.right_cells cells.over order cells.right_cells rs on_right cells.rights

  -- at points they have the labels of the boxes
  module _ (o : IsTotalOrder order) (same : Separates order) (l : L) (p : List ℤ) where
    lefts_at : InBoxes (map (row_numbers n) left) l p ↔ InBoxes (map (grid_row ns) ls) l p
    lefts_at =
        let a = left_grid_points n has high point ts left right ss cells.left_cells cells.right_cells cells.over l p in
        let b = fewer_grid_points n has high point ts left right ss cells.left_cells cells.right_cells cells.over order cells.left_cells ls on_left cells.lefts o same l p in
        (λ h. b.1 (a.1 h), λ h. a.0 (b.0 h))

    rights_at : InBoxes (map (row_numbers n) right) l p ↔ InBoxes (map (grid_row ns) rs) l p
    rights_at =
        let a = right_grid_points n has high point ts left right ss cells.left_cells cells.right_cells cells.over l p in
        let b = fewer_grid_points n has high point ts left right ss cells.left_cells cells.right_cells cells.over order cells.right_cells rs on_right cells.rights o same l p in
        (λ h. b.1 (a.1 h), λ h. a.0 (b.0 h))

  -- ---- an operator: at each place F gives labels of those that both have there

  module _ (F : (L → Type 0) → (L → Type 0) → L → Type 0)
      (alike : (A A' B B' : L → Type 0) → ((a : L) → A a ↔ A' a) → ((b : L) → B b ↔ B' b) → (l : L) → F A B l → F A' B' l)
      (some : (A B : L → Type 0) (l : L) → F A B l → (a : L) × A a)
      (out : List (L × List (ℕ × ℕ))) (cover : IsPackedCover k (λ l place. F (λ a. HasRow ls a place) (λ b. HasRow rs b place) l) (IsBoxOf ls) out) where
    within_sides : (x : L × List (ℕ × ℕ)) → Among x out → (s : ℕ) (e : S) → s < k → ((get_or x.1 s no_cells).0 < (get_or x.1 s no_cells).1) × ((get_or x.1 s no_cells).1 ≤ length (get_or ss s e).0)
    within_sides =
        within n has high point ts left right ss cells.left_cells cells.right_cells cells.over ls rs lefts_on rights_on F alike some
        (λ l place. F (λ a. HasRow ls a place) (λ b. HasRow rs b place) l) (λ l p e. (λ h. h, λ h. h)) (IsBoxOf ls) (λ y h. h) out cover

    -- by their numbers its rows are the packed form of boxes that have these labels at points
    packed_form : IsTotalOrder order → Separates order → IsStrictlySortedBy (key_cmp order) out → (boxes : List (Boxed L)) → AllHave k boxes
        → ((l : L) (p : List ℤ) → InBoxes boxes l p ↔ F (λ a. InBoxes (map (row_numbers n) left) a p) (λ b. InBoxes (map (row_numbers n) right) b p) l)
        → map (grid_row ns) out ≡ packed_boxes order k boxes
    packed_form o same sorted boxes have e =
        form n has high point ts left right ss cells.left_cells cells.right_cells cells.over ls rs lefts_on rights_on F alike some
        (λ l place. F (λ a. HasRow ls a place) (λ b. HasRow rs b place) l) (λ l p e. (λ h. h, λ h. h)) (IsBoxOf ls) (λ y h. h) out cover order o same sorted boxes have (λ l p.
        let a = λ (m : L). lefts_at o same m p in
        let b = λ (m : L). rights_at o same m p in
        let w = e l p in (
          λ h. alike (λ m. InBoxes (map (row_numbers n) left) m p) (λ m. InBoxes (map (grid_row ns) ls) m p) (λ m. InBoxes (map (row_numbers n) right) m p) (λ m. InBoxes (map (grid_row ns) rs) m p) a b l (w.0 h),
          λ h. w.1 (alike (λ m. InBoxes (map (grid_row ns) ls) m p) (λ m. InBoxes (map (row_numbers n) left) m p) (λ m. InBoxes (map (grid_row ns) rs) m p) (λ m. InBoxes (map (row_numbers n) right) m p) (λ m. ((a m).1, (a m).0)) (λ m. ((b m).1, (b m).0)) l h),
        ))

  -- ---- what is had of both, and of the first alone

  abbrev Both : (L → Type 0) → (L → Type 0) → L → Type 0
  Both A B l = A l × B l

  abbrev First : (L → Type 0) → (L → Type 0) → L → Type 0
  First A B l = A l × (B l → ⊥)

  both_alike : (A A' B B' : L → Type 0) → ((a : L) → A a ↔ A' a) → ((b : L) → B b ↔ B' b) → (l : L) → Both A B l → Both A' B' l
  both_alike A A' B B' a b l h = ((a l).0 h.0, (b l).0 h.1)

  both_some : (A B : L → Type 0) (l : L) → Both A B l → (a : L) × A a
  both_some A B l h = (l, h.0)

  first_alike : (A A' B B' : L → Type 0) → ((a : L) → A a ↔ A' a) → ((b : L) → B b ↔ B' b) → (l : L) → First A B l → First A' B' l
  first_alike A A' B B' a b l h = ((a l).0 h.0, λ g. h.1 ((b l).1 g))

  first_some : (A B : L → Type 0) (l : L) → First A B l → (a : L) × A a
  first_some A B l h = (l, h.0)

  abbrev lefts_unpacked : List (Boxed L)
  lefts_unpacked = unpacked_boxes order k (map (row_numbers n) left)

  abbrev rights_unpacked : List (Boxed L)
  rights_unpacked = unpacked_boxes order k (map (row_numbers n) right)

  abbrev WithinCells : List (L × List (ℕ × ℕ)) → Type 0
  WithinCells out = (x : L × List (ℕ × ℕ)) → Among x out → (s : ℕ) (e : S) → s < k → ((get_or x.1 s no_cells).0 < (get_or x.1 s no_cells).1) × ((get_or x.1 s no_cells).1 ≤ length (get_or ss s e).0)

  module _ (out : List (L × List (ℕ × ℕ))) where
    module _ (cover : IsPackedCover k (InBoth ls rs) (IsBoxOf ls) out) where
      pub common_within : WithinCells out
      common_within = within_sides Both both_alike both_some out cover

      pub common_form : IsTotalOrder order → Separates order → IsStrictlySortedBy (key_cmp order) out → map (grid_row ns) out ≡ packed_boxes order k (common_of (boxed_cmp order) lefts_unpacked rights_unpacked)
      common_form o same sorted =
          let hl = numbers_have n has ts left cells.over.left_boxes in
          let hr = numbers_have n has ts right cells.over.right_boxes in
          packed_form Both both_alike both_some out cover o same sorted (common_of (boxed_cmp order) lefts_unpacked rights_unpacked)
          (common_have order o same k (map (row_numbers n) left) (map (row_numbers n) right) hl hr)
          (places_common order o same k (map (row_numbers n) left) (map (row_numbers n) right) hl hr)

    module _ (cover : IsPackedCover k (InFirst ls rs) (IsBoxOf ls) out) where
      pub difference_within : WithinCells out
      difference_within = within_sides First first_alike first_some out cover

      pub difference_form : IsTotalOrder order → Separates order → IsStrictlySortedBy (key_cmp order) out → map (grid_row ns) out ≡ packed_boxes order k (difference_of (boxed_cmp order) lefts_unpacked rights_unpacked)
      difference_form o same sorted =
          let hl = numbers_have n has ts left cells.over.left_boxes in
          let hr = numbers_have n has ts right cells.over.right_boxes in
          packed_form First first_alike first_some out cover o same sorted (difference_of (boxed_cmp order) lefts_unpacked rights_unpacked)
          (difference_have order o same k (map (row_numbers n) left) (map (row_numbers n) right) hl hr)
          (places_difference order o same k (map (row_numbers n) left) (map (row_numbers n) right) hl hr)
