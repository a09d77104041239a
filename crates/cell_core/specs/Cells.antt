-- What the combination of boxes is: the cells of a function, packed on one side after the other.
use Rattle.std.specs.Prelude.{◌≡◌, ℕ, zero, suc, ◌≢◌, ◌⊎◌, ℤ, pos, ◌+ℤ◌, List, [], ◌∷◌, map, length, get_or, Err}
use Rattle.std.specs.declared.cmp.Ordering.{Ordering}
use Rattle.std.specs.List.Sorted.{IsStrictlySortedBy}
use Rattle.interval_core.specs.Members.{Span}
use Rattle.cell_packing.specs.Packed.{packs, points_of}
use Rattle.cell_packing.specs.Boxed.{boxed_cmp}
use Rattle.cell_packing.specs.Covering.{Among, covering, InCells, CellFunction}
use Rattle.cell_core.specs.Numbering.{numbers_of, span_at}

-- a box by its numbers
abbrev pub box_numbers : {P : Type 0} → (P → ℤ) → List (P × P) → List Span
box_numbers n sides = map (numbers_of n) sides

-- the numbers of the rows' boxes
abbrev pub boxes_of : {P : Type 0} → (P → ℤ) → List (List (P × P)) → List (List Span)
boxes_of n rows = map (box_numbers n) rows

-- a row of a label and k spans is packed: it is in the cells of f, packed on the first side, then the second,
-- up to the k-th
abbrev pub IsPackedRow : {L F : Type 0} → ℕ → CellFunction L F → List (List Span) → List (List Span) → L × List Span
    → Type 0
IsPackedRow k f left right x = (length x.1 ≡ k) × packs k (points_of (InCells f left right x.0)) x.1

-- some covered place has the fault
abbrev pub HasFault : {L F : Type 0} → ℕ → CellFunction L F → List (List Span) → List (List Span) → F → Type 0
HasFault k f left right e =
    (grid_point : List ℤ) × (length grid_point ≡ k)
    × ((covering left grid_point ≢ []) ⊎ (covering right grid_point ≢ [])) × (f (covering left grid_point) (covering right grid_point) ≡ Err e)

-- the list has just the packed rows, each once and in order; so there is one such list
pub record IsPackedForm {L F : Type 0} (order : L → L → Ordering) (k : ℕ) (f : CellFunction L F)
    (left right : List (List Span)) (rows : List (L × List Span)) : Type 0 where
  pub sorted : IsStrictlySortedBy (boxed_cmp order) rows
  pub members : (x : L × List Span)
      → (Among x rows → IsPackedRow k f left right x) × (IsPackedRow k f left right x → Among x rows)

-- numbers from a on, n of them
abbrev pub rows_from : ℕ → ℕ → List ℕ
rows_from a zero = []
rows_from a (suc n) = a ∷ rows_from (suc a) n

-- a row's cells on each side
abbrev pub cells_at : {P : Type 0} → ℕ → P × P × List (ℕ × ℕ) → ℕ × ℕ
cells_at r s = get_or s.2 r (0, 0)

-- the rows over the cells that stand from the place r on in the tables of all sides
abbrev pub keys_from : {L X P : Type 0} → ℕ → List (L × X) → List (P × P × List (ℕ × ℕ)) → List (L × List (ℕ × ℕ))
keys_from r [] sides = []
keys_from r (x ∷ xs) sides = (x.0, map (cells_at r) sides) ∷ keys_from (suc r) xs sides

-- the row's interval on the side
abbrev pub side_of : {X : Type 0} → ℕ → X → List X → X
side_of side d s = get_or s side d

-- each side's cuts, and the number after the last point of its type
abbrev pub grids_of : {T P : Type 0} → (P → ℤ) → (T → ℤ) → List T
    → List (List P × List P × List (ℕ × ℕ)) → List (List ℤ × ℤ)
grids_of n high [] ss = []
grids_of n high (t ∷ ts) [] = []
grids_of n high (t ∷ ts) (s ∷ ss) = (map n s.0, high t +ℤ pos 1) ∷ grids_of n high ts ss

-- a box of cells by its numbers
abbrev pub grid_box : List (List ℤ × ℤ) → List (ℕ × ℕ) → List Span
grid_box [] xs = []
grid_box (g ∷ gs) [] = []
grid_box (g ∷ gs) (x ∷ xs) = span_at g.0 g.1 x ∷ grid_box gs xs

abbrev pub grid_row : {L : Type 0} → List (List ℤ × ℤ) → L × List (ℕ × ℕ) → L × List Span
grid_row gs x = (x.0, grid_box gs x.1)

-- a row by its numbers
abbrev pub row_numbers : {L P : Type 0} → (P → ℤ) → L × List (P × P) → L × List Span
row_numbers n x = (x.0, box_numbers n x.1)
