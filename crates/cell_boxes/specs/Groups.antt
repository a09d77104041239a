-- The rows of a key that have a place, and what a rule gives of them.
use Rattle.std.specs.Prelude.{◌≡◌, ◌≢◌, ℕ, ◌↔◌, List, [], ◌∷◌, ◌++◌, length, Result, Err}
use Rattle.cell_packing.specs.Covering.{Among, Gives}
use Rattle.cell_sweep.specs.Rows.{AreRows}
use Rattle.cell_boxes.specs.Common.{At}
use Rattle.cell_boxes.specs.Rows.{IsRow, PlainCellBox}

-- the numbers of the rows of the key that have the place, ascending
pub record IsGroup {P : Type 0} (rows : List (PlainCellBox P)) (key : P) (grid_point : List ℕ) (a : List ℕ) : Type 0 where
  pub order : AreRows 0 (length rows) a
  pub members : (r : ℕ) → Among r a ↔ ((x : PlainCellBox P) × IsRow rows r x × (x.0 ≡ key) × At x.1 grid_point)

-- V holds of the rows of some key that have the place, if there are any
abbrev pub OfGroup : {P : Type 0} → (List ℕ → Type 0) → List (PlainCellBox P) → List ℕ → Type 0
OfGroup {P} V rows grid_point = (k : P) × (a : List ℕ) × IsGroup rows k grid_point a × (a ≢ []) × V a

-- the rule gives the label of them
abbrev pub IsGrouped : {P R F : Type 0} → (List ℕ → List ℕ → Result (List R) F) → List (PlainCellBox P) → R → List ℕ → Type 0
IsGrouped means rows l grid_point = OfGroup (λ a. Gives (means a []) l) rows grid_point

-- the rule gives the fault of them at some place of k sides
abbrev pub IsGroupFault : {P R F : Type 0} → ℕ → (List ℕ → List ℕ → Result (List R) F) → List (PlainCellBox P) → F → Type 0
IsGroupFault k means rows e = (grid_point : List ℕ) × (length grid_point ≡ k) × OfGroup (λ a. means a [] ≡ Err e) rows grid_point

-- the row with the cells as one more side
abbrev pub longer : {P : Type 0} → ℕ × ℕ → PlainCellBox P → PlainCellBox P
longer cells x = (x.0, x.1 ++ cells ∷ [])
