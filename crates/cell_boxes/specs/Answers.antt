-- What operators over labelled boxes give at a place, and its packed form.
use Rattle.std.specs.Prelude.{◌≡◌, ℕ, ◌↔◌, List, [], length}
use Rattle.std.specs.List.{All}
use Rattle.cell_packing.specs.Covering.{Among}
use Rattle.cell_packing.specs.Packed.{IsIndexPackedTo}
use Rattle.cell_sweep.specs.PackedRows.{HasRow, IsPackedOf}
use Rattle.cell_boxes.specs.Common.{At, EndsBy}
use Rattle.cell_boxes.specs.Rows.{PlainCellBox}

-- a row of the packed form of the labels that S holds of at places of k sides: on the first side, on the second, and so on
abbrev pub IsPackedRow : {P : Type 0} → ℕ → (P → List ℕ → Type 0) → PlainCellBox P → Type 0
IsPackedRow k S x = (length x.1 ≡ k) × IsIndexPackedTo k (S x.0) x.1 []

-- the rows are the packed form of boxes of k sides that have just the labels of S at places of k sides, and of which each
-- ends by some box that B holds of; so what such boxes are on a grid, the rows are too
pub record IsPackedCover {P : Type 0} (k : ℕ) (S : P → List ℕ → Type 0) (B : List (ℕ × ℕ) → Type 0) (rows : List (PlainCellBox P)) : Type 0 where
  pub parts : List (PlainCellBox P)
  pub sides : All (λ x. length x.1 ≡ k) parts
  pub ends : (z : PlainCellBox P) → Among z parts → (y : List (ℕ × ℕ)) × B y × EndsBy y z.1
  pub grid_points : (l : P) (grid_point : List ℕ) → length grid_point ≡ k → HasRow parts l grid_point ↔ S l grid_point
  pub packed : (x : PlainCellBox P) → Among x rows ↔ (length x.1 ≡ k) × IsPackedOf k parts x

-- it is the box of some row
abbrev pub IsBoxOf : {P : Type 0} → List (PlainCellBox P) → List (ℕ × ℕ) → Type 0
IsBoxOf {P} rows y = (l : P) × Among (l, y) rows

-- both have the label at the place
abbrev pub InBoth : {P : Type 0} → List (PlainCellBox P) → List (PlainCellBox P) → P → List ℕ → Type 0
InBoth left right l grid_point = HasRow left l grid_point × HasRow right l grid_point

-- the left rows have it there, and the right rows have not
abbrev pub InFirst : {P : Type 0} → List (PlainCellBox P) → List (PlainCellBox P) → P → List ℕ → Type 0
InFirst left right l grid_point = HasRow left l grid_point × (HasRow right l grid_point → ⊥)

-- a key, a label and the cells of the sides
abbrev pub PlainKeyedCellBox : Type 0 → Type 0 → Type 0
PlainKeyedCellBox K P = K × P × List (ℕ × ℕ)

-- it is the box of some row
abbrev pub IsBoxOfKeyed : {K P : Type 0} → List (PlainKeyedCellBox K P) → List (ℕ × ℕ) → Type 0
IsBoxOfKeyed {K} {P} rows y = (k : K) × (l : P) × Among (k, l, y) rows

-- some row of the key and the label has the place
abbrev pub HasKeyed : {K P : Type 0} → List (PlainKeyedCellBox K P) → K → P → List ℕ → Type 0
HasKeyed rows k l grid_point = (y : List (ℕ × ℕ)) × Among (k, l, y) rows × At y grid_point

-- a left row has the label at the place, and a right row has its key there
abbrev pub IsMatched : {K P : Type 0} → List (PlainKeyedCellBox K P) → List (PlainCellBox K) → P → List ℕ → Type 0
IsMatched {K} left right l grid_point = (k : K) × HasKeyed left k l grid_point × HasRow right k grid_point

-- a left row has it there, and no right row has its key there
abbrev pub IsUnmatched : {K P : Type 0} → List (PlainKeyedCellBox K P) → List (PlainCellBox K) → P → List ℕ → Type 0
IsUnmatched {K} left right l grid_point = (k : K) × HasKeyed left k l grid_point × (HasRow right k grid_point → ⊥)

-- it is what the labels give of a left and a right row of one key that have the place
abbrev pub IsJoined : {K P Q R : Type 0} → (P → Q → R) → List (PlainKeyedCellBox K P) → List (PlainKeyedCellBox K Q) → R → List ℕ → Type 0
IsJoined {K} {P} {Q} means left right l grid_point =
    (k : K) × (a : P) × (b : Q) × HasKeyed left k a grid_point × HasKeyed right k b grid_point × (means a b ≡ l)
