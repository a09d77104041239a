-- Rows over numbered cells as a set, and its packed form.
use Rattle.std.specs.Prelude.{◌≡◌, ℕ, true, List, [], ◌∷◌, get_or, nat_lt, cond}
use Rattle.cell_packing.specs.Covering.{Among}
use Rattle.cell_packing.specs.Live.{has_grid_point, box, IsSliceRow}
use Rattle.cell_packing.specs.Packed.{IsIndexPackedTo, no_cells}
use Rattle.cell_packing.specs.declared.Piece.{Piece}
use Rattle.cell_sweep.specs.declared.bare.NoLabel.{NoLabel}
use Rattle.cell_sweep.specs.Rows.{no_sides}

-- some row of the label has the place
abbrev pub HasRow : {P : Type 0} → List (P × List (ℕ × ℕ)) → P → List ℕ → Type 0
HasRow rows l grid_point = (y : List (ℕ × ℕ)) × Among (l, y) rows × (has_grid_point y grid_point ≡ true)

-- a row of the packed form of the rows on their k sides, the first side first
abbrev pub IsPackedOf : {P : Type 0} → ℕ → List (P × List (ℕ × ℕ)) → P × List (ℕ × ℕ) → Type 0
IsPackedOf k rows x = IsIndexPackedTo k (HasRow rows x.0) x.1 []

-- the one label of rows that have none
abbrev pub bare : NoLabel
bare = record {}

-- any label goes with any rows
abbrev pub AnyLabel : {P : Type 0} → P → List ℕ → List ℕ → Type 0
AnyLabel l a b = Unit {0}

-- a row of the packed form of the live boxes, on their first k sides
abbrev pub IsUnitedRow : {P : Type 0} → ℕ → List (List (ℕ × ℕ)) → List ℕ → P × List (ℕ × ℕ) → Type 0
IsUnitedRow k boxes live x = IsSliceRow k AnyLabel boxes live [] x.0 x.1

-- the cells of the row r on the side
abbrev pub span_of : List (List (ℕ × ℕ)) → ℕ → ℕ → ℕ × ℕ
span_of boxes side r = get_or (box boxes r) side no_cells

-- its first cell, and the one after its last
abbrev pub cuts_of : List (List (ℕ × ℕ)) → ℕ → ℕ → List ℕ
cuts_of boxes side r = (span_of boxes side r).0 ∷ (span_of boxes side r).1 ∷ []

-- cells of a key that stands for itself, as a piece; none where there are no cells
abbrev pub alone : {K : Type 0} → K → ℕ × ℕ → List (Piece K)
alone k s = cond (nat_lt s.0 s.1) (record { key = k; begin = s.0; end = s.1 } ∷ []) []

-- the row's cells on its first side, as a piece of its label; none where there are no cells
abbrev pub own_piece : {P : Type 0} → P × List (ℕ × ℕ) → List (Piece (P × List (ℕ × ℕ)))
own_piece x = alone (no_sides x.0) (get_or x.1 0 no_cells)

-- a row with the label
abbrev pub labelled : {P Q : Type 0} → P → Q × List (ℕ × ℕ) → P × List (ℕ × ℕ)
labelled l x = (l, x.1)
