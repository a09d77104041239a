-- What of a box is outside a hole, and outside holes.
use Rattle.std.specs.Prelude.{ℕ, zero, suc, ◌<◌, ◌≤◌, max, min, nat_lt, nat_le, Bool, cond, List, [], ◌∷◌, ◌++◌, get_or, set, length, map, ◌≡◌, ◌↔◌}
use Rattle.std.specs.List.{All}
use Rattle.cell_packing.specs.Covering.{Among}
use Rattle.cell_packing.specs.Packed.{no_cells}
use Rattle.cell_sweep.specs.PackedRows.{HasRow}
use Rattle.cell_sweep.specs.Rows.{sides_of}
use Rattle.cell_sweep.specs.declared.inward.IndexBox.{IndexBox}
use Rattle.cell_boxes.specs.Common.{At, EndsBy, both, first_of}
use Rattle.cell_boxes.specs.Meetings.{Met}
use Rattle.cell_boxes.specs.Rows.{IsRow, PlainCellBox}

-- some box has the place
abbrev pub HasBox : List (List (ℕ × ℕ)) → List ℕ → Type 0
HasBox boxes grid_point = (y : List (ℕ × ℕ)) × Among y boxes × At y grid_point

-- the box with other cells on a side, where there are any
abbrev pub part : List (ℕ × ℕ) → ℕ → ℕ × ℕ → List (List (ℕ × ℕ))
part y side cells = cond (nat_lt cells.0 cells.1) (set y side cells ∷ []) []

-- what of it is before the cells on the side, and what is after them
abbrev pub beside : List (ℕ × ℕ) → ℕ → ℕ × ℕ → List (List (ℕ × ℕ))
beside y side cells =
    let own = get_or y side no_cells in
    part y side (own.0, min own.1 cells.0) ++ part y side (max own.0 cells.1, own.1)

-- the box within the hole on the first sides
abbrev pub narrowed : ℕ → List (ℕ × ℕ) → List (ℕ × ℕ) → List (ℕ × ℕ)
narrowed zero y hole = y
narrowed (suc s) y hole = set (narrowed s y hole) s (both (get_or (narrowed s y hole) s no_cells) (get_or hole s no_cells))

-- what of the box is outside the hole on the first sides
abbrev pub outside_to : ℕ → List (ℕ × ℕ) → List (ℕ × ℕ) → List (List (ℕ × ℕ))
outside_to zero y hole = []
outside_to (suc s) y hole = outside_to s y hole ++ beside (narrowed s y hole) s (get_or hole s no_cells)

abbrev pub outside : List (ℕ × ℕ) → List (ℕ × ℕ) → List (List (ℕ × ℕ))
outside hole y = outside_to (length hole) y hole

-- whether the box ends before the hole begins
abbrev pub is_past : List (ℕ × ℕ) → List (ℕ × ℕ) → Bool
is_past hole y = nat_le (first_of y).1 (first_of hole).0

-- the box, if it is past
abbrev pub past : List (ℕ × ℕ) → List (ℕ × ℕ) → List (List (ℕ × ℕ))
past hole y = cond (is_past hole y) (y ∷ []) []

-- what of it is outside the hole, if it is not
abbrev pub ahead : List (ℕ × ℕ) → List (ℕ × ℕ) → List (List (ℕ × ℕ))
ahead hole y = cond (is_past hole y) [] (outside hole y)

-- none of the holes from `first` up to before `end` has the place
abbrev pub IsClear : List Met → ℕ → ℕ → List ℕ → Type 0
IsClear holes first end grid_point = (q : ℕ) (m : Met) → IsRow holes q m → first ≤ q → q < end → At m.1 grid_point → ⊥

-- of the left rows whose label this is, some has the place and no right row of its key does
abbrev pub IsRest : {P Q : Type 0} → List (PlainCellBox P) → List Q → List (PlainCellBox P) → Q → List ℕ → Type 0
IsRest {P} left labels right l grid_point =
    (i : ℕ) × (x : PlainCellBox P) × IsRow left i x × IsRow labels i l × At x.1 grid_point × (HasRow right x.0 grid_point → ⊥)

-- rows with the label were added whose boxes are together what of the box is outside the holes from `first` up to before `end`
pub record LeavesParts {Q : Type 0} (label : Q) (own : List (ℕ × ℕ)) (holes : List Met) (first end : ℕ) (old new : List (PlainCellBox Q)) : Type 0 where
  pub parts : List IndexBox
  pub made : new ≡ old ++ map (λ x. (label, x.sides.items)) parts
  pub grid_points : (grid_point : List ℕ) → length grid_point ≡ length own → HasBox (sides_of parts) grid_point ↔ At own grid_point × IsClear holes first end grid_point
  pub lengths : All (λ x. length x.sides.items ≡ length own) parts
  pub ends : (z : List (ℕ × ℕ)) → Among z (sides_of parts) → EndsBy own z
