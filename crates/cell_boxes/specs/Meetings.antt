-- Left and right rows of one key that have cells in common.
use Rattle.std.specs.Prelude.{◌≡◌, ℕ, ◌+◌, ◌<◌, ◌≤◌, ◌⊎◌, Bool, cond, List, [], ◌∷◌, map}
use Rattle.std.specs.List.{list_all}
use Rattle.std.specs.declared.cmp.Ordering.{Ordering}
use Rattle.std.specs.declared.cmp.Ordering.TheVariants.{Equal}
use Rattle.cell_packing.specs.Covering.{Among}
use Rattle.cell_packing.specs.Live.{box}
use Rattle.cell_sweep.specs.PackedRows.{HasRow}
use Rattle.cell_boxes.specs.Common.{At, first_of, common, has_cell, HaveCells}
use Rattle.cell_boxes.specs.Rows.{IsRow, IsBefore, PlainCellBox}

-- the numbers of two rows, and the box that they have in common
abbrev pub Met : Type 0
Met = (ℕ × ℕ) × List (ℕ × ℕ)

-- rows of those numbers are of one key, and have just that box in common
abbrev pub IsMeeting : {P : Type 0} → (P → P → Ordering) → List (PlainCellBox P) → List (PlainCellBox P) → Met → Type 0
IsMeeting {P} order left right m =
    (x : PlainCellBox P) × (y : PlainCellBox P) × IsRow left m.0.0 x × IsRow right m.0.1 y
    × (order x.0 y.0 ≡ Equal) × (common x.1 y.1 ≡ m.1) × HaveCells m.1

-- the boxes of the rows
abbrev pub boxes_in : {P : Type 0} → List (PlainCellBox P) → List (List (ℕ × ℕ))
boxes_in rows = map (λ x. x.1) rows

-- whether the boxes of those numbers have a cell in common on each side that both have; a row that is not there has no side
abbrev pub meets : List (List (ℕ × ℕ)) → List (List (ℕ × ℕ)) → ℕ × ℕ → Bool
meets lefts rights p = list_all has_cell (common (box lefts p.0) (box rights p.1))

-- the pair with what the boxes of those numbers have in common, if that has a cell
abbrev pub met : List (List (ℕ × ℕ)) → List (List (ℕ × ℕ)) → ℕ × ℕ → List Met
met lefts rights p = cond (meets lefts rights p) ((p, common (box lefts p.0) (box rights p.1)) ∷ []) []

-- the row p.1 of `rows` begins within the row p.0 of `from`, or strictly after its first cell and within it
abbrev pub IsLater : {P : Type 0} → (P → P → Ordering) → Bool → List (PlainCellBox P) → List (PlainCellBox P) → ℕ × ℕ → Type 0
IsLater {P} order strict from rows p =
    (x : PlainCellBox P) × (y : PlainCellBox P) × IsRow from p.0 x × IsRow rows p.1 y
    × (order y.0 x.0 ≡ Equal) × (cond strict ((first_of x.1).0 + 1) (first_of x.1).0 ≤ (first_of y.1).0)
    × ((first_of y.1).0 < (first_of x.1).1)

-- the first n rows are of lesser keys than x, or of its key and begin before it, or, if strict, not after its first cell
abbrev pub AreBehind : {P : Type 0} → (P → P → Ordering) → Bool → PlainCellBox P → List (PlainCellBox P) → ℕ → Type 0
AreBehind {P} order strict x rows n =
    (j : ℕ) (y : PlainCellBox P) → IsRow rows j y → j < n → IsBefore order x.0 (cond strict ((first_of x.1).0 + 1) (first_of x.1).0) y

-- the two numbers the other way round
abbrev pub turned : ℕ × ℕ → ℕ × ℕ
turned p = (p.1, p.0)

-- by their left rows, and those of one left row by their first cells
abbrev pub StandByLeft : List Met → Type 0
StandByLeft ms =
    (a b : ℕ) (m n : Met) → a ≤ b → IsRow ms a m → IsRow ms b n
    → (m.0.0 < n.0.0) ⊎ ((m.0.0 ≡ n.0.0) × ((first_of m.1).0 ≤ (first_of n.1).0))

-- of the left rows whose label this is, some has the place and so has a right row of its key
abbrev pub IsShared : {P Q : Type 0} → List (PlainCellBox P) → List Q → List (PlainCellBox P) → Q → List ℕ → Type 0
IsShared {P} left labels right l grid_point =
    (i : ℕ) × (x : PlainCellBox P) × IsRow left i x × IsRow labels i l × At x.1 grid_point × HasRow right x.0 grid_point

-- the box of a meeting with the label of its left row
abbrev pub IsLabelled : {Q : Type 0} → List Q → List Met → PlainCellBox Q → Type 0
IsLabelled labels ms z = (m : Met) × Among m ms × IsRow labels m.0.0 z.0 × (m.1 ≡ z.1)

-- it is what the labels give of a left and a right row of one key that both have the place
abbrev pub IsPair : {P A B R : Type 0} → (A → B → R) → List (PlainCellBox P) → List A → List (PlainCellBox P) → List B → R → List ℕ → Type 0
IsPair {P} {A} {B} means left lefts right rights l grid_point =
    (i : ℕ) × (j : ℕ) × (x : PlainCellBox P) × (y : PlainCellBox P) × (a : A) × (b : B)
    × IsRow left i x × IsRow right j y × IsRow lefts i a × IsRow rights j b
    × (x.0 ≡ y.0) × At x.1 grid_point × At y.1 grid_point × (means a b ≡ l)

-- the box of a meeting with what the labels of its rows give
abbrev pub IsPairLabelled : {A B R : Type 0} → (A → B → R) → List A → List B → List Met → PlainCellBox R → Type 0
IsPairLabelled {A} {B} means lefts rights ms z =
    (m : Met) × (a : A) × (b : B) × Among m ms × IsRow lefts m.0.0 a × IsRow rights m.0.1 b × (means a b ≡ z.0) × (m.1 ≡ z.1)
