-- Rows by their numbers, and in the order of their keys and of their first cells.
use Rattle.std.specs.Prelude.{◌≡◌, ℕ, ◌<◌, ◌≤◌, ◌⊎◌, List, length, get_or}
use Rattle.std.specs.declared.cmp.Ordering.{Ordering}
use Rattle.std.specs.declared.cmp.Ordering.TheVariants.{Less, Equal}
use Rattle.cell_boxes.specs.Common.{first_of}

-- x is the row of the number i
abbrev pub IsRow : {X : Type 0} → List X → ℕ → X → Type 0
IsRow rows i x = (i < length rows) × (get_or rows i x ≡ x)

-- a key and the cells of the sides
abbrev pub PlainCellBox : Type 0 → Type 0
PlainCellBox P = P × List (ℕ × ℕ)

-- the row is of a lesser key, or of the same and begins before the cell
abbrev pub IsBefore : {P : Type 0} → (P → P → Ordering) → P → ℕ → PlainCellBox P → Type 0
IsBefore order key cell x = (order x.0 key ≡ Less) ⊎ ((order x.0 key ≡ Equal) × ((first_of x.1).0 < cell))

-- the rows stand by their keys, and those of a key by their first cells
abbrev pub Ascend : {P : Type 0} → (P → P → Ordering) → List (PlainCellBox P) → Type 0
Ascend {P} order rows =
    (i j : ℕ) (x y : PlainCellBox P) → i ≤ j → IsRow rows i x → IsRow rows j y
    → (order x.0 y.0 ≡ Less) ⊎ ((order x.0 y.0 ≡ Equal) × ((first_of x.1).0 ≤ (first_of y.1).0))
