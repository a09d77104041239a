-- Rows on one side that stand in order, with a cell between any two of one label.
use Rattle.std.specs.Prelude.{◌≡◌, ℕ, suc, ◌<◌, ◌⊎◌, List, get_or, length}
use Rattle.std.specs.declared.cmp.Ordering.{Ordering}
use Rattle.std.specs.declared.cmp.Ordering.TheVariants.{Less, Equal}
use Rattle.cell_packing.specs.Packed.{no_cells}

-- the cells of the first side
abbrev pub first_span : {P : Type 0} → P × List (ℕ × ℕ) → ℕ × ℕ
first_span x = get_or x.1 0 no_cells

-- the row has one side, and cells there
abbrev pub HasOneSpan : {P : Type 0} → P × List (ℕ × ℕ) → Type 0
HasOneSpan x = (length x.1 ≡ 1) × ((first_span x).0 < (first_span x).1)

-- y is of a later label, or of the same one and a cell lies between
abbrev pub IsParted : {P : Type 0} → (P → P → Ordering) → P × List (ℕ × ℕ) → P × List (ℕ × ℕ) → Type 0
IsParted order x y = (order x.0 y.0 ≡ Less) ⊎ ((order x.0 y.0 ≡ Equal) × ((first_span x).1 < (first_span y).0))

-- the row at i is parted from the next one
abbrev pub IsPartedAt : {P : Type 0} → (P → P → Ordering) → List (P × List (ℕ × ℕ)) → ℕ → Type 0
IsPartedAt {P} order rows i = (d e : P × List (ℕ × ℕ)) → suc i < length rows → IsParted order (get_or rows i d) (get_or rows (suc i) e)

-- the row at i has cells, and is parted from the next one
abbrev pub IsRunAt : {P : Type 0} → (P → P → Ordering) → List (P × List (ℕ × ℕ)) → ℕ → Type 0
IsRunAt {P} order rows i = ((d : P × List (ℕ × ℕ)) → HasOneSpan (get_or rows i d)) × IsPartedAt order rows i

abbrev pub AreRuns : {P : Type 0} → (P → P → Ordering) → List (P × List (ℕ × ℕ)) → Type 0
AreRuns order rows = (i : ℕ) → i < length rows → IsRunAt order rows i
