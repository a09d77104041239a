-- Live boxes of which any two have a cell between them on some side.
use Rattle.std.specs.Prelude.{◌≡◌, ℕ, suc, ◌<◌, ◌⊎◌, List, get_or, length}
use Rattle.std.specs.declared.cmp.Ordering.TheVariants.{Less}
use Rattle.std.specs.Cmp.Lexicographic.{slice_cmp}
use Rattle.cell_packing.specs.Live.{box}
use Rattle.cell_sweep.specs.PackedRows.{span_of}
use Rattle.cell_sweep.specs.Rows.{pair_cmp}

-- a cell lies between the cells of x and those of y
abbrev pub IsGap : ℕ × ℕ → ℕ × ℕ → Type 0
IsGap x y = (x.1 < y.0) ⊎ (y.1 < x.0)

-- a cell lies between the rows on one of the first k sides
abbrev pub AreParted : List (List (ℕ × ℕ)) → ℕ → ℕ → ℕ → Type 0
AreParted boxes k r q = (s : ℕ) × (s < k) × IsGap (span_of boxes s r) (span_of boxes s q)

-- the row has k sides, and cells on each of them
abbrev pub HasCells : List (List (ℕ × ℕ)) → ℕ → ℕ → Type 0
HasCells boxes k r = (length (box boxes r) ≡ k) × ((s : ℕ) → s < k → (span_of boxes s r).0 < (span_of boxes s r).1)

-- the row r comes before the row q in the order of their sides
abbrev pub ComesBefore : List (List (ℕ × ℕ)) → ℕ → ℕ → Type 0
ComesBefore boxes r q = slice_cmp pair_cmp (box boxes r) (box boxes q) ≡ Less

-- the row ends before the other begins, on their first side
abbrev pub EndsBefore : List (List (ℕ × ℕ)) → ℕ → ℕ → Type 0
EndsBefore boxes r q = (span_of boxes 0 r).1 < (span_of boxes 0 q).0

-- the live row with the number
abbrev pub live_row : List ℕ → ℕ → ℕ
live_row live i = get_or live i 0

-- the live row at i is parted from those after it, up to one that begins after its end
abbrev pub IsClear : List (List (ℕ × ℕ)) → ℕ → List ℕ → ℕ → Type 0
IsClear boxes k live i = (n : ℕ) × ((j : ℕ) → i < j → j < n → AreParted boxes k (live_row live i) (live_row live j)) × (n < length live → EndsBefore boxes (live_row live i) (live_row live n))

-- the live row at i has cells, comes before the next one, and is parted from those after it
abbrev pub StandsApart : List (List (ℕ × ℕ)) → ℕ → List ℕ → ℕ → Type 0
StandsApart boxes k live i = HasCells boxes k (live_row live i) × (suc i < length live → ComesBefore boxes (live_row live i) (live_row live (suc i))) × IsClear boxes k live i

-- each live row does, on two sides or more
abbrev pub AreApartRows : List (List (ℕ × ℕ)) → ℕ → List ℕ → Type 0
AreApartRows boxes k live = (1 < k) × ((i : ℕ) → i < length live → StandsApart boxes k live i)
