-- Rows that are in, as a list of flags.
use Rattle.std.specs.Prelude.{◌≡◌, ℕ, ◌<◌, ◌≤◌, ◌↔◌, ◌⊎◌, Bool, true, false, List, [], ◌∷◌, length, get_or, Option, Some, None, Result, Ok, Err}
use Rattle.cell_packing.specs.Packed.{no_cells}
use Rattle.cell_boxes.specs.Common.{At, EndsBy}
use Rattle.cell_boxes.specs.Rows.{IsRow, PlainCellBox}

-- the row is marked
abbrev pub IsIn : List Bool → ℕ → Type 0
IsIn flags r = get_or flags r false ≡ true

-- the cells of the row r
abbrev pub span_at : List (ℕ × ℕ) → ℕ → ℕ × ℕ
span_at spans r = get_or spans r no_cells

-- the row is marked besides, if its cells do not end by the cell
pub record IsEntered (spans : List (ℕ × ℕ)) (cell row : ℕ) (old new : List Bool) : Type 0 where
  pub count : length new ≡ length old
  pub flags : (r : ℕ) → IsIn new r ↔ IsIn old r ⊎ ((r ≡ row) × (cell < (span_at spans row).1))

-- the row is marked no more, if its cells end by the cell
pub record IsLeft (spans : List (ℕ × ℕ)) (cell row : ℕ) (old new : List Bool) : Type 0 where
  pub count : length new ≡ length old
  pub flags : (r : ℕ) → IsIn new r ↔ IsIn old r × ((r ≡ row) → cell < (span_at spans row).1)

-- the pair of the number
abbrev pub pair_at : List (ℕ × ℕ) → ℕ → ℕ × ℕ
pair_at xs j = get_or xs j no_cells

-- from the first-th on up to before the n-th, all pairs come by the cell, and the n-th does not
pub record IsPassed (pairs : List (ℕ × ℕ)) (first n cell : ℕ) : Type 0 where
  pub from : first ≤ n
  pub within : n ≤ length pairs
  pub passed : (j : ℕ) → first ≤ j → j < n → (pair_at pairs j).0 ≤ cell
  pub ahead : n < length pairs → cell < (pair_at pairs n).0

-- the rows of those starts are marked besides, as far as they do not end by the cell
pub record AreEntered (spans starts : List (ℕ × ℕ)) (first n cell : ℕ) (old new : List Bool) : Type 0 where
  pub at : IsPassed starts first n cell
  pub count : length new ≡ length old
  pub flags : (r : ℕ) → IsIn new r ↔ IsIn old r ⊎ ((j : ℕ) × (first ≤ j) × (j < n) × ((pair_at starts j).1 ≡ r) × (cell < (span_at spans r).1))

-- the rows of those ends are marked no more, as far as they end by the cell
pub record AreLeft (spans ends : List (ℕ × ℕ)) (first n cell : ℕ) (old new : List Bool) : Type 0 where
  pub at : IsPassed ends first n cell
  pub count : length new ≡ length old
  pub flags : (r : ℕ) → IsIn new r ↔ IsIn old r × ((j : ℕ) → first ≤ j → j < n → (pair_at ends j).1 ≡ r → cell < (span_at spans r).1)

-- r is one of the rows from the first number on, up to before the second
abbrev pub Within : ℕ × ℕ → ℕ → Type 0
Within rows r = (rows.0 ≤ r) × (r < rows.1)

-- the rows with a number each, by the number
pub record AreBy (number : ℕ → ℕ) (rows : ℕ × ℕ) (pairs : List (ℕ × ℕ)) : Type 0 where
  pub order : (i j : ℕ) → i ≤ j → j < length pairs → (pair_at pairs i).0 ≤ (pair_at pairs j).0
  pub from : (j : ℕ) → j < length pairs → Within rows (pair_at pairs j).1 × ((pair_at pairs j).0 ≡ number (pair_at pairs j).1)
  pub to : (r : ℕ) → Within rows r → (j : ℕ) × (j < length pairs) × ((pair_at pairs j).1 ≡ r)

-- of the rows by their first cells and by the cells after their last, s and e come before n; and those are marked that have begun before n and do not end before it
pub record IsKept (spans : List (ℕ × ℕ)) (rows : ℕ × ℕ) (starts ends : List (ℕ × ℕ)) (n s e : ℕ) (flags : List Bool) : Type 0 where
  pub starts_within : s ≤ length starts
  pub ends_within : e ≤ length ends
  pub begun : (j : ℕ) → j < s → (pair_at starts j).0 < n
  pub ended : (j : ℕ) → j < e → (pair_at ends j).0 < n
  pub flagged : (r : ℕ) → IsIn flags r ↔ Within rows r × ((span_at spans r).0 < n) × (n ≤ (span_at spans r).1)

-- the cells with the label, if there is one
abbrev pub boxed : {P : Type 0} → ℕ × ℕ → Option P → List (PlainCellBox P)
boxed cells None = []
boxed cells (Some l) = (l, cells ∷ []) ∷ []

-- the label of an answer; a fault has none
abbrev pub label_in : {P F : Type 0} → Result (Option P) F → Option P
label_in (Ok o) = o
label_in (Err e) = None

-- V holds of the flags, among m, of just those rows that have the cell
abbrev pub OfTallied : (List Bool → Type 0) → List (ℕ × ℕ) → ℕ × ℕ → ℕ → ℕ → Type 0
OfTallied V spans rows m j =
    (f : List Bool) × (length f ≡ m) × ((r : ℕ) → IsIn f r ↔ Within rows r × ((span_at spans r).0 ≤ j) × (j < (span_at spans r).1)) × V f

-- z has one side, and ends by some row
pub record IsPart {P : Type 0} (spans : List (ℕ × ℕ)) (rows : ℕ × ℕ) (z : PlainCellBox P) : Type 0 where
  pub side : length z.1 ≡ 1
  pub row : (r : ℕ) × Within rows r × EndsBy (span_at spans r ∷ []) z.1

-- the flags of just the rows of the key that have the place
pub record AreFlagged {P : Type 0} (rows : List (PlainCellBox P)) (key : P) (grid_point : List ℕ) (f : List Bool) : Type 0 where
  pub count : length f ≡ length rows
  pub flags : (r : ℕ) → IsIn f r ↔ ((x : PlainCellBox P) × IsRow rows r x × (x.0 ≡ key) × At x.1 grid_point)

-- V holds of some key and of the flags of its rows that have the place
abbrev pub OfFlagged : {P : Type 0} → (P → List Bool → Type 0) → List (PlainCellBox P) → List ℕ → Type 0
OfFlagged {P} V rows grid_point = (k : P) × (f : List Bool) × AreFlagged rows k grid_point f × V k f

-- the rule gives the label of a key and its rows that have the place
abbrev pub IsTallied : {P R F : Type 0} → (P → List Bool → Result (Option R) F) → List (PlainCellBox P) → R → List ℕ → Type 0
IsTallied means rows l grid_point = OfFlagged (λ k f. means k f ≡ Ok (Some l)) rows grid_point

-- the rule gives the fault of a key and its rows that have some place of one side
abbrev pub IsTallyFault : {P R F : Type 0} → (P → List Bool → Result (Option R) F) → List (PlainCellBox P) → F → Type 0
IsTallyFault means rows e = (j : ℕ) × OfFlagged (λ k f. means k f ≡ Err e) rows (j ∷ [])
