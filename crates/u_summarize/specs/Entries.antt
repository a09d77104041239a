-- Rows with the numbers that stand for their labels.
--     Listed      a list has what a function gives of the numbers below a number
--     bare_row      a row's label with the row's number, and no cells
--     part_row      a row under a part of its label
--     AreDealt      for numbers of rows those that stand for their labels
--     turn      a number that stands for a row's label, where the rows stand by their labels
--     AreStanding      numbers that stand for the labels of rows
--     AreKeyed      the rows under parts of their labels, with one number for each label
--     AreArranged      rows with their numbers, in another order
--     AreNumbered      the rows under parts of their labels, with the numbers beside them
use Rattle.std.specs.Prelude.{◌≡◌, ◌↔◌, ℕ, zero, suc, ◌<◌, if◌then◌else◌, List, [], length, get_or}
use Rattle.std.specs.Ordering.{eq_by_cmp}
use Rattle.value_core.specs.Values.{Row, row_cmp}
use Rattle.relation_core.specs.Agreement.{part_of}
use Rattle.cell_packing.specs.Covering.{Among}
use Rattle.cell_boxes.specs.Answers.{PlainKeyedCellBox}
use Rattle.cell_boxes.specs.Keys.{ArePaired}
use Rattle.cell_boxes.specs.Rows.{PlainCellBox}

abbrev pub Listed : {Z : Type 0} → (ℕ → Z) → ℕ → List Z → Type 0
Listed {Z} f n zs = (z : Z) → Among z zs ↔ ((j : ℕ) × (j < n) × (z ≡ f j))

abbrev pub row_at : List (PlainCellBox Row) → ℕ → PlainCellBox Row
row_at rows r = get_or rows r ([], [])

abbrev pub bare_row : List (PlainCellBox Row) → ℕ → PlainKeyedCellBox Row ℕ
bare_row rows r = ((row_at rows r).0, r, [])

abbrev pub part_row : List ℕ → PlainCellBox Row → PlainCellBox Row
part_row by x = (part_of by x.0, x.1)

abbrev pub entry_at : List (PlainKeyedCellBox Row ℕ) → ℕ → PlainKeyedCellBox Row ℕ
entry_at entries i = get_or entries i ([], 0, [])

-- the number that stands for a label, where equal labels follow each other: that of the first of them
abbrev pub standing : List (PlainKeyedCellBox Row ℕ) → ℕ → ℕ
standing labels zero = (entry_at labels 0).1
standing labels (suc i) = if eq_by_cmp row_cmp (entry_at labels i).0 (entry_at labels (suc i)).0 then standing labels i else (entry_at labels (suc i)).1

abbrev pub numbered_row : List (PlainCellBox Row) → List ℕ → ℕ → PlainKeyedCellBox Row ℕ
numbered_row rows numbers r = ((row_at rows r).0, get_or numbers r 0, (row_at rows r).1)

-- out has for the numbers of the first n labels those that stand for these
abbrev pub AreDealt : List (PlainKeyedCellBox Row ℕ) → ℕ → List ℕ → Type 0
AreDealt labels n out = (j : ℕ) → j < n → (k : ℕ) × (k < n) × ((entry_at labels k).1 ≡ (entry_at labels j).1) × (get_or out (entry_at labels j).1 0 ≡ standing labels k)

-- the number of the first of the rows up to the row that have its label, where equal labels follow each other
abbrev pub turn : List (PlainCellBox Row) → ℕ → ℕ
turn rows zero = 0
turn rows (suc i) = if eq_by_cmp row_cmp (row_at rows i).0 (row_at rows (suc i)).0 then turn rows i else suc i

-- for each row the number of a row with its label, one for each label
pub record AreStanding (rows : List (PlainCellBox Row)) (numbers : List ℕ) : Type 0 where
  pub count : length numbers ≡ length rows
  pub has : (r : ℕ) → r < length rows → (get_or numbers r 0 < length rows) × ((row_at rows (get_or numbers r 0)).0 ≡ (row_at rows r).0)
  pub one : (r s : ℕ) → r < length rows → s < length rows → (row_at rows r).0 ≡ (row_at rows s).0 → get_or numbers r 0 ≡ get_or numbers s 0

pub record AreKeyed (by : List ℕ) (rows : List (PlainCellBox Row)) (entries : List (PlainKeyedCellBox Row ℕ)) : Type 0 where
  pub within : (z : PlainKeyedCellBox Row ℕ) → Among z entries → z.1 < length rows
  pub from : (z : PlainKeyedCellBox Row ℕ) → Among z entries → (r : ℕ) × (r < length rows) × (z.2 ≡ (row_at rows r).1) × ((row_at rows z.1).0 ≡ (row_at rows r).0) × (z.0 ≡ part_of by (row_at rows r).0)
  pub to : (r : ℕ) → r < length rows → (z : PlainKeyedCellBox Row ℕ) × Among z entries × (z.2 ≡ (row_at rows r).1) × ((row_at rows z.1).0 ≡ (row_at rows r).0)
  pub one : (z w : PlainKeyedCellBox Row ℕ) → Among z entries → Among w entries → (row_at rows z.1).0 ≡ (row_at rows w.1).0 → z.1 ≡ w.1

-- the keys and their numbers are the rows and theirs
pub record AreArranged (rows : List (PlainCellBox Row)) (numbers : List ℕ) (keys : List (PlainCellBox Row)) (own : List ℕ) : Type 0 where
  pub entries : List (PlainKeyedCellBox Row ℕ)
  pub listed : Listed (numbered_row rows numbers) (length rows) entries
  pub paired : ArePaired entries keys own

pub record AreNumbered (by : List ℕ) (rows keys : List (PlainCellBox Row)) (numbers : List ℕ) : Type 0 where
  pub entries : List (PlainKeyedCellBox Row ℕ)
  pub keyed : AreKeyed by rows entries
  pub paired : ArePaired entries keys numbers
