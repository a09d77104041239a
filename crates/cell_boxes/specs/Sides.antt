-- Rows by one of their sides, and pairs of rows among which are all that meet.
use Rattle.std.specs.Prelude.{◌≡◌, ℕ, List, [], ◌∷◌, length, get_or}
use Rattle.std.specs.declared.cmp.Ordering.{Ordering}
use Rattle.std.specs.declared.cmp.Ordering.TheVariants.{Equal}
use Rattle.cell_packing.specs.Covering.{Among}
use Rattle.cell_packing.specs.Packed.{no_cells}
use Rattle.cell_boxes.specs.Answers.{PlainKeyedCellBox}
use Rattle.cell_boxes.specs.Common.{common, HaveCells}
use Rattle.cell_boxes.specs.Keys.{key_of, label_of}
use Rattle.cell_boxes.specs.Rows.{IsRow, PlainCellBox}

-- each pair is of a left and a right row of one key, and each two of these whose boxes meet are there
pub record AreCandidates {P : Type 0} (order : P → P → Ordering) (left right : List (PlainCellBox P)) (pairs : List (ℕ × ℕ)) : Type 0 where
  pub keys : (p : ℕ × ℕ) → Among p pairs → (x : PlainCellBox P) × (y : PlainCellBox P) × IsRow left p.0 x × IsRow right p.1 y × (order x.0 y.0 ≡ Equal)
  pub all : (i j : ℕ) (x y : PlainCellBox P) → IsRow left i x → IsRow right j y → order x.0 y.0 ≡ Equal → HaveCells (common x.1 y.1) → Among (i, j) pairs

-- it has the key of the row of its number, and of the cells of that row those of the side alone
abbrev pub IsOnSide : {P : Type 0} → ℕ → List (PlainCellBox P) → PlainKeyedCellBox P ℕ → Type 0
IsOnSide {P} side rows z = (x : PlainCellBox P) × IsRow rows z.1 x × (x.0 ≡ z.0) × (get_or x.1 side no_cells ∷ [] ≡ z.2)

-- the boxes with their keys and the numbers are the rows on the side
pub record AreOnSide {P : Type 0} (side : ℕ) (rows : List (PlainCellBox P)) (keys : List (PlainCellBox P)) (numbers : List ℕ) : Type 0 where
  pub count : length numbers ≡ length keys
  pub from : (i : ℕ) (x : PlainCellBox P) (n : ℕ) → IsRow keys i x → IsRow numbers i n → IsOnSide side rows (x.0, n, x.1)
  pub to : (z : PlainKeyedCellBox P ℕ) → IsOnSide side rows z → (i : ℕ) × IsRow keys i (key_of z) × IsRow numbers i (label_of z)

-- the pair of what stands at its numbers
abbrev pub renumbered : List ℕ → List ℕ → ℕ × ℕ → ℕ × ℕ
renumbered lefts rights p = (get_or lefts p.0 0, get_or rights p.1 0)
