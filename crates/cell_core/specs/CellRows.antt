-- Left and right rows over the cells of one numbering of their sides.
use Rattle.std.specs.Prelude.{◌≡◌, ℕ, ◌<◌, ℤ, List, ◌++◌, map, length, get_or}
use Rattle.std.specs.List.{All}
use Rattle.cell_core.specs.Boxes.{IsBox}
use Rattle.cell_core.specs.Cells.{side_of, keys_from}
use Rattle.cell_core.specs.Numbering.{IsSide}

-- each side of the boxes is numbered, those of the left rows first, and the rows over cells are what stands in the tables of all sides
pub record AreOverCells {T P L : Type 0} (n : P → ℤ) (has : T → P → Type 0) (high : T → ℤ) (types : List T) (left right : List (L × List (P × P)))
    (sides : List (List P × List P × List (ℕ × ℕ))) (left_rows right_rows : List (L × List (ℕ × ℕ))) : Type 0 where
  pub left_boxes : All (λ r. IsBox has types r.1) left
  pub right_boxes : All (λ r. IsBox has types r.1) right
  pub count : length sides ≡ length types
  pub numbered : (j : ℕ) (t : T) (d : P × P) (e : List P × List P × List (ℕ × ℕ)) → j < length types
      → IsSide n (has (get_or types j t)) (high (get_or types j t)) (map (side_of j d) (map (λ r. r.1) left ++ map (λ r. r.1) right)) (get_or sides j e)
  pub lefts : left_rows ≡ keys_from 0 left sides
  pub rights : right_rows ≡ keys_from (length left) right sides
