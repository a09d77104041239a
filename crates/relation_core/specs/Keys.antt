-- The numbers of rows behind the rows' parts at positions, in the order of these parts.
--     keyed_from      a list of rows with their parts and numbers
--     has_key      whether an entry stands behind a part
--     IsIndexOf      the entries of rows, in order
use Rattle.std.specs.Prelude.{◌≡◌, ℕ, suc, Bool, List, [], ◌∷◌, filter}
use Rattle.std.specs.List.Sorted.{IsSortedByKey}
use Rattle.std.specs.Ordering.{eq_by_cmp}
use Rattle.value_core.specs.Values.{Row, row_cmp}
use Rattle.relation_core.specs.Agreement.{part_of}

-- the rows' parts, each with its row's number; the first row has the number n
abbrev pub keyed_from : List ℕ → ℕ → List Row → List (Row × ℕ)
keyed_from positions n [] = []
keyed_from positions n (x ∷ xs) = (part_of positions x, n) ∷ keyed_from positions (suc n) xs

abbrev pub has_key : Row → Row × ℕ → Bool
has_key key entry = eq_by_cmp row_cmp entry.0 key

-- the entries of the rows, by their parts; those with one part in the order of the rows
pub record IsIndexOf (positions : List ℕ) (rows : List Row) (index : List (Row × ℕ)) : Type 0 where
  pub ascending : IsSortedByKey (λ (entry : Row × ℕ). entry.0) row_cmp index
  pub complete : (key : Row) → filter (has_key key) index ≡ filter (has_key key) (keyed_from positions 0 rows)
