-- Rows over cells as an operator by keys takes them: as they are, or packed label by label.
--     IsPackedInOrder      they are the packed form of others, in order
--     IsSameOrPacked      they are others, or the packed form of these
use Rattle.std.specs.Prelude.{◌≡◌, ◌⊎◌, ℕ, List, length, ◌↔◌}
use Rattle.std.specs.declared.cmp.Ordering.{Ordering}
use Rattle.std.specs.List.Sorted.{IsStrictlySortedBy}
use Rattle.cell_packing.specs.Covering.{Among}
use Rattle.cell_sweep.specs.PackedRows.{IsPackedOf}
use Rattle.cell_sweep.specs.Rows.{key_cmp}

-- the rows are the packed form of rows over cells, in order
pub record IsPackedInOrder {L : Type 0} (order : L → L → Ordering) (k : ℕ) (cells rows : List (L × List (ℕ × ℕ))) : Type 0 where
  pub members : (x : L × List (ℕ × ℕ)) → Among x rows ↔ (length x.1 ≡ k) × IsPackedOf k cells x
  pub sorted : IsStrictlySortedBy (key_cmp order) rows

-- the rows are those over cells, or their packed form
abbrev pub IsSameOrPacked : {L : Type 0} → (L → L → Ordering) → ℕ → List (L × List (ℕ × ℕ)) → List (L × List (ℕ × ℕ)) → Type 0
IsSameOrPacked order k cells rows = (rows ≡ cells) ⊎ IsPackedInOrder order k cells rows
