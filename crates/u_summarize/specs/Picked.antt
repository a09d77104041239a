-- Rows of a group, and flags that stand for their labels.
--     ArePicked      the rows of a list are those of a part, one of each label, and just their labels are marked, each once
use Rattle.std.specs.Prelude.{◌≡◌, ℕ, List, [], length, get_or, Bool}
use Rattle.value_core.specs.Values.{Row}
use Rattle.relation_core.specs.Agreement.{part_of}
use Rattle.cell_packing.specs.Covering.{Among}
use Rattle.cell_sweep.specs.Rows.{AreRows}
use Rattle.cell_boxes.specs.Tallies.{IsIn}

pub record ArePicked (by : List ℕ) (labels : List Row) (key : Row) (a : List ℕ) (flags : List Bool) : Type 0 where
  pub order : AreRows 0 (length labels) a
  pub part : (r : ℕ) → Among r a → part_of by (get_or labels r []) ≡ key
  pub apart : (r s : ℕ) → Among r a → Among s a → get_or labels r [] ≡ get_or labels s [] → r ≡ s
  pub count : length flags ≡ length labels
  pub once : (r s : ℕ) → IsIn flags r → IsIn flags s → get_or labels r [] ≡ get_or labels s [] → r ≡ s
  pub to : (r : ℕ) → Among r a → (s : ℕ) × IsIn flags s × (get_or labels s [] ≡ get_or labels r [])
  pub from : (s : ℕ) → IsIn flags s → (r : ℕ) × Among r a × (get_or labels r [] ≡ get_or labels s [])
