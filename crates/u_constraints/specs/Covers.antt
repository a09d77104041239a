-- Points that rows of one key have.
--     IsCovered      each number of a span is a point of some row with the key
--     IsRun      the same, with the key of a row
use Rattle.std.specs.Prelude.{◌≡◌, ℕ, ℤ, ◌≤ℤ◌, List}
use Rattle.interval_core.specs.Members.{Span}
use Rattle.cell_packing.specs.Covering.{Among}
use Rattle.value_core.specs.Values.{Row}
use Rattle.relation_core.specs.Agreement.{part_of}
use Rattle.u_set.specs.Apart.{span_in}

-- each of the numbers from i.0 to i.1 lies in the interval, at a position, of some row that has the key at the label
pub record IsCovered (label : List ℕ) (at : ℕ) (rows : List Row) (key : Row) (i : Span) : Type 0 where
  pub each : (n : ℤ) → i.0 ≤ℤ n → n ≤ℤ i.1 → (y : Row) × Among y rows × (part_of label y ≡ key) × ((span_in at y).0 ≤ℤ n) × (n ≤ℤ (span_in at y).1)

-- each of the numbers from begin to end, with the key of the row
abbrev pub IsRun : List ℕ → ℕ → List Row → Row → ℤ → ℤ → Type 0
IsRun label at rows row begin end = IsCovered label at rows (part_of label row) (begin, end)
