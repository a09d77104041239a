-- What is stored of a log after a statement is stored after a later one, where its relvar stays as it is.
use Rattle.std.proofs.Common.{ℕ, ℤ, ◌<ℤ◌, ◌≤ℤ◌, List, arith}
use Rattle.std.proofs.lemmas.Int.{ints}
use Rattle.std.proofs.lemmas.List.Elements.{All-weaker}
use Rattle.value_core.specs.Values.{Row}
use Rattle.log_times.specs.Logs.{open_end, IsStoredRow, IsStored}

later_row : (side : ℕ) (m n : ℤ) (row : Row) → m ≤ℤ n → IsStoredRow side m row → IsStoredRow side n row
later_row side m n row le is = record {
  interval = is.interval;
  begun = let begun = is.begun in omega (arith, ints, begun, le);
  ended = λ e. let ended = is.ended e in omega (arith, ints, ended, le);
}

pub later : (side : ℕ) (m n : ℤ) (rows : List Row) → m ≤ℤ n → n <ℤ open_end → IsStored side m rows → IsStored side n rows
later side m n rows le before is = record { rows = All-weaker (IsStoredRow side m) (IsStoredRow side n) (λ row. later_row side m n row le) rows is.rows; before = before }
