-- What a turn of a stored log answers.
use Rattle.std.specs.Prelude.{◌≡◌, ℕ, ℤ}
use Rattle.value_core.specs.Values.{Relation}
use Rattle.log_times.specs.Turns.{IsTurned}
use Rattle.log_times.specs.declared.turning.Turn.{Turn}

-- rows of the log's heading, by which it is turned at the statement n, in which the relvar gains the rows that come and then loses those that go
pub record IsTurnOf (side : ℕ) (n : ℤ) (coming going before : Relation) (t : Turn) : Type 0 where
  pub come : t.come.heading ≡ before.heading
  pub gone : t.gone.heading ≡ before.heading
  pub rows : IsTurned side n coming.rows going.rows before.rows t.come.rows t.gone.rows
