-- A log whose relvar gains rows and loses others.
--     with_change      the relvar's value with the rows that come and without those that go
--     IsChangeBy      what is stored gains and loses, so that the log is brought to a statement
use Rattle.std.specs.Prelude.{◌≡◌, ◌≤◌, ℤ, length}
use Rattle.value_core.specs.Values.{Relation, most_rows}
use Rattle.log_times.specs.Kept.{PlainLog, log_relation}
use Rattle.log_times.specs.Logs.{moved, standing, closed, IsStored}
use Rattle.log_times.specs.Turns.{exchanged, IsExact}
use Rattle.log_times.specs.declared.turning.Turn.{Turn}

-- what still stands in the log, with the rows that come and without those that go
abbrev pub with_change : PlainLog → Relation → Relation → Relation
with_change l come gone = record { heading = come.heading; rows = exchanged (standing l.side l.stored.rows) come.rows gone.rows }

-- of rows of the log's heading: it gains and loses them, and so is the log after the statement n, at which these rows came to its relvar and those went. There is room for what is stored then
pub record IsChangeBy (l : PlainLog) (coming going : Relation) (n : ℤ) (t : Turn) : Type 0 where
  pub come : t.come.heading ≡ l.stored.heading
  pub gone : t.gone.heading ≡ l.stored.heading
  pub exact : IsExact l.stored.rows t.come.rows t.gone.rows
  pub few : length (exchanged l.stored.rows t.come.rows t.gone.rows) ≤ most_rows
  pub stored : IsStored l.side n (exchanged l.stored.rows t.come.rows t.gone.rows)
  pub stands : standing l.side (exchanged l.stored.rows t.come.rows t.gone.rows) ≡ (with_change l coming going).rows
  pub reads : closed l.side n (exchanged l.stored.rows t.come.rows t.gone.rows) ≡ moved l.side n (with_change l coming going).rows (log_relation l).rows
