-- A log as it is stored, and what it says.
--     PlainLog      the place of its statements, the number of the last of them, and what is stored
--     IsLog      what is stored is a log's
--     log_relation      the log's value: what stands ends at the last statement
use Rattle.std.specs.Prelude.{ℕ, ℤ}
use Rattle.value_core.specs.Values.{Relation}
use Rattle.log_times.specs.Logs.{closed, IsStored}
use Rattle.log_times.specs.Turns.{IsLogHeading}

pub record PlainLog : Type 0 where
  pub side : ℕ
  pub last : ℤ
  pub stored : Relation

pub record IsLog (l : PlainLog) : Type 0 where
  pub heading : IsLogHeading l.side l.stored.heading
  pub rows : IsStored l.side l.last l.stored.rows

abbrev pub log_relation : PlainLog → Relation
log_relation l = record { heading = l.stored.heading; rows = closed l.side l.last l.stored.rows }
