-- What a log is after a statement, by the log before it and the relvar's value then.
--     IsBegun      the log that begins with a relvar's value
--     IsAfter      the log after one statement more
--     IsValueBefore      the relvar's value before it
--     IsTurnTo      what a stored log gains and loses at the statement, so that its relvar's rows are these
use Rattle.std.specs.Prelude.{◌≡◌, ℤ, []}
use Rattle.value_core.specs.Values.{Name, Relation, IsRelation}
use Rattle.log_times.specs.Kept.{PlainLog, log_relation}
use Rattle.log_times.specs.Logs.{moved, standing, closed, IsStored}
use Rattle.log_times.specs.Turns.{without, log_heading, side_of, exchanged, IsExact}
use Rattle.log_times.specs.declared.turning.Turn.{Turn}

-- the log at the statement n, its first, after which the relvar has this value
pub record IsBegun (attribute : Name) (n : ℤ) (now : Relation) (l : PlainLog) : Type 0 where
  pub side : l.side ≡ side_of now.heading attribute
  pub last : l.last ≡ n
  pub heading : l.stored.heading ≡ log_heading now.heading attribute
  pub relvar : without l.side l.stored.heading ≡ now.heading
  pub stands : standing l.side l.stored.rows ≡ now.rows
  pub reads : (log_relation l).rows ≡ moved l.side n now.rows []

-- the log t after the statement n, where it was l before and the relvar has this value then
pub record IsAfter (l : PlainLog) (now : Relation) (n : ℤ) (t : PlainLog) : Type 0 where
  pub side : t.side ≡ l.side
  pub last : t.last ≡ n
  pub heading : t.stored.heading ≡ l.stored.heading
  pub stands : standing l.side t.stored.rows ≡ now.rows
  pub reads : (log_relation t).rows ≡ moved l.side n now.rows (log_relation l).rows

-- the relvar's value after the log's last statement, by what still stands, where it has another value next
pub record IsValueBefore (l : PlainLog) (next before : Relation) : Type 0 where
  pub heading : before.heading ≡ next.heading
  pub rows : before.rows ≡ standing l.side l.stored.rows
  pub stored : IsRelation l.stored
  pub relvar : IsRelation next

-- of rows of the log's heading: it gains and loses them at the statement n, after which the relvar has this value
pub record IsTurnTo (l : PlainLog) (now : Relation) (n : ℤ) (t : Turn) : Type 0 where
  pub relation : IsRelation l.stored
  pub come : t.come.heading ≡ l.stored.heading
  pub gone : t.gone.heading ≡ l.stored.heading
  pub exact : IsExact l.stored.rows t.come.rows t.gone.rows
  pub stored : IsStored l.side n (exchanged l.stored.rows t.come.rows t.gone.rows)
  pub stands : standing l.side (exchanged l.stored.rows t.come.rows t.gone.rows) ≡ now.rows
  pub reads : closed l.side n (exchanged l.stored.rows t.come.rows t.gone.rows) ≡ moved l.side n now.rows (log_relation l).rows
