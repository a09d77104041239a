-- Rows that a base relvar gained and rows that it lost, which its log does not tell yet.
--     is_log_of, logs_of      the logs of the relvar of a name
--     IsChanging      such a log, which has room for them
--     IsChangeOf, AreChanging      what is asked of an entry, and of all
--     HasEnded      each row of a log ended by its last statement
--     HasRoomForChange      there is room for so many rows more in the one log of a relvar
use Rattle.std.specs.Prelude.{◌≡◌, ℕ, ◌+◌, ◌≤◌, ℤ, ◌≤ℤ◌, Bool, true, false, length, filter}
use Rattle.std.specs.List.{All}
use Rattle.std.specs.Str.{bytes_eq}
use Rattle.value_core.specs.Values.{Name, Row, Relation, most_rows}
use Rattle.log_times.specs.Logs.{statements}
use Rattle.log_times.specs.Told.{value_after}
use Rattle.log_times.specs.Turns.{without, exchanged, IsExact}
use Rattle.tree_core.specs.Relvars.{PlainRelvar, base, view, log, Entries, relvar_named}
use Rattle.meaning_core.specs.Logs.{base_rows, IsInStep}
use Rattle.relvar_logs.specs.Room.{log_count, rows_of_logs, are_each_few}

-- ---- the logs of a relvar

abbrev pub is_log_of : Name → PlainRelvar → Bool
is_log_of name (base value constraints) = false
is_log_of name (view t kind) = false
is_log_of name (log of side last value) = bytes_eq of name

abbrev pub logs_of : Name → Entries → Entries
logs_of name entries = filter (λ r. is_log_of name r.1) entries

-- ---- what is gained and lost

-- a log that tells of the n-th statement what its relvar had before it gained and lost these rows; it has room for them
pub record IsChanging (n : ℤ) (all : Entries) (come gone : Relation) (of : Name) (side : ℕ) (last : ℤ) (value : Relation) : Type 0 where
  pub last_is : last ≡ n
  pub changed : base_rows (relvar_named all of) ≡ exchanged (value_after side last value.rows) come.rows gone.rows
  pub exact : IsExact (value_after side last value.rows) come.rows gone.rows
  pub few : length value.rows + (length come.rows + length gone.rows) ≤ most_rows
  pub come_headed : come.heading ≡ without side value.heading
  pub gone_headed : gone.heading ≡ without side value.heading

-- of a log of the relvar of this name that; of another one that it tells its relvar's rows
abbrev pub IsChangeOf : ℤ → Entries → Name → Relation → Relation → PlainRelvar → Type 0
IsChangeOf n all name come gone (base value constraints) = Unit {0}
IsChangeOf n all name come gone (view t kind) = Unit {0}
IsChangeOf n all name come gone (log of side last value) =
    (bytes_eq of name ≡ true → IsChanging n all come gone of side last value) × (bytes_eq of name ≡ false → IsInStep n all (log of side last value))

abbrev pub AreChanging : ℤ → Entries → Name → Relation → Relation → Entries → Type 0
AreChanging n all name come gone entries = All (λ r. IsChangeOf n all name come gone r.1) entries

-- ---- room

-- each row of a log ended by its last statement
abbrev pub HasEnded : PlainRelvar → Type 0
HasEnded (base value constraints) = Unit {0}
HasEnded (view t kind) = Unit {0}
HasEnded (log of side last value) = All (λ (row : Row). (statements side row).1 ≤ℤ last) value.rows

-- The relvar of the name has one log at most, which has room for so many rows more. With them the rows of all logs leave so many of the most.
pub record HasRoomForChange (name : Name) (more most room : ℕ) (entries : Entries) : Type 0 where
  pub once : length (logs_of name entries) ≤ 1
  pub fits : rows_of_logs entries + more + room ≤ most
  pub few : All (λ r. is_log_of name r.1 ≡ true → log_count r.1 + more ≤ most_rows) entries
  pub each : are_each_few entries ≡ true
  pub ended : All (λ r. HasEnded r.1) entries
