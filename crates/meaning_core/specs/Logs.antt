-- Logs in a state, and what an accepted statement makes of them.
--     is_log, has_log      whether an entry is a log, and whether there is one
--     base_rows      the rows of a base relvar
--     turned_relvar, turned_logs      a log, and all logs, after one statement more
--     IsInStep, AreInStep      a log, and each, tells its relvar's rows after the last accepted statement
--     new_log      a log before its first statement
--     over_log      whether a name stands for a log, or for a view over one
use Rattle.std.specs.Prelude.{◌≡◌, ℤ, pos, ◌+ℤ◌, Bool, true, false, List, [], map, Option, Some, None}
use Rattle.std.specs.List.{list_any, All}
use Rattle.log_times.specs.Logs.{moved}
use Rattle.log_times.specs.Told.{value_after}
use Rattle.log_times.specs.Turns.{log_heading, side_of}
use Rattle.value_core.specs.Values.{Name, Row, Heading}
use Rattle.tree_core.specs.declared.declaration.LogData.{LogData}
use Rattle.tree_core.specs.Relvars.{PlainRelvar, base, view, log, Entries, relvar_named}
use Rattle.tree_core.specs.Uses.{names_any}
use Rattle.meaning_core.specs.Names.{found, each_in}

abbrev pub is_log : PlainRelvar → Bool
is_log (base value constraints) = false
is_log (view t kind) = false
is_log (log of side last value) = true

abbrev pub has_log : Entries → Bool
has_log entries = list_any (λ r. is_log r.1) entries

-- the rows of a base relvar
abbrev pub base_rows : Option PlainRelvar → List Row
base_rows None = []
base_rows (Some (base value constraints)) = value.rows
base_rows (Some (view t kind)) = []
base_rows (Some (log of side last value)) = []

-- ---- one statement more

-- a log after one statement more, after which these are the relvars
abbrev pub turned_relvar : Entries → PlainRelvar → PlainRelvar
turned_relvar entries (base value constraints) = base value constraints
turned_relvar entries (view t kind) = view t kind
turned_relvar entries (log of side last value) =
    log of side (last +ℤ pos 1) (record value { rows = moved side (last +ℤ pos 1) (base_rows (relvar_named entries of)) value.rows })

abbrev pub turned_logs : Entries → Entries
turned_logs entries = map (λ r. (r.0, turned_relvar entries r.1)) entries

-- ---- what a log tells

-- a log's last statement is this one, and it tells its relvar's rows after it
abbrev pub IsInStep : ℤ → Entries → PlainRelvar → Type 0
IsInStep n entries (base value constraints) = Unit {0}
IsInStep n entries (view t kind) = Unit {0}
IsInStep n entries (log of side last value) = (last ≡ n) × (value_after side last value.rows ≡ base_rows (relvar_named entries of))

abbrev pub AreInStep : ℤ → Entries → Type 0
AreInStep n entries = All (λ r. IsInStep n entries r.1) entries

-- ---- a new log

-- the log of a relvar with this heading, after the statement before its first
abbrev pub new_log : Heading → ℤ → LogData → PlainRelvar
new_log heading last d = log d.of (side_of heading d.attribute) last (record { heading = log_heading heading d.attribute; rows = [] })

-- ---- what turns on a log

-- whether the relvar is a log or a view that names one, where it is known of the names before it whether they stand for such
abbrev pub is_over_log : List (Name × Bool) → PlainRelvar → Bool
is_over_log known (base value constraints) = false
is_over_log known (view t kind) = names_any (found false known) t
is_over_log known (log of side last value) = true

-- whether the name stands for a log, or for a view over one
abbrev pub over_log : Entries → Name → Bool
over_log entries name = found false (each_in is_over_log entries) name
