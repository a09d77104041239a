-- Room for the rows of base relvars, logs and stored views.
--     have_room      whether they have no more rows than they may have
--     unless_full      what is meant, unless they would have too many rows then
--     opened      the state with one log more, or why it is refused
--     with_stored, stored_in      the state with one stored view more, and why it is refused
--     HasStoredRoom      stored views have room beside base relvars
use Rattle.std.specs.Prelude.{◌≡◌, ◌+◌, ◌≤◌, nat_le, Bool, true, ◌&&◌, Result, Ok, Err, if◌then◌else◌}
use Rattle.point_core.specs.declared.fault.Code.TheVariants.{E46}
use Rattle.point_core.specs.Faults.{OrFault}
use Rattle.value_core.specs.Limits.{most_rows_in_all}
use Rattle.value_core.specs.declared.refuse.Refuse.{Refuse}
use Rattle.value_core.specs.declared.refuse.Refuse.TheVariants.{At, Plain}
use Rattle.value_core.specs.Values.{Name}
use Rattle.tree_core.specs.declared.declaration.LogData.{LogData}
use Rattle.tree_core.specs.Relvars.{view, stored, Entries, State}
use Rattle.tree_core.specs.Trees.{Tree}
use Rattle.meaning_core.specs.Declarations.{with_log, with_relvar}
use Rattle.meaning_core.specs.Logs.{turned_logs}
use Rattle.meaning_core.specs.Meanings.{RowsMeant, meaning_in}
use Rattle.relvar_logs.specs.Room.{are_each_few, rows_of_logs}
use Rattle.stored_views.specs.Stored.{are_stored_few, rows_of_stored}
use Rattle.assign_core.specs.Breaches.{rows_of_all}

-- whether base relvars, the logs after the statement, and stored views have at most 200,000 rows together, and each log and each stored view
-- at most 100,000
abbrev pub have_room : Entries → Bool
have_room new =
    nat_le (rows_of_all new + rows_of_logs (turned_logs new) + rows_of_stored new) most_rows_in_all && (are_each_few (turned_logs new) && are_stored_few new)

-- what is meant, unless there would be too many rows with the statement that gives the relvars these values
abbrev pub unless_full : OrFault Entries → Result Entries Refuse → Result Entries Refuse
unless_full (Ok new) meant = if have_room new then meant else Err (Plain E46)
unless_full (Err fault) meant = meant

-- ---- one more

-- the state, unless there is no room for its rows
abbrev pub if_room : State → Result State Refuse
if_room s = if have_room s.relvars then Ok s else Err (Plain E46)

-- the state with a log that begins with the statement
abbrev pub opened : State → LogData → Result State Refuse
opened s d = if_room (with_log s d)

abbrev pub with_stored : State → Name → Tree → State
with_stored s name t = with_relvar s name (view t stored)

-- unless the expression means a fault
abbrev pub stored_if : RowsMeant → State → Name → Tree → Result State Refuse
stored_if (Ok rows) s name t = if_room (with_stored s name t)
stored_if (Err fault) s name t = Err (At fault)

-- the state with a stored view that has this expression
abbrev pub stored_in : State → Name → Tree → Result State Refuse
stored_in s name t = stored_if (meaning_in s.relvars t) s name t

-- ---- what a database keeps

-- the rows of stored views have room beside those of base relvars, and none has too many
pub record HasStoredRoom (s : State) : Type 0 where
  pub few : rows_of_all s.relvars + rows_of_stored s.relvars ≤ most_rows_in_all
  pub each : are_stored_few s.relvars ≡ true
