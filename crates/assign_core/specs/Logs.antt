-- Logs beside what a statement changes.
--     have_log_room      whether base relvars and logs have no more rows than they may have
--     if_log_room, unless_logs_full      what is meant, unless the logs would have too many rows then
--     IsLogRoomFor      there is room for all rows
--     counted_if      the state in which a statement is counted, if it is done
--     KeepsLogs, IsUnstored      a change that leaves the logs and the stored views, and one after which there is none of these
use Rattle.std.specs.Prelude.{◌≡◌, ◌+◌, nat_le, Bool, true, false, ◌&&◌, length, Result, Ok, Err, if◌then◌else◌}
use Rattle.point_core.specs.declared.fault.Code.TheVariants.{E46}
use Rattle.point_core.specs.Faults.{OrFault}
use Rattle.value_core.specs.Limits.{most_rows_in_all}
use Rattle.value_core.specs.declared.refuse.Refuse.{Refuse}
use Rattle.value_core.specs.declared.refuse.Refuse.TheVariants.{Plain}
use Rattle.tree_core.specs.Relvars.{Entries, State}
use Rattle.meaning_core.specs.Declarations.{counted}
use Rattle.meaning_core.specs.Logs.{has_log, turned_logs}
use Rattle.relvar_logs.specs.Room.{are_each_few, rows_of_logs}
use Rattle.stored_views.specs.Stored.{has_stored}
use Rattle.assign_core.specs.Breaches.{rows_of_all}

-- ---- room

-- whether base relvars and logs have at most 200,000 rows together, and each log at most 100,000
abbrev pub have_log_room : Entries → Bool
have_log_room entries = nat_le (rows_of_all entries + rows_of_logs entries) most_rows_in_all && are_each_few entries

-- the relvars that a statement leaves, unless the logs would have too many rows with it
abbrev pub if_log_room : Entries → Result Entries Refuse
if_log_room new = if have_log_room (turned_logs new) then Ok new else Err (Plain E46)

-- what is meant, unless the logs would have too many rows with the statement that gives the relvars these values
abbrev pub unless_logs_full : OrFault Entries → Result Entries Refuse → Result Entries Refuse
unless_logs_full (Ok new) meant = if have_log_room (turned_logs new) then meant else Err (Plain E46)
unless_logs_full (Err fault) meant = meant

-- whatever is meant is so, since there is room
abbrev pub IsLogRoomFor : OrFault Entries → Type 0
IsLogRoomFor v = (meant : Result Entries Refuse) → unless_logs_full v meant ≡ meant

-- ---- counting

-- the state in which a statement is counted, if it is done
abbrev pub counted_if : Bool → State → State
counted_if true s = counted s
counted_if false s = s

-- whether rows are brought
abbrev pub is_brought : {E : Type 0} → Result Bool E → Bool
is_brought (Ok b) = b
is_brought (Err e) = false

-- a change that leaves the logs, the stored views, how many statements were accepted, and how many entries there are
abbrev pub KeepsLogs : State → State → Type 0
KeepsLogs old new =
    (has_log new.relvars ≡ has_log old.relvars) × (new.accepted ≡ old.accepted) × (has_stored new.relvars ≡ has_stored old.relvars)
    × (length new.relvars ≡ length old.relvars)

-- a change after which there is no stored view, and there are as many entries
abbrev pub IsUnstored : State → State → Type 0
IsUnstored old new = (has_stored new.relvars ≡ false) × (length new.relvars ≡ length old.relvars)
