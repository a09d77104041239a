-- Assignments beside logs that they leave.
--     has_log_of, is_one_logged      whether there is a log of a relvar, and of one of the targets
--     IsBeside      no target has a log, and the rows of all fit, whatever the sources give
--     FitsBeside      so many rows more fit in any case, in a relvar and its log
use Rattle.std.specs.Prelude.{◌≡◌, ℕ, ◌+◌, ◌*◌, ◌≤◌, Bool, true, false, List, length}
use Rattle.std.specs.List.{list_any}
use Rattle.value_core.specs.Limits.{most_rows, most_rows_in_all}
use Rattle.value_core.specs.Values.{Name}
use Rattle.tree_core.specs.Items.{PlainAssignment}
use Rattle.tree_core.specs.Relvars.{Entries, State}
use Rattle.meaning_core.specs.Logs.{turned_logs}
use Rattle.relvar_logs.specs.LoggedChanges.{is_log_of, HasRoomForChange}
use Rattle.relvar_logs.specs.Room.{are_each_few, rows_of_logs}
use Rattle.assign_core.specs.Breaches.{rows_of_all}

-- whether one of the entries is a log of the relvar of the name
abbrev pub has_log_of : Entries → Name → Bool
has_log_of entries name = list_any (λ r. is_log_of name r.1) entries

-- whether one of the targets has a log
abbrev pub is_one_logged : Entries → List PlainAssignment → Bool
is_one_logged entries list = list_any (λ a. has_log_of entries a.target) list

-- no target has a log, and there is room for all rows where each source gives as many as a relation may have
pub record IsBeside (s : State) (list : List PlainAssignment) : Type 0 where
  pub others : is_one_logged s.relvars list ≡ false
  pub few : rows_of_all s.relvars + length list * most_rows + rows_of_logs (turned_logs s.relvars) ≤ most_rows_in_all
  pub each : are_each_few (turned_logs s.relvars) ≡ true

-- so many rows more fit in any case: in the one log of the relvar of the name, if it has one, and beside all other rows
pub record FitsBeside (s : State) (name : Name) (more : ℕ) : Type 0 where
  pub room : ℕ
  pub logs : HasRoomForChange name more most_rows_in_all room s.relvars
  pub few : rows_of_all s.relvars + more ≤ room
