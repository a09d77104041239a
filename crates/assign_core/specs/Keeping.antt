-- Stored views that are declared.
--     has_room_beside      so many rows of one more fit
--     placed_behind      the stored rows with those of one more view
--     AreStoredIn      what a database keeps of stored views
use Rattle.std.specs.Prelude.{ℕ, ◌+◌, ◌-◌, ◌≤◌, nat_le, Bool, ◌&&◌, List, [], ◌∷◌, ◌++◌, length, replicate, Option, Some, None}
use Rattle.value_core.specs.Limits.{most_rows_in_all}
use Rattle.value_core.specs.Values.{Relation}
use Rattle.tree_core.specs.Relvars.{Entries, State}
use Rattle.meaning_core.specs.Logs.{turned_logs}
use Rattle.meaning_core.specs.StoredRows.{AreStored}
use Rattle.relvar_logs.specs.Room.{are_each_few, rows_of_logs}
use Rattle.stored_views.specs.Stored.{rows_of_stored}
use Rattle.assign_core.specs.Breaches.{rows_of_all}
use Rattle.assign_core.specs.Room.{HasStoredRoom}

-- whether so many rows more fit beside those of base relvars, logs and stored views
abbrev pub has_room_beside : ℕ → Entries → Bool
has_room_beside more es = nat_le (rows_of_all es + rows_of_logs (turned_logs es) + (rows_of_stored es + more)) most_rows_in_all && are_each_few (turned_logs es)

-- the stored rows, with these at the place behind so many entries
abbrev pub placed_behind : ℕ → Relation → List (Option Relation) → List (Option Relation)
placed_behind count rows stored = stored ++ (replicate (count - length stored) None ++ Some rows ∷ [])

-- each stored view has its rows, which have room beside those of base relvars; and there are no more places than entries
pub record AreStoredIn (s : State) (stored : List (Option Relation)) : Type 0 where
  pub rows : AreStored s.relvars stored
  pub room : HasStoredRoom s
  pub places : length stored ≤ length s.relvars
