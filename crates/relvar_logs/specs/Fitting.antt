-- Entries among which a log is to be told of rows.
--     IsCounted      so many rows the entry has as a log
--     IsFitting      and so many more it may have, where it is the log of the relvar of a name
use Rattle.std.specs.Prelude.{◌≡◌, ℕ, ◌+◌, ◌≤◌, true}
use Rattle.value_core.specs.Values.{Name, most_rows}
use Rattle.tree_core.specs.Relvars.{PlainRelvar}
use Rattle.relvar_logs.specs.LoggedChanges.{is_log_of, HasEnded}
use Rattle.relvar_logs.specs.Room.{log_count}

pub record IsCounted (count : ℕ) (r : PlainRelvar) : Type 0 where
  pub is : count ≡ log_count r
  pub few : count ≤ most_rows
  pub ended : HasEnded r

pub record IsFitting (name : Name) (more count : ℕ) (r : PlainRelvar) : Type 0 where
  pub counted : IsCounted count r
  pub own : is_log_of name r ≡ true → count + more ≤ most_rows
