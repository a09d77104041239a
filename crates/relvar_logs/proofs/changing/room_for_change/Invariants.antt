use Rattle.std.proofs.Common.{◌<◌, ◌≤◌, ◌+◌, ℕ, length, take}
use Rattle.tree_core.specs.Relvars.{read_relvars}
use Rattle.relvar_logs.specs.Changes.{IsSoAt}
use Rattle.relvar_logs.specs.LoggedChanges.{logs_of}
use Rattle.relvar_logs.specs.Room.{rows_of_logs}
use Rattle.relvar_logs.proofs.FittingLemmas.{IsFit}
use Rattle.relvar_logs.proofs.changing.room_for_change.Given as goal

-- the entries before the place are counted
abbrev pub invariant-loop-at : goal.invariant-loop-at
invariant-loop-at l =
    let es = (read_relvars l.relvars).relvars in
    record {
      rows : rows_of_logs (take l.at es) + l.more + l.room ≤ l.most;
      logs : length (logs_of l.name (take l.at es)) ≤ l.own;
      one : l.own ≤ 1;
      fit : (i : ℕ) → i < l.at → IsSoAt i (IsFit l.name l.more) es;
    }
