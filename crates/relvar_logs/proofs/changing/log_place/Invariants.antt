use Rattle.std.proofs.Common.{◌≡◌, ◌<◌, ℕ, false}
use Rattle.tree_core.specs.Relvars.{read_relvars}
use Rattle.relvar_logs.specs.Changes.{IsSoAt}
use Rattle.relvar_logs.specs.LoggedChanges.{is_log_of}
use Rattle.relvar_logs.proofs.changing.log_place.Given as goal

abbrev pub invariant-loop-at : goal.invariant-loop-at
invariant-loop-at l = (i : ℕ) → i < l.at → IsSoAt i (λ r. is_log_of l.name r ≡ false) (read_relvars l.relvars).relvars
