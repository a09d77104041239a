use Rattle.std.proofs.Common.{◌≡◌, ◌+◌, take}
use Rattle.tree_core.specs.Relvars.{read_relvars}
use Rattle.assign_core.specs.Breaches.{rows_of_all}
use Rattle.relvar_logs.specs.Changes.{changed}
use Rattle.assign_core.proofs.counting.are_few.Given as goal

abbrev pub invariant-loop-at : goal.invariant-loop-at
invariant-loop-at l = l.room + rows_of_all (take l.at (changed l.changes (read_relvars l.relvars).relvars)) ≡ l.initial.most
