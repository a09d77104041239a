use Rattle.std.proofs.Common.{◌≡◌, map, drop}
use Rattle.tree_core.specs.Items.{read_assignment}
use Rattle.tree_core.specs.Relvars.{read_relvars}
use Rattle.assign_core.specs.Beside.{is_one_logged}
use Rattle.assign_core.proofs.beside.is_one_logged.Given as goal

abbrev pub invariant-loop-assignment : goal.invariant-loop-assignment
invariant-loop-assignment l =
    is_one_logged (read_relvars l.relvars).relvars (map read_assignment (drop l.assignment-index l.list)) ≡ is_one_logged (read_relvars l.relvars).relvars (map read_assignment l.list)
