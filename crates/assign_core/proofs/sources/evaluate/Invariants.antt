use Rattle.std.proofs.Common.{◌≡◌, ◌≤◌, ◌+◌, [], map, take, drop, Ok}
use Rattle.tree_core.specs.Items.{read_assignment}
use Rattle.tree_core.specs.Relvars.{read_relvars}
use Rattle.assign_core.specs.Assignments.{evaluated}
use Rattle.relvar_logs.specs.Changes.{AreChanges, changed}
use Rattle.assign_core.specs.Costs.{later_costs, sources_cost}
use Rattle.assign_core.specs.Renewed.{targets_of, AreRenewed}
use Rattle.assign_core.proofs.sources.evaluate.Given as goal

abbrev pub invariant-loop-assignment : goal.invariant-loop-assignment
invariant-loop-assignment g l =
    let entries = (read_relvars l.relvars).relvars in
    record {
      changes : AreChanges l.changes.items entries;
      renewed : AreRenewed (targets_of [] (map read_assignment (take l.assignment-index l.list))) l.changes.items entries;
      value : evaluated entries (changed l.initial.changes.items entries) (map read_assignment (take l.assignment-index l.list)) ≡ Ok (changed l.changes.items entries);
      cost : l.steps + later_costs (targets_of [] (map read_assignment (take l.assignment-index l.list))) entries (changed l.changes.items entries) (map read_assignment (drop l.assignment-index l.list)) ≤ l.initial.steps + sources_cost entries (changed l.initial.changes.items entries) (map read_assignment l.list);
    }
