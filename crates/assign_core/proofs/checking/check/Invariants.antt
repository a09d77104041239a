use Rattle.std.proofs.Common.{◌≡◌, ◌≤◌, ◌+◌, None, take, drop}
use Rattle.assign_core.specs.Breaches.{first_among}
use Rattle.assign_core.specs.Checks.{after}
use Rattle.assign_core.specs.Costs.{looked_at_all}
use Rattle.assign_core.proofs.checking.check.Given as goal

abbrev pub invariant-loop-at : goal.invariant-loop-at
invariant-loop-at g l = record {
  kept : first_among (after l.new) (take l.at (after l.new)) ≡ None;
  cost : l.steps + looked_at_all (after l.new) (drop l.at (after l.new)) ≤ l.initial.steps + looked_at_all (after l.new) (after l.new);
}
