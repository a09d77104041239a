use Rattle.std.proofs.Common.{◌≡◌, ◌≤◌, ◌+◌, None, take, drop}
use Rattle.assign_core.specs.Breaches.{first_among}
use Rattle.assign_core.specs.Costs.{looked_at_all}
use Rattle.assign_core.specs.Turnovers.{after_turnover}
use Rattle.assign_core.proofs.turnover.check_turnover.Given as goal

abbrev pub invariant-loop-at : goal.invariant-loop-at
invariant-loop-at g l = record {
  kept : first_among (after_turnover l.turnover) (take l.at (after_turnover l.turnover)) ≡ None;
  cost : l.steps + looked_at_all (after_turnover l.turnover) (drop l.at (after_turnover l.turnover)) ≤ l.initial.steps + looked_at_all (after_turnover l.turnover) (after_turnover l.turnover);
}
