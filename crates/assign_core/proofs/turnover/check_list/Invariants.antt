use Rattle.std.proofs.Common.{◌≡◌, ◌≤◌, ◌+◌, None, take, drop}
use Rattle.assign_core.specs.Breaches.{first_of}
use Rattle.assign_core.specs.Costs.{looked_at}
use Rattle.assign_core.specs.Turnovers.{after_turnover, rows_after}
use Rattle.assign_core.proofs.turnover.check_list.Given as goal

abbrev pub invariant-loop-at : goal.invariant-loop-at
invariant-loop-at g l = record {
  kept : first_of (after_turnover l.turnover) l.name (rows_after l.turnover l.own.changes l.own.of.now.rows) 1 (take l.at l.list) ≡ None;
  cost : l.steps + looked_at (after_turnover l.turnover) (rows_after l.turnover l.own.changes l.own.of.now.rows) (drop l.at l.list) ≤ l.initial.steps + looked_at (after_turnover l.turnover) (rows_after l.turnover l.own.changes l.own.of.now.rows) l.list;
}
