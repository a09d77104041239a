use Rattle.std.proofs.Common.{◌≡◌, ◌++◌, drop, length}
use Rattle.assign_core.specs.Exchanges.{values_from}
use Rattle.assign_core.proofs.admitting.as_ready.Given as goal

abbrev pub invariant-loop-at : goal.invariant-loop-at
invariant-loop-at l = record {
  made : l.list.items ++ values_from l.at (drop l.at l.changes.items) ≡ values_from 0 l.initial.changes.items;
  long : length l.changes.items ≡ length l.initial.changes.items;
}
