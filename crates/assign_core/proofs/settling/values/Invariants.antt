use Rattle.std.proofs.Common.{◌≡◌, take, length}
use Rattle.tree_core.specs.Relvars.{read_relvars}
use Rattle.assign_core.specs.Exchanges.{exchanged_by, with_ready, ArePrepared, AreValues}
use Rattle.assign_core.proofs.settling.values.Given as goal

abbrev pub invariant-loop-at : goal.invariant-loop-at
invariant-loop-at l = record {
  changes : ArePrepared l.changes.items (read_relvars l.relvars).relvars;
  ready : exchanged_by l.changes.items (read_relvars l.relvars).relvars ≡ with_ready l.fn.ready (read_relvars l.relvars).relvars;
  values : AreValues (take l.at l.changes.items);
  long : length l.changes.items ≡ length l.initial.changes.items;
}
