use Rattle.std.proofs.Common.{◌≡◌, ◌≤◌, length, map}
use Rattle.tree_core.specs.Relvars.{Entries, read_entry}
use Rattle.relvar_logs.specs.Passed.{ArePassed}
use Rattle.relvar_logs.proofs.changing.bring_all.Given as goal

-- the logs before the place are brought to the statement
abbrev pub invariant-loop-at : goal.invariant-loop-at
invariant-loop-at l = record {
  passed : (es : Entries) → ArePassed l.number es 0 es (map read_entry l.initial.relvars.list.entries) → ArePassed l.number es l.at es (map read_entry l.relvars.list.entries);
  length : length l.relvars.list.entries ≡ length l.initial.relvars.list.entries;
  within : l.at ≤ l.count;
  ordinals : l.relvars.ordinals ≡ l.initial.relvars.ordinals;
  rules : l.relvars.rules ≡ l.initial.relvars.rules;
  accepted : l.relvars.accepted ≡ l.initial.relvars.accepted;
}
