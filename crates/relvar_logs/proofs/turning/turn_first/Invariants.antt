use Rattle.std.proofs.Common.{◌≡◌, ◌<◌, ◌≤◌, ℕ, drop, map}
use Rattle.tree_core.specs.Relvars.{read_entry}
use Rattle.meaning_core.specs.Logs.{IsInStep}
use Rattle.relvar_logs.specs.Changes.{IsSoAt}
use Rattle.relvar_logs.specs.Turning.{turned_first}
use Rattle.relvar_logs.proofs.turning.turn_first.Given as goal

abbrev pub ghost-turn_at : goal.ghost-turn_at
ghost-turn_at g a = g.all

-- the logs before the place are turned, and what stands ready from it on is as it was
abbrev pub invariant-loop-at : goal.invariant-loop-at
invariant-loop-at g l = record {
  list : map read_entry l.relvars.list.entries ≡ turned_first g.all l.at (map read_entry l.initial.relvars.list.entries);
  step : (i : ℕ) → i < l.at → IsSoAt i (IsInStep l.number g.all) (map read_entry l.relvars.list.entries);
  next : drop l.at l.next ≡ drop l.at l.initial.next;
  within : l.at ≤ l.count;
  ordinals : l.relvars.ordinals ≡ l.initial.relvars.ordinals;
  rules : l.relvars.rules ≡ l.initial.relvars.rules;
  accepted : l.relvars.accepted ≡ l.initial.relvars.accepted;
}
