use Rattle.std.proofs.Common.{◌≡◌, ◌≤◌, ◌+◌, drop}
use Rattle.tree_core.specs.Relvars.{read_relvars}
use Rattle.assign_core.specs.Breaches.{first_rule_broken}
use Rattle.assign_core.specs.Costs.{rules_cost}
use Rattle.assign_core.proofs.rules.check_rules.Given as goal

abbrev pub invariant-loop-at : goal.invariant-loop-at
invariant-loop-at g l = record {
  told : first_rule_broken (read_relvars l.relvars).relvars (drop l.at (read_relvars l.relvars).rules) ≡ first_rule_broken (read_relvars l.relvars).relvars (read_relvars l.relvars).rules;
  cost : l.steps + rules_cost (read_relvars l.relvars).relvars (drop l.at (read_relvars l.relvars).rules) ≤ l.initial.steps + rules_cost (read_relvars l.relvars).relvars (read_relvars l.relvars).rules;
}
