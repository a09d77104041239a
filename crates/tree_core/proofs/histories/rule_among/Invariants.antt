use Rattle.std.proofs.Common.{◌≡◌, drop}
use Rattle.tree_core.specs.Relvars.{rule_among}
use Rattle.tree_core.proofs.histories.rule_among.Given as goal

abbrev pub invariant-loop-constraint : goal.invariant-loop-constraint
invariant-loop-constraint l = rule_among (drop l.constraint-index l.constraints) ≡ rule_among l.constraints
