use Rattle.std.proofs.Common.{◌≡◌, map}
use Rattle.tree_core.specs.Relvars.{read_rule}
use Rattle.tree_core.specs.Uses.{is_one_of}
use Rattle.declaration_typing.specs.Drops.{rules_use}
use Rattle.declaration_typing.proofs.drops.rules_use.Given as goal

abbrev pub invariant-loop-test : goal.invariant-loop-test
invariant-loop-test l =
    (goal.iterator-loop-test).can_next l.test-iterator ×
    (goal.iterator-loop-test).is_finite l.test-iterator ×
    (rules_use (map read_rule l.test-iterator) (is_one_of (map (λ n. n.now) l.names)) ≡ rules_use (map read_rule l.relvars.rules.entries) (is_one_of (map (λ n. n.now) l.names)))
