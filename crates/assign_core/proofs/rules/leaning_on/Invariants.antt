use Rattle.std.proofs.Common.{◌≡◌, ◌++◌, map}
use Rattle.tree_core.specs.Relvars.{read_rule}
use Rattle.assign_core.specs.Leanings.{leaning}
use Rattle.assign_core.proofs.rules.leaning_on.Given as goal

abbrev pub invariant-loop-test : goal.invariant-loop-test
invariant-loop-test l =
    (goal.iterator-loop-test).can_next l.test-iterator ×
    (goal.iterator-loop-test).is_finite l.test-iterator ×
    (l.list.items ++ leaning (map (λ n. n.now) l.names) (map read_rule l.test-iterator) ≡ leaning (map (λ n. n.now) l.names) (map read_rule l.relvars.rules.entries))
