use Rattle.std.proofs.Common.{◌≡◌, map}
use Rattle.tree_core.specs.Relvars.{read_entry}
use Rattle.tree_core.specs.Uses.{is_one_of}
use Rattle.declaration_typing.specs.Drops.{relvars_use}
use Rattle.declaration_typing.proofs.drops.relvars_use.Given as goal

abbrev pub invariant-loop-other : goal.invariant-loop-other
invariant-loop-other l =
    (goal.iterator-loop-other).can_next l.other-iterator ×
    (goal.iterator-loop-other).is_finite l.other-iterator ×
    (relvars_use (map read_entry l.other-iterator) (is_one_of (map (λ n. n.now) l.names)) ≡ relvars_use (map read_entry l.relvars.list.entries) (is_one_of (map (λ n. n.now) l.names)))
