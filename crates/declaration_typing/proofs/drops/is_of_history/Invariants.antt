use Rattle.std.proofs.Common.{◌≡◌, map}
use Rattle.tree_core.specs.Relvars.{read_entry}
use Rattle.declaration_typing.specs.Drops.{is_of_history}
use Rattle.declaration_typing.proofs.drops.is_of_history.Given as goal

abbrev pub invariant-loop-relvar : goal.invariant-loop-relvar
invariant-loop-relvar l =
    (goal.iterator-loop-relvar).can_next l.relvar-iterator ×
    (goal.iterator-loop-relvar).is_finite l.relvar-iterator ×
    (is_of_history (map read_entry l.relvar-iterator) l.name ≡ is_of_history (map read_entry l.relvars.list.entries) l.name)
