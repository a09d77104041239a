use Rattle.std.proofs.Common.{◌≡◌, map}
use Rattle.tree_core.specs.Relvars.{read_entry}
use Rattle.stored_views.specs.Stored.{has_stored}
use Rattle.stored_views.proofs.kinds.has_stored.Given as goal

abbrev pub invariant-loop-relvar : goal.invariant-loop-relvar
invariant-loop-relvar l =
    (goal.iterator-loop-relvar).can_next l.relvar-iterator ×
    (goal.iterator-loop-relvar).is_finite l.relvar-iterator ×
    (has_stored (map read_entry l.relvar-iterator) ≡ has_stored (map read_entry l.relvars.list.entries))
