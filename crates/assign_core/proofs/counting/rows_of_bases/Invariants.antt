use Rattle.std.proofs.Common.{◌≡◌, ◌+◌, map}
use Rattle.tree_core.specs.Relvars.{read_entry}
use Rattle.assign_core.specs.Breaches.{rows_of_all}
use Rattle.assign_core.proofs.counting.rows_of_bases.Given as goal

abbrev pub invariant-loop-relvar : goal.invariant-loop-relvar
invariant-loop-relvar l =
    (goal.iterator-loop-relvar).can_next l.relvar-iterator ×
    (goal.iterator-loop-relvar).is_finite l.relvar-iterator ×
    (l.count + rows_of_all (map read_entry l.relvar-iterator) ≡ rows_of_all (map read_entry l.relvars.list.entries))
