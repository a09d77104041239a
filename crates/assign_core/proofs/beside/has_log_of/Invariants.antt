use Rattle.std.proofs.Common.{◌≡◌, map}
use Rattle.tree_core.specs.Relvars.{read_entry}
use Rattle.assign_core.specs.Beside.{has_log_of}
use Rattle.assign_core.proofs.beside.has_log_of.Given as goal

abbrev pub invariant-loop-relvar : goal.invariant-loop-relvar
invariant-loop-relvar l =
    (goal.iterator-loop-relvar).can_next l.relvar-iterator ×
    (goal.iterator-loop-relvar).is_finite l.relvar-iterator ×
    (has_log_of (map read_entry l.relvar-iterator) l.name ≡ has_log_of (map read_entry l.relvars.list.entries) l.name)
