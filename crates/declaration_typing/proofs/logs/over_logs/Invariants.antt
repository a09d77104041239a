use Rattle.std.proofs.Common.{◌≡◌, map}
use Rattle.tree_core.specs.Relvars.{read_entry}
use Rattle.declaration_typing.specs.Logs.{names_behind, names_over}
use Rattle.declaration_typing.proofs.logs.over_logs.Given as goal

abbrev pub invariant-loop-name : goal.invariant-loop-name
invariant-loop-name l =
    (goal.iterator-loop-name).can_next l.name-iterator ×
    (goal.iterator-loop-name).is_finite l.name-iterator ×
    (names_behind (map (λ n. n.now) l.names.items) (map read_entry l.name-iterator) ≡ names_over (map read_entry l.relvars.list.entries))
