use Rattle.std.proofs.Common.{◌≡◌, map}
use Rattle.tree_core.specs.Relvars.{read_entry}
use Rattle.meaning_core.specs.Names.{each_after, each_in}
use Rattle.declaration_typing.specs.Nodes.{capped_count}
use Rattle.declaration_typing.proofs.nodes.counts.Given as goal

abbrev pub invariant-loop-name : goal.invariant-loop-name
invariant-loop-name l =
    (goal.iterator-loop-name).can_next l.name-iterator ×
    (goal.iterator-loop-name).is_finite l.name-iterator ×
    (each_after capped_count l.known.items (map read_entry l.name-iterator) ≡ each_in capped_count (map read_entry l.relvars.list.entries))
