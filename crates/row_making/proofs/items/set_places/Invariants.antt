use Rattle.std.proofs.Common.{◌≡◌, ◌++◌, take}
use Rattle.relation_core.specs.Agreement.{names_of}
use Rattle.tree_core.specs.Trees.{read_sets}
use Rattle.meaning_core.specs.Places.{places}
use Rattle.meaning_core.specs.Rows.{set_names}
use Rattle.row_making.proofs.items.set_places.Given as goal

abbrev pub invariant-loop-attribute : goal.invariant-loop-attribute
invariant-loop-attribute l = l.list.items ≡ places (set_names (read_sets l.sets) ++ names_of l.from) (take l.attribute-index l.to)
