use Rattle.std.proofs.Common.{◌≡◌, map, take, Ok}
use Rattle.value_core.specs.Plain.{plain}
use Rattle.tree_core.specs.Trees.{read_sets}
use Rattle.meaning_core.specs.Rows.{values_on}
use Rattle.row_making.proofs.items.values_on.Given as goal

abbrev pub invariant-loop-set : goal.invariant-loop-set
invariant-loop-set l = values_on l.row (read_sets (take l.set-index l.sets)) ≡ Ok (map plain l.values.items)
