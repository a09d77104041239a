use Rattle.tree_core.specs.Relvars.{read_relvars}
use Rattle.assign_core.proofs.ItemLemmas.{item-typed}
use Rattle.assign_core.proofs.performing.assignments_of_item.Goals as goal

pub returns-clause-typed : goal.returns-clause-typed
returns-clause-typed c = item-typed (read_relvars c.args.relvars.now) c.args.item.now c.meant.result c.requires.well_made c.requires.typed c.meant.ensures
