use Rattle.tree_core.specs.Relvars.{read_relvars, view, stored}
use Rattle.tree_core.specs.Trees.{read_tree}
use Rattle.assign_core.specs.Room.{with_stored}
use Rattle.assign_core.proofs.NameLemmas.{new_name, relvars_differ}
use Rattle.assign_core.proofs.keeping.append_view.Goals as goal

pub append_relvar-requires : goal.append_relvar-requires
append_relvar-requires c =
    let t = read_tree c.args.tree in
    new_name c.args.relvars.now.list.entries c.args.name (view t stored) (relvars_differ (with_stored (read_relvars c.args.relvars.now) c.args.name t) c.requires.made)
