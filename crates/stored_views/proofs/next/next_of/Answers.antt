use Rattle.std.proofs.Common.{◌∙◌, sym}
use Rattle.tree_core.specs.Relvars.{read_relvars}
use Rattle.tree_core.specs.Trees.{read_tree}
use Rattle.stored_views.proofs.TouchLemmas.{value-untouched}
use Rattle.stored_views.proofs.next.next_of.Goals as goal

pub returns-then-not-is_touched-clause-next : goal.returns-then-not-is_touched-clause-next
returns-then-not-is_touched-clause-next g c =
    value-untouched (read_relvars c.args.relvars.now) c.args.changes.now (read_tree c.args.tree.now) c.args.view.now c.requires.stored c.requires.changes (sym c.is_touched.ensures ∙ c.if-not-is_touched.true) c.requires.view
