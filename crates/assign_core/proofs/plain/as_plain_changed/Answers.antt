use Rattle.std.proofs.Common.{sym, ap, ◌∙◌}
use Rattle.tree_core.specs.Trees.{extend, read_form, read_sets, read_tree}
use Rattle.tree_core.specs.declared.tree.RelTree.{RelTree}
use Rattle.assign_core.proofs.plain.as_plain_changed.Goals as goal

pub with_items-requires-clause-extended : goal.with_items-requires-clause-extended
with_items-requires-clause-extended c =
    let t = c.args.tree.now in
    ap (read_form t.place t.heading) c.in-Extend.is
    ∙ ap (λ (x : RelTree). extend t.place t.heading (read_sets c.in-Extend.sets) (read_tree x)) (sym c.deref.ensures)
