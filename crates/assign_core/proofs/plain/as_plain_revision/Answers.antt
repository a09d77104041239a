use Rattle.std.proofs.Common.{sym, ap, ap₂, ◌∙◌}
use Rattle.tree_core.specs.Trees.{infix_of, read_form, read_tree}
use Rattle.tree_core.specs.declared.tree.RelTree.{RelTree}
use Rattle.assign_core.proofs.plain.as_plain_revision.Goals as goal

pub joined_by-requires-clause-joined : goal.joined_by-requires-clause-joined
joined_by-requires-clause-joined c =
    let t = c.args.assignment.now.tree in
    ap (read_form t.place t.heading) c.in-Infix.is
    ∙ ap₂ (λ (l r : RelTree). infix_of t.place t.heading c.in-Infix.word (read_tree l) (read_tree r)) (sym c.deref.ensures) (sym c.deref-in-Infix.ensures)
