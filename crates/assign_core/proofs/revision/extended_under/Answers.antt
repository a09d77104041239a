use Rattle.std.proofs.Common.{sym, ap, ◌∙◌}
use Rattle.tree_core.specs.Trees.{extend, using, read_form, read_sets, read_tree}
use Rattle.tree_core.specs.declared.tree.RelForm.{RelForm}
use Rattle.tree_core.specs.declared.tree.RelTree.{RelTree}
use Rattle.assign_core.proofs.revision.extended_under.Goals as goal

pub with_sets-requires : goal.with_sets-requires
with_sets-requires c =
    let t = c.args.tree.now in
    let part = c.args.part.now in
    let commalist = c.args.commalist.now in
    c.requires
    ∙ (ap (λ (f : RelForm). using t.place t.heading commalist (read_form part.place part.heading f)) c.in-Extend.is
    ∙ ap (λ (x : RelTree). using t.place t.heading commalist (extend part.place part.heading (read_sets c.in-Extend.sets) (read_tree x))) (sym c.deref.ensures))
