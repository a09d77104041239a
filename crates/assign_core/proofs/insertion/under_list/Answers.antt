use Rattle.std.proofs.Common.{sym, ap, ap₂, ◌∙◌}
use Rattle.tree_core.specs.Trees.{infix_of, using, read_form, read_tree}
use Rattle.tree_core.specs.declared.tree.RelForm.{RelForm}
use Rattle.tree_core.specs.declared.tree.RelTree.{RelTree}
use Rattle.assign_core.proofs.insertion.under_list.Goals as goal

pub with_operand-requires : goal.with_operand-requires
with_operand-requires c =
    let t = c.args.assignment.now.tree in
    let part = c.args.part.now in
    let commalist = c.args.commalist.now in (
      part.place,
      part.heading,
      c.requires
          ∙ (ap (λ (f : RelForm). using t.place t.heading commalist (read_form part.place part.heading f)) c.in-Infix.is
          ∙ ap₂ (λ (l r : RelTree). using t.place t.heading commalist (infix_of part.place part.heading c.in-Infix.word (read_tree l) (read_tree r))) (sym c.deref.ensures) (sym c.deref-in-Infix.ensures)),
    )
