use Rattle.std.proofs.Common.{sym, ap, ◌∙◌}
use Rattle.scalar_core.specs.Expressions.{read}
use Rattle.tree_core.specs.Trees.{Tree, restrict, using, read_form, read_tree}
use Rattle.tree_core.specs.declared.tree.RelForm.{RelForm}
use Rattle.tree_core.specs.declared.tree.RelTree.{RelTree}
use Rattle.assign_core.proofs.portion.restricted_under.Goals as goal

pub returns-in-Restrict : goal.returns-in-Restrict
returns-in-Restrict c =
    let t = c.args.tree.now in
    let part = c.args.part.now in
    let commalist = c.args.commalist.now in
    let e = read c.in-Restrict.condition in
    let name = c.deref.result.now in
    record {
      nodes = record { heading = t.heading; at = part.place; headed = part.heading; from = name.place; given = name.heading };
      is =
          c.requires
          ∙ (ap (λ (f : RelForm). using t.place t.heading commalist (read_form part.place part.heading f)) c.in-Restrict.is
          ∙ (ap (λ (x : RelTree). using t.place t.heading commalist (restrict part.place part.heading e (read_tree x))) (sym c.deref.ensures)
          ∙ ap (λ (x : Tree). using t.place t.heading commalist (restrict part.place part.heading e x)) (c.is_target.ensures c.if-is_target.true)));
    }
