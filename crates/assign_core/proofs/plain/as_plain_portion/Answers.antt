use Rattle.std.proofs.Common.{sym, ap, ◌∙◌}
use Rattle.scalar_core.specs.Expressions.{read}
use Rattle.tree_core.specs.Trees.{Tree, restrict, read_form, read_tree}
use Rattle.tree_core.specs.declared.tree.RelTree.{RelTree}
use Rattle.assign_core.proofs.plain.as_plain_portion.Goals as goal

pub returns-in-Restrict : goal.returns-in-Restrict
returns-in-Restrict c =
    let t = c.args.tree.now in
    let e = read c.in-Restrict.condition in
    let name = c.deref.result.now in
    record {
      nodes = record { headed = t.heading; from = name.place; given = name.heading };
      listed = c.requires;
      is =
          ap (read_form t.place t.heading) c.in-Restrict.is
          ∙ (ap (λ (x : RelTree). restrict t.place t.heading e (read_tree x)) (sym c.deref.ensures)
          ∙ ap (λ (x : Tree). restrict t.place t.heading e x) (c.is_target.ensures c.if-is_target.true));
    }
