use Rattle.std.proofs.Common.{sym, ap, ap₂, ◌∙◌}
use Rattle.tree_core.specs.declared.tree.InfixWord.TheVariants.{Union}
use Rattle.tree_core.specs.Trees.{Tree, infix_of, using}
use Rattle.meaning_core.proofs.MadeLemmas.{same_name}
use Rattle.assign_core.proofs.revision.with_parts.Goals as goal

pub returns-then-are_same-2-clause-is : goal.returns-then-are_same-2-clause-is
returns-then-are_same-2-clause-is c =
    let a = c.args.assignment.now in
    let t = a.tree in
    let part = c.args.part.now in
    let commalist = c.args.commalist.now in
    let k = c.in_ok-kept.ensures in
    let x = c.in_ok-changed.ensures in
    record {
      nodes = record { at = part.place; headed = part.heading; kept = k.nodes; changed = x.nodes };
      alike = record {
        kept = same_name c.in_ok-kept.kept.commalist.now commalist (sym c.are_same.ensures ∙ c.if-are_same.true);
        changed = same_name c.in_ok-changed.changed.commalist.now commalist (sym c.are_same-then-are_same.ensures ∙ c.if-are_same-2.true);
        portion = x.same;
      };
      negates = c.in_ok-gone.ensures;
      is =
          ap (λ (z : Tree). record { target = a.target; tree = z })
          (c.requires ∙ ap₂ (λ (l r : Tree). using t.place t.heading commalist (infix_of part.place part.heading Union l r)) k.is x.is);
    }
