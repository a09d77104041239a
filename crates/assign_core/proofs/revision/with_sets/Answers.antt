use Rattle.std.proofs.Common.{sym, ap, ◌∙◌}
use Rattle.tree_core.specs.Trees.{Tree, extend, using, read_sets}
use Rattle.meaning_core.proofs.MadeLemmas.{same_name}
use Rattle.assign_core.proofs.revision.with_sets.Goals as goal

pub returns-then-are_same : goal.returns-then-are_same
returns-then-are_same c =
    let t = c.args.tree.now in
    let part = c.args.part.now in
    let commalist = c.args.commalist.now in
    let k = c.in_ok-portion.ensures in
    record {
      nodes = record { heading = t.heading; at = part.place; headed = part.heading; portion = k.nodes };
      same = same_name c.in_ok-portion.portion.commalist.now commalist (sym c.are_same.ensures ∙ c.if-are_same.true);
      is = c.requires ∙ ap (λ (x : Tree). using t.place t.heading commalist (extend part.place part.heading (read_sets c.args.sets.now) x)) k.is;
    }
