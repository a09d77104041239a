use Rattle.std.proofs.Common.{ap, ◌∙◌}
use Rattle.tree_core.specs.Trees.{Tree, extend, read_sets}
use Rattle.assign_core.proofs.plain.with_items.Goals as goal

pub returns : goal.returns
returns c =
    let t = c.args.tree.now in
    let k = c.in_ok-portion.ensures in
    record {
      nodes = record { headed = t.heading; portion = k.nodes };
      listed = c.requires.none;
      portion = k.listed;
      is = c.requires.extended ∙ ap (λ (x : Tree). extend t.place t.heading (read_sets c.args.sets.now) x) k.is;
    }
