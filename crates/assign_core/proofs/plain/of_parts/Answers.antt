use Rattle.std.proofs.Common.{ap}
use Rattle.tree_core.specs.Trees.{Tree, read_tree}
use Rattle.assign_core.proofs.plain.of_parts.Goals as goal

pub returns-clause-is : goal.returns-clause-is
returns-clause-is c =
    let a = c.args.assignment.now in
    record {
      left = read_tree c.args.left.now;
      right = read_tree c.args.right.now;
      listed = c.requires.none;
      kept = c.in_ok-kept.ensures;
      changed = c.in_ok-changed.ensures;
      negates = c.in_ok-gone.ensures;
      is = ap (λ (z : Tree). record { target = a.target; tree = z }) c.requires.joined;
    }
