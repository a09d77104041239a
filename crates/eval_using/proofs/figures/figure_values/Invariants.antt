use Rattle.std.proofs.Common.{◌≡◌, ◌≤◌, map, take, Ok}
use Rattle.value_core.specs.Plain.{plain}
use Rattle.tree_core.specs.Trees.{read_aggregate}
use Rattle.eval_using.specs.Columns.{figure_values}
use Rattle.eval_using.proofs.figures.figure_values.Given as goal

abbrev pub invariant-loop-i : goal.invariant-loop-i
invariant-loop-i l = record {
  within : l.i ≤ l.many;
  made : figure_values (map read_aggregate (take l.i l.aggregates)) (take l.i l.figures) ≡ Ok (map plain l.values.items);
}
