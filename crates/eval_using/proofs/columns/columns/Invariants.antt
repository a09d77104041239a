use Rattle.std.proofs.Common.{◌≤◌, take, map, length}
use Rattle.tree_core.specs.Trees.{read_aggregate}
use Rattle.eval_using.specs.Columns.{AreColumns}
use Rattle.eval_using.proofs.columns.columns.Given as goal

abbrev pub invariant-loop-i : goal.invariant-loop-i
invariant-loop-i l = record {
  within : l.i ≤ length l.aggregates;
  columns : AreColumns l.rows (map read_aggregate (take l.i l.aggregates)) l.list.items;
}
