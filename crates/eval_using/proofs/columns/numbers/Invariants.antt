use Rattle.std.proofs.Common.{◌≡◌, ◌≤◌, length}
use Rattle.scalar_core.specs.Expressions.{read}
use Rattle.eval_using.proofs.ColumnLemmas.{HasPointsBelow}
use Rattle.eval_using.proofs.columns.numbers.Given as goal

abbrev pub invariant-loop-i : goal.invariant-loop-i
invariant-loop-i l = record {
  within : l.i ≤ length l.rows;
  count : length l.numbers.items ≡ l.i;
  points : HasPointsBelow l.i l.rows (read l.e) l.of l.numbers.items;
}
