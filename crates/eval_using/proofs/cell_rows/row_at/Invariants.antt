use Rattle.std.proofs.Common.{map}
use Rattle.value_core.specs.Plain.{plain}
use Rattle.eval_using.proofs.CellRowLemmas.{ArePut}
use Rattle.eval_using.proofs.cell_rows.row_at.Given as goal

abbrev pub invariant-loop-j : goal.invariant-loop-j
invariant-loop-j l = ArePut l.row l.commalist l.at l.j (map plain l.values.items)
