use Rattle.std.proofs.Common.{◌≡◌, take, map}
use Rattle.cell_sweep.specs.TwoSides.{run_row}
use Rattle.cell_sweep.proofs.runs.rows_of.Given as goal

abbrev pub invariant-loop-run : goal.invariant-loop-run
invariant-loop-run l = l.out.items ≡ map run_row (take l.run-index l.runs)
