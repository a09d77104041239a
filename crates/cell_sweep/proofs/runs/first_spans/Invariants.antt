use Rattle.std.proofs.Common.{◌≡◌, take}
use Rattle.cell_sweep.specs.Rows.{sides_of}
use Rattle.cell_sweep.specs.TwoSides.{bare_spans}
use Rattle.cell_sweep.proofs.runs.first_spans.Given as goal

abbrev pub invariant-loop-r : goal.invariant-loop-r
invariant-loop-r l = l.out.items ≡ bare_spans (sides_of l.boxes) (take l.r-index l.live)
