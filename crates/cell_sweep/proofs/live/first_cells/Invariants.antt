use Rattle.std.proofs.Common.{◌≡◌, take, map}
use Rattle.cell_sweep.specs.PackedRows.{span_of}
use Rattle.cell_sweep.specs.Rows.{sides_of}
use Rattle.cell_sweep.proofs.live.first_cells.Given as goal

abbrev pub invariant-loop-r : goal.invariant-loop-r
invariant-loop-r l = l.out.items ≡ map (λ r. ((span_of (sides_of l.boxes) l.side r).0, r)) (take l.r-index l.rows)
