use Rattle.cell_boxes.specs.Tallies.{span_at}
use Rattle.cell_boxes.proofs.CellLemmas.{ArePairs}
use Rattle.cell_boxes.proofs.by_cell.by_end.Given as goal

abbrev pub invariant-loop-r : goal.invariant-loop-r
invariant-loop-r l = ArePairs (λ r. (span_at l.spans r).1) l.fn.rows.0 l.r l.out.items
