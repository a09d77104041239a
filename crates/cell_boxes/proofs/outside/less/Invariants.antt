use Rattle.cell_sweep.specs.Rows.{sides_of}
use Rattle.cell_boxes.proofs.LessLemmas.{IsSplit}
use Rattle.cell_boxes.proofs.outside.less.Given as goal

abbrev pub invariant-loop-h : goal.invariant-loop-h
invariant-loop-h l = IsSplit l.fn.sides.items l.holes l.first l.end l.h (sides_of l.done.items) (sides_of l.pieces.items)
