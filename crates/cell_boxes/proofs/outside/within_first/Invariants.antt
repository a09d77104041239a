use Rattle.std.proofs.Common.{◌≡◌, ◌++◌, length}
use Rattle.cell_sweep.specs.Rows.{sides_of}
use Rattle.cell_boxes.specs.Outside.{narrowed, outside_to}
use Rattle.cell_boxes.proofs.outside.within_first.Given as goal

abbrev pub invariant-loop-s : goal.invariant-loop-s
invariant-loop-s l = record {
  sides : length l.rest.sides.items ≡ length l.hole.1;
  rest : l.rest.sides.items ≡ narrowed l.s l.fn.piece.sides.items l.hole.1;
  out : sides_of l.out.items ≡ sides_of l.fn.out.items ++ outside_to l.s l.fn.piece.sides.items l.hole.1;
}
