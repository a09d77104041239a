use Rattle.std.proofs.Common.{◌≡◌, ◌++◌, flat_map}
use Rattle.cell_sweep.specs.Rows.{sides_of}
use Rattle.cell_boxes.specs.Outside.{past, ahead}
use Rattle.cell_boxes.proofs.outside.opened.Given as goal

abbrev pub invariant-loop-piece : goal.invariant-loop-piece
invariant-loop-piece l = record {
  can : goal.iterator-loop-piece.can_next l.piece-iterator;
  ends : goal.iterator-loop-piece.is_finite l.piece-iterator;
  done : sides_of l.done.items ≡ sides_of l.fn.done.items ++ flat_map (λ x. past l.hole.1 x.sides.items) l.yielded;
  next : sides_of l.next.items ≡ flat_map (λ x. ahead l.hole.1 x.sides.items) l.yielded;
}
