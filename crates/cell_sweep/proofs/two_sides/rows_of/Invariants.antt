use Rattle.std.proofs.Common.{◌≡◌, take, map}
use Rattle.cell_sweep.specs.TwoSides.{slab_row}
use Rattle.cell_sweep.proofs.two_sides.rows_of.Given as goal

abbrev pub invariant-loop-piece : goal.invariant-loop-piece
invariant-loop-piece l = l.out.items ≡ map slab_row (take l.piece-index l.pieces)
