use Rattle.std.proofs.Common.{◌≡◌, flat_map}
use Rattle.cell_sweep.specs.PackedRows.{own_piece}
use Rattle.cell_sweep.proofs.one_side.pieces_of.Given as goal

abbrev pub invariant-loop-row : goal.invariant-loop-row
invariant-loop-row g l = record {
  can : (goal.iterator-loop-row g).can_next l.row-iterator;
  ends : (goal.iterator-loop-row g).is_finite l.row-iterator;
  items : l.out.items ≡ flat_map own_piece l.yielded;
}
