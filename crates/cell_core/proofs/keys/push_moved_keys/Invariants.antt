use Rattle.std.proofs.Common.{◌≡◌, ◌++◌, ◌+◌, length}
use Rattle.cell_core.specs.Cells.{keys_from}
use Rattle.cell_core.proofs.keys.push_moved_keys.Given as goal

abbrev pub invariant-loop-row : goal.invariant-loop-row
invariant-loop-row g l = record {
  can : (goal.iterator-loop-row g).can_next l.row-iterator;
  ends : (goal.iterator-loop-row g).is_finite l.row-iterator;
  grid_point : l.at ≡ l.first + length l.yielded;
  items : l.out.items ≡ l.fn.out.items ++ keys_from l.first l.yielded l.sides;
}
