use Rattle.std.proofs.Common.{◌≡◌, map}
use Rattle.relation_core.specs.Agreement.{part_of}
use Rattle.u_join.specs.KeyedCellBox.{keyed}
use Rattle.u_join.proofs.keys.with_keys.Given as goal

abbrev pub invariant-loop-row : goal.invariant-loop-row
invariant-loop-row l = record {
  can : goal.iterator-loop-row.can_next l.row-iterator;
  ends : goal.iterator-loop-row.is_finite l.row-iterator;
  items : l.out.items ≡ map (keyed (part_of l.positions)) l.yielded;
}
