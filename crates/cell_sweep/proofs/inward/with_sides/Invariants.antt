use Rattle.std.proofs.Common.{◌≡◌, map}
use Rattle.cell_sweep.specs.Rows.{with_last}
use Rattle.cell_sweep.proofs.inward.with_sides.Given as goal

abbrev pub invariant-loop-p : goal.invariant-loop-p
invariant-loop-p g l = record {
  can : (goal.iterator-loop-p g).can_next l.p-iterator;
  ends : (goal.iterator-loop-p g).is_finite l.p-iterator;
  items : l.out.items ≡ map with_last l.yielded;
}
