use Rattle.std.proofs.Common.{◌≡◌, map}
use Rattle.cell_sweep.specs.Rows.{no_sides}
use Rattle.cell_sweep.proofs.inward.without_labels.Given as goal

abbrev pub invariant-loop-label : goal.invariant-loop-label
invariant-loop-label g l = record {
  can : (goal.iterator-loop-label g).can_next l.label-iterator;
  ends : (goal.iterator-loop-label g).is_finite l.label-iterator;
  items : l.out.items ≡ map no_sides l.yielded;
}
