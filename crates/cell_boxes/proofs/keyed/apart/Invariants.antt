use Rattle.std.proofs.Common.{◌≡◌, map}
use Rattle.cell_boxes.specs.Keys.{key_of, label_of}
use Rattle.cell_boxes.proofs.keyed.apart.Given as goal

abbrev pub invariant-loop-row : goal.invariant-loop-row
invariant-loop-row g l = record {
  can : (goal.iterator-loop-row g).can_next l.row-iterator;
  ends : (goal.iterator-loop-row g).is_finite l.row-iterator;
  keys : l.keys.items ≡ map key_of l.yielded;
  labels : l.labels.items ≡ map label_of l.yielded;
}
