use Rattle.std.proofs.Common.{◌≡◌, map}
use Rattle.cell_boxes.specs.KeyNumbers.{named}
use Rattle.cell_boxes.proofs.labelling.with_labels.Given as goal

abbrev pub invariant-loop-row : goal.invariant-loop-row
invariant-loop-row g l = record {
  can : (goal.iterator-loop-row g).can_next l.row-iterator;
  ends : (goal.iterator-loop-row g).is_finite l.row-iterator;
  rows : (d : _) → l.out.items ≡ map (named l.labels d) l.yielded;
}
