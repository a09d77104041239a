use Rattle.std.proofs.Common.{◌≡◌, map}
use Rattle.cell_sweep.specs.Rows.{sides_of}
use Rattle.cell_sweep.proofs.by_label.apart.Given as goal

abbrev pub invariant-loop-row : goal.invariant-loop-row
invariant-loop-row g l = record {
  can : (goal.iterator-loop-row g).can_next l.row-iterator;
  ends : (goal.iterator-loop-row g).is_finite l.row-iterator;
  labels : l.labels.items ≡ map (λ x. x.0) l.yielded;
  boxes : sides_of l.boxes.items ≡ map (λ x. x.1) l.yielded;
}
