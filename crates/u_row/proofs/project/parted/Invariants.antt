use Rattle.std.proofs.Common.{◌≡◌, map}
use Rattle.relation_core.specs.Agreement.{part_of}
use Rattle.u_row.specs.Labels.{relabelled}
use Rattle.u_row.proofs.project.parted.Given as goal

abbrev pub invariant-loop-row : goal.invariant-loop-row
invariant-loop-row g l = record {
  can : (goal.iterator-loop-row g).can_next l.row-iterator;
  ends : (goal.iterator-loop-row g).is_finite l.row-iterator;
  items : l.out.items ≡ map (relabelled (part_of l.kept)) l.yielded;
}
