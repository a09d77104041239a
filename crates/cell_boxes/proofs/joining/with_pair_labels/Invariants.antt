use Rattle.std.proofs.Common.{◌↔◌}
use Rattle.cell_packing.specs.Covering.{Among}
use Rattle.cell_boxes.specs.Meetings.{IsPairLabelled}
use Rattle.cell_boxes.specs.Rows.{PlainCellBox}
use Rattle.cell_boxes.proofs.joining.with_pair_labels.Given as goal

abbrev pub invariant-loop-m : goal.invariant-loop-m
invariant-loop-m g l = record {
  can : (goal.iterator-loop-m g).can_next l.m-iterator;
  ends : (goal.iterator-loop-m g).is_finite l.m-iterator;
  rows : (z : PlainCellBox _) → Among z l.out.items ↔ IsPairLabelled (g.O.PairRule.means l.rule) l.lefts l.rights l.yielded z;
}
