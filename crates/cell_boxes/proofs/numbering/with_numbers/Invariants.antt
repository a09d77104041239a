use Rattle.std.proofs.Common.{◌≡◌, ℕ, length, map, take}
use Rattle.cell_boxes.specs.Meetings.{boxes_in}
use Rattle.cell_boxes.specs.Rows.{PlainCellBox}
use Rattle.cell_boxes.proofs.numbering.with_numbers.Given as goal

abbrev pub invariant-loop-row : goal.invariant-loop-row
invariant-loop-row g l = record {
  can : (goal.iterator-loop-row g).can_next l.row-iterator;
  ends : (goal.iterator-loop-row g).is_finite l.row-iterator;
  count : length l.out.items ≡ length l.yielded;
  numbers : map (λ (x : PlainCellBox ℕ). x.0) l.out.items ≡ take (length l.yielded) l.numbers;
  boxes : boxes_in l.out.items ≡ boxes_in l.yielded;
}
