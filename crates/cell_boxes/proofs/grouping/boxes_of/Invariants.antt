use Rattle.std.proofs.Common.{◌≡◌, take}
use Rattle.cell_sweep.specs.Rows.{sides_of}
use Rattle.cell_boxes.specs.Meetings.{boxes_in}
use Rattle.cell_boxes.proofs.grouping.boxes_of.Given as goal

abbrev pub invariant-loop-row : goal.invariant-loop-row
invariant-loop-row g l = sides_of l.out.items ≡ boxes_in (take l.row-index l.rows)
