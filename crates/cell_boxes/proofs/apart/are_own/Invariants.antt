use Rattle.std.proofs.Common.{◌≡◌, ℕ, ◌<◌}
use Rattle.cell_boxes.specs.Meetings.{Met}
use Rattle.cell_boxes.specs.Rows.{IsRow}
use Rattle.cell_boxes.proofs.apart.are_own.Given as goal

abbrev pub invariant-loop-m : goal.invariant-loop-m
invariant-loop-m l = (a : ℕ) (m : Met) → IsRow l.meetings a m → a < l.m-index → m.0.0 ≡ m.0.1
