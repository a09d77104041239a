use Rattle.std.proofs.Common.{ℕ, ◌<◌, ◌≤◌, ◌-◌, length}
use Rattle.cell_sweep.specs.Parted.{AreParted, live_row}
use Rattle.cell_sweep.specs.Rows.{sides_of}
use Rattle.cell_sweep.proofs.parted.is_clear.Given as goal

abbrev pub decreases-loop-next : goal.decreases-loop-next
decreases-loop-next l = length l.live - l.next

abbrev pub invariant-loop-next : goal.invariant-loop-next
invariant-loop-next l = record {
  after : l.at < l.next;
  within : l.next ≤ length l.live;
  parted : (j : ℕ) → l.at < j → j < l.next → AreParted (sides_of l.boxes) l.sides (live_row l.live l.at) (live_row l.live j);
}
