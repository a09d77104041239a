use Rattle.std.proofs.Common.{◌≡◌, take}
use Rattle.cell_core.proofs.boxes.Sides.copy.Given as goal

abbrev pub invariant-loop-side : goal.invariant-loop-side
invariant-loop-side g l = l.list.items ≡ take l.side-index l.side-items
