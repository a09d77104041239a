use Rattle.std.proofs.Common.{◌≡◌, take}
use Rattle.cell_boxes.specs.Common.{common}
use Rattle.cell_boxes.proofs.common.common.Given as goal

abbrev pub invariant-loop-s : goal.invariant-loop-s
invariant-loop-s g l = l.out.items ≡ take l.s (common l.x.1 l.y.1)
