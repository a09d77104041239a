use Rattle.std.proofs.Common.{◌≡◌, take, true}
use Rattle.std.specs.List.{list_all}
use Rattle.cell_boxes.specs.Common.{has_cell, common}
use Rattle.cell_boxes.proofs.common.meet.Given as goal

abbrev pub invariant-loop-s : goal.invariant-loop-s
invariant-loop-s g l = list_all has_cell (take l.s (common l.x.1 l.y.1)) ≡ true
