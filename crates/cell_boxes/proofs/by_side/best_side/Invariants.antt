use Rattle.std.proofs.Common.{◌≡◌, ◌<◌, ◌⊎◌}
use Rattle.cell_boxes.proofs.by_side.best_side.Given as goal

abbrev pub invariant-loop-side : goal.invariant-loop-side
invariant-loop-side g l = (l.best ≡ 0) ⊎ (l.best < l.sides)
