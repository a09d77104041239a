use Rattle.std.proofs.Common.{◌≡◌, ◌^◌, ◌-◌, min, take}
use Rattle.cell_core.specs.GridPoints.{volume}
use Rattle.cell_core.proofs.grid_points.volume_of.Given as goal

abbrev pub invariant-loop-span : goal.invariant-loop-span
invariant-loop-span l = l.product ≡ min (volume (take l.span-index l.spans)) (2 ^ 128 - 1)
