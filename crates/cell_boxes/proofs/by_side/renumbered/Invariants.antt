use Rattle.std.proofs.Common.{◌≡◌, map, take}
use Rattle.cell_boxes.specs.Sides.{renumbered}
use Rattle.cell_boxes.proofs.by_side.renumbered.Given as goal

abbrev pub invariant-loop-p : goal.invariant-loop-p
invariant-loop-p l = l.out.items ≡ map (renumbered l.lefts l.rights) (take l.p-index l.pairs)
