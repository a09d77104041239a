use Rattle.std.proofs.Common.{take}
use Rattle.std.specs.List.{All}
use Rattle.point_core.specs.Points.{number}
use Rattle.cell_packing.specs.Packed.{Has, firsts}
use Rattle.cell_core.specs.Cells.{box_numbers}
use Rattle.eval_using.proofs.group_cells.have_firsts.Given as goal

abbrev pub invariant-loop-own : goal.invariant-loop-own
invariant-loop-own l = All (λ b. Has (box_numbers number b.1) (firsts (box_numbers number b.1))) (take l.own-index l.boxes)
