use Rattle.std.proofs.Common.{◌≡◌, map, take}
use Rattle.cell_boxes.specs.Common.{first_of}
use Rattle.cell_boxes.proofs.by_key.first_sides.Given as goal

abbrev pub invariant-loop-row : goal.invariant-loop-row
invariant-loop-row g l = l.out.items ≡ map (λ x. first_of x.1) (take l.row-index l.rows)
