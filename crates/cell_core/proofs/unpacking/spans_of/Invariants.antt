use Rattle.std.proofs.Common.{◌≡◌, ◌≤ℤ◌, take}
use Rattle.std.specs.List.{All}
use Rattle.cell_core.specs.Cells.{box_numbers}
use Rattle.cell_core.proofs.unpacking.spans_of.Given as goal

abbrev pub invariant-loop-j : goal.invariant-loop-j
invariant-loop-j g l = record {
  numbers : l.out.items ≡ box_numbers g.T.PointType.number_of (take l.j l.sides);
  ordered : All (λ i. i.0 ≤ℤ i.1) l.out.items;
}
