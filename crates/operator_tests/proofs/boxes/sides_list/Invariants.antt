use Rattle.std.specs.List.{All}
use Rattle.cell_core.specs.Boxes.{IsBox}
use Rattle.operator_tests.proofs.boxes.sides_list.Given as goal

abbrev pub invariant-loop-ends : goal.invariant-loop-ends
invariant-loop-ends g l = All (λ s. IsBox g.T.PointType.IsPoint l.types s) l.out.items
