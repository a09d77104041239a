use Rattle.std.specs.List.{All}
use Rattle.cell_core.specs.Boxes.{IsBox}
use Rattle.operator_tests.proofs.boxes.boxes_of.Given as goal

abbrev pub invariant-loop-ends : goal.invariant-loop-ends
invariant-loop-ends g l = All (λ r. IsBox g.T.PointType.IsPoint l.types r.1) l.out.items
