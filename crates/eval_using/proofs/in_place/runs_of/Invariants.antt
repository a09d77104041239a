use Rattle.std.proofs.Common.{◌≡◌, ◌↔◌, ◌⊎◌, ℤ, take, Some}
use Rattle.std.specs.List.{All}
use Rattle.point_core.specs.Points.{number, IsPointOf}
use Rattle.point_core.specs.declared.any_type.AnyType.{AnyType}
use Rattle.interval_core.specs.Members.{HasEndsIn}
use Rattle.scalar_core.specs.Expressions.{read}
use Rattle.point_core.specs.LeastFault.{IsLeast}
use Rattle.cell_core.specs.Cells.{box_numbers}
use Rattle.eval_using.specs.Holding.{InSpans, HoldsIn, FailsIn}
use Rattle.eval_using.specs.Moved.{IsMoved}
use Rattle.eval_using.proofs.in_place.runs_of.Given as goal

abbrev pub invariant-loop-part : goal.invariant-loop-part
invariant-loop-part l = record {
  runs : (p : ℤ) → InSpans (box_numbers number l.runs.items) p ↔ HoldsIn (read l.asked.c.now) l.asked.at l.row (box_numbers number (take l.part-index l.parts)) p;
  points : (t : AnyType) → All (HasEndsIn IsPointOf t) l.parts → All (HasEndsIn IsPointOf t) l.runs.items;
  moved : IsMoved l.asked.at l.row l.there;
  least : IsLeast (λ e. (l.fn.least ≡ Some e) ⊎ FailsIn (read l.asked.c.now) l.asked.at l.row (box_numbers number (take l.part-index l.parts)) e) l.least;
}
