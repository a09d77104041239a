use Rattle.std.proofs.Common.{◌↔◌, ◌≤◌, ◌∷◌, [], List, ℤ, map, length}
use Rattle.std.specs.Bool.{IsTrue}
use Rattle.cell_packing.specs.Boxed.{InBoxes}
use Rattle.value_core.specs.Relations.{all_fit}
use Rattle.value_core.specs.Values.{Row}
use Rattle.scalar_core.specs.Expressions.{read}
use Rattle.point_core.specs.LeastFault.{IsLeast}
use Rattle.u_set.specs.Boxes.{boxed, spans_at}
use Rattle.u_row.proofs.AllRowsLemmas.{InRuleBelow, HasFaultBelow}
use Rattle.eval_using.specs.Swept.{met, swept_rows}
use Rattle.eval_using.proofs.in_place.rows_left.Given as goal

abbrev pub invariant-loop-row : goal.invariant-loop-row
invariant-loop-row l = record {
  within : l.row-index ≤ length l.rows;
  places : (label : Row) (place : List ℤ) → InBoxes (map (boxed (l.at ∷ [])) l.out.items) label place ↔
      InRuleBelow (swept_rows (l.at ∷ []) (l.at ∷ []) (met (read l.c)) l.rows) (map (spans_at (l.at ∷ [])) l.rows) l.row-index label place;
  fits : IsTrue (all_fit l.heading l.out.items);
  least : IsLeast (HasFaultBelow (swept_rows (l.at ∷ []) (l.at ∷ []) (met (read l.c)) l.rows) (map (spans_at (l.at ∷ [])) l.rows) l.row-index) l.least;
}
