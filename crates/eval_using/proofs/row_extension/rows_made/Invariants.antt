use Rattle.std.proofs.Common.{◌↔◌, ◌≡◌, ◌≤◌, ◌∷◌, [], List, ℤ, map, length}
use Rattle.std.specs.Bool.{IsTrue}
use Rattle.std.specs.List.{All}
use Rattle.cell_packing.specs.Boxed.{InBoxes}
use Rattle.value_core.specs.Relations.{all_fit}
use Rattle.value_core.specs.Values.{Row, Heading}
use Rattle.point_core.specs.LeastFault.{IsLeast}
use Rattle.relation_core.specs.Parts.{kind_at}
use Rattle.tree_core.specs.Trees.{read_sets}
use Rattle.u_set.specs.Boxes.{boxed, spans_at, type_of}
use Rattle.u_row.proofs.AllRowsLemmas.{InRuleBelow, HasFaultBelow}
use Rattle.eval_using.specs.Extended.{made_of, CanMake}
use Rattle.eval_using.specs.Swept.{swept_rows}
use Rattle.eval_using.proofs.row_extension.rows_made.Given as goal

abbrev pub invariant-loop-row : goal.invariant-loop-row
invariant-loop-row l = record {
  within : l.row-index ≤ length l.rows;
  places : (label : Row) (place : List ℤ) → InBoxes (map (boxed (l.by.to ∷ [])) l.out.items) label place ↔
      InRuleBelow (swept_rows (l.by.at ∷ []) (l.by.to ∷ []) (made_of l.by.places.now (read_sets l.by.sets.now)) l.rows) (map (spans_at (l.by.at ∷ [])) l.rows) l.row-index label place;
  fits : (from heading : Heading) → All (CanMake from heading l.by.at l.by.to (read_sets l.by.sets.now) l.by.places.now) l.rows → l.t ≡ type_of (kind_at from l.by.at) → IsTrue (all_fit heading l.out.items);
  least : IsLeast (HasFaultBelow (swept_rows (l.by.at ∷ []) (l.by.to ∷ []) (made_of l.by.places.now (read_sets l.by.sets.now)) l.rows) (map (spans_at (l.by.at ∷ [])) l.rows) l.row-index) l.least;
}
