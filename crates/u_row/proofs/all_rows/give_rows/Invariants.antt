use Rattle.std.proofs.Common.{◌≡◌, ◌↔◌, ◌+◌, ◌≤◌, ℤ, List, map, drop, length}
use Rattle.std.specs.List.{All}
use Rattle.cell_packing.specs.Boxed.{InBoxes}
use Rattle.value_core.specs.Values.{Row}
use Rattle.point_core.specs.LeastFault.{IsLeast}
use Rattle.cell_core.specs.Boxes.{IsBox}
use Rattle.cell_core.specs.Cells.{row_numbers}
use Rattle.u_row.specs.Cutting.{count_cells, count_cuts}
use Rattle.u_row.specs.Rules.{sides_numbers}
use Rattle.u_row.proofs.AllRowsLemmas.{InRuleBelow, HasFaultBelow}
use Rattle.u_row.proofs.all_rows.give_rows.Given as goal

abbrev pub invariant-loop-i : goal.invariant-loop-i
invariant-loop-i g l = record {
  within : l.i ≤ length l.rows;
  places : (label : Row) (place : List ℤ) → InBoxes (map (row_numbers g.T.PointType.number_of) l.out.items) label place ↔ InRuleBelow (g.R.RowRule.means l.rule) (sides_numbers g.T.PointType.number_of l.rows) l.i label place;
  boxes : All (λ b. IsBox g.T.PointType.IsPoint l.types b.1) l.out.items;
  few : length l.out.items + count_cells (g.R.RowRule.cuts_of l.rule) l.i (drop l.i (sides_numbers g.T.PointType.number_of l.rows)) ≤ count_cells (g.R.RowRule.cuts_of l.rule) 0 (sides_numbers g.T.PointType.number_of l.rows);
  least : IsLeast (HasFaultBelow (g.R.RowRule.means l.rule) (sides_numbers g.T.PointType.number_of l.rows) l.i) l.least;
  cost : l.steps + count_cuts (g.R.RowRule.cuts_of l.rule) l.i (drop l.i (sides_numbers g.T.PointType.number_of l.rows)) ≤ l.initial.steps + count_cuts (g.R.RowRule.cuts_of l.rule) 0 (sides_numbers g.T.PointType.number_of l.rows);
}
