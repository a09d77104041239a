use Rattle.std.proofs.Common.{◌≡◌, ◌⊎◌, ◌++◌, List, map, Err, Some}
use Rattle.std.specs.List.{All}
use Rattle.interval_core.specs.Members.{Span}
use Rattle.cell_packing.specs.Covering.{Among}
use Rattle.cell_packing.specs.Packed.{firsts}
use Rattle.point_core.specs.LeastFault.{IsLeast}
use Rattle.cell_core.specs.Boxes.{IsBox}
use Rattle.cell_core.specs.Cells.{boxes_of, row_numbers}
use Rattle.u_row.specs.Rules.{labelled}
use Rattle.u_row.proofs.giving.give_cells.Given as goal

abbrev pub invariant-loop-cell : goal.invariant-loop-cell
invariant-loop-cell g l = record {
  can : (goal.iterator-loop-cell g).can_next l.cell-iterator;
  ends : (goal.iterator-loop-cell g).is_finite l.cell-iterator;
  rows : map (row_numbers g.T.PointType.number_of) l.out.items ≡ map (row_numbers g.T.PointType.number_of) l.fn.out.items ++ labelled (g.R.RowRule.means l.rule l.row) (boxes_of g.T.PointType.number_of l.yielded);
  least : IsLeast (λ e. (l.fn.least ≡ Some e) ⊎ ((cell : List Span) × Among cell (boxes_of g.T.PointType.number_of l.yielded) × (g.R.RowRule.means l.rule l.row (firsts cell) ≡ Err e))) l.least;
  boxes : (types : List g.row.T.Denot) → ((s : List (g.row.T-Point.Denot × g.row.T-Point.Denot)) → Among s l.yielded → IsBox g.T.PointType.IsPoint types s) → All (λ b. IsBox g.T.PointType.IsPoint types b.1) l.fn.out.items → All (λ b. IsBox g.T.PointType.IsPoint types b.1) l.out.items;
}
