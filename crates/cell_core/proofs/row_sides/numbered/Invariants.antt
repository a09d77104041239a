use Rattle.std.proofs.Common.{◌≡◌, ℕ, ◌<◌, ◌≤◌, ◌+◌, ◌*◌, ◌++◌, List, length, map, get_or, slice_index_or}
use Rattle.cell_core.specs.Costs.{side_cost}
use Rattle.cell_core.specs.Numbering.{IsSide}
use Rattle.cell_core.specs.Cells.{side_of}
use Rattle.cell_core.proofs.row_sides.numbered.Given as goal

abbrev pub invariant-loop-j : goal.invariant-loop-j
invariant-loop-j g l = record {
  count : length l.out.items ≡ l.j;
  sides : (j : ℕ) (t : g.row.T.Denot) (d : g.row.T-Point.Denot × g.row.T-Point.Denot) (e : List g.row.T-Point.Denot × List g.row.T-Point.Denot × List (ℕ × ℕ)) → j < l.j → IsSide g.T.PointType.number_of (g.T.PointType.IsPoint (slice_index_or l.types j t)) (g.T.PointType.last_number (slice_index_or l.types j t)) (map (side_of j d) (map (λ r. r.1) l.left ++ map (λ r. r.1) l.right)) (get_or l.out.items j e);
  cost : l.steps ≤ l.fn.steps + l.j * side_cost (length l.left + length l.right);
}
