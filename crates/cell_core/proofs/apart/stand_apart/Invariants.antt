use Rattle.std.proofs.Common.{◌<◌, ◌≤◌, ◌+◌, ◌*◌, ℕ, suc, map, get_or}
use Rattle.cell_packing.specs.Boxed.{Boxed}
use Rattle.cell_core.specs.Apart.{HasOneSide, IsBeyond}
use Rattle.cell_core.specs.Cells.{row_numbers}
use Rattle.cell_core.proofs.apart.stand_apart.Given as goal

abbrev pub invariant-loop-i : goal.invariant-loop-i
invariant-loop-i g l = record {
  sides : (j : ℕ) (d : Boxed g.row.P.Denot) → j < l.i → HasOneSide (get_or (map (λ r. row_numbers g.T.PointType.number_of r.now) l.rows) j d);
  beyond : (j : ℕ) (d : Boxed g.row.P.Denot) → suc j < l.i → IsBeyond g.P.Label.order (get_or (map (λ r. row_numbers g.T.PointType.number_of r.now) l.rows) j d) (get_or (map (λ r. row_numbers g.T.PointType.number_of r.now) l.rows) (suc j) d);
  cost : l.steps ≤ l.fn.steps + 2 * l.i;
}
