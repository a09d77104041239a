use Rattle.std.proofs.Common.{◌≡◌, ◌++◌, ◌+◌, map, take, length}
use Rattle.cell_core.specs.Cells.{side_of}
use Rattle.cell_core.proofs.grids.push_sides.Given as goal

abbrev pub invariant-loop-s : goal.invariant-loop-s
invariant-loop-s g l = record {
  items : (d : g.row.T-Point.Denot × g.row.T-Point.Denot) → l.out.items ≡ l.fn.out.items ++ map (side_of l.side d) (take l.s-index l.rows);
  length : length l.out.items ≡ length l.fn.out.items + l.s-index;
}
