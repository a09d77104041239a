use Rattle.std.proofs.Common.{◌≡◌, ℕ, ◌<◌, map, take, length, get_or, slice_index_or}
use Rattle.interval_core.specs.Members.{HasEndsIn, at_point}
use Rattle.cell_core.specs.Cells.{box_numbers}
use Rattle.cell_core.proofs.unpacking.box_at.Given as goal

abbrev pub invariant-loop-j : goal.invariant-loop-j
invariant-loop-j g l = record {
  length : length l.list.items ≡ l.j;
  numbers : box_numbers g.T.PointType.number_of l.list.items ≡ map at_point (take l.j l.numbers);
  points : (j : ℕ) (t : g.row.T.Denot) (d : g.row.T-Point.Denot × g.row.T-Point.Denot) → j < l.j → HasEndsIn g.T.PointType.IsPoint (slice_index_or l.types j t) (get_or l.list.items j d);
}
