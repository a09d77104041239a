use Rattle.std.proofs.Common.{◌≡◌, ℕ, ◌<◌, pos, ◌+ℤ◌, List, map, length, get_or, slice_index_or}
use Rattle.interval_core.specs.Members.{HasEndsIn}
use Rattle.cell_core.specs.Numbering.{numbers_of, span_at}
use Rattle.cell_core.proofs.whole.sides_of_cells.Given as goal

abbrev pub invariant-loop-j : goal.invariant-loop-j
invariant-loop-j g l = record {
  length : length l.list.items ≡ l.j;
  numbers : (j : ℕ) (t : g.row.T.Denot) (d : g.row.T-Point.Denot × g.row.T-Point.Denot) (e : List g.row.T-Point.Denot × List g.row.T-Point.Denot × List (ℕ × ℕ)) → j < l.j → numbers_of g.T.PointType.number_of (get_or l.list.items j d) ≡ span_at (map g.T.PointType.number_of (get_or l.sides j e).0) (g.T.PointType.last_number (slice_index_or l.types j t) +ℤ pos 1) (get_or l.cells j (0, 0));
  points : (j : ℕ) (t : g.row.T.Denot) (d : g.row.T-Point.Denot × g.row.T-Point.Denot) → j < l.j → HasEndsIn g.T.PointType.IsPoint (slice_index_or l.types j t) (get_or l.list.items j d);
}
