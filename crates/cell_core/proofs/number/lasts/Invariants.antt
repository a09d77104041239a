use Rattle.std.proofs.Common.{◌≡◌, ℕ, suc, ◌<◌, ◌≤◌, ◌+◌, pos, ◌+ℤ◌, length, map, slice_index_or}
use Rattle.std.specs.List.{All}
use Rattle.cell_core.specs.Numbering.{cut_at}
use Rattle.cell_core.proofs.number.lasts.Given as goal

abbrev pub invariant-loop-i : goal.invariant-loop-i
invariant-loop-i g l = record {
  length : length l.out.items ≡ l.i;
  points : All (g.T.PointType.IsPoint l.t) l.out.items;
  numbers : (j : ℕ) (d : _) → j < l.i → g.T.PointType.number_of (slice_index_or l.out.items j d) +ℤ pos 1 ≡ cut_at (map g.T.PointType.number_of l.cuts) (g.T.PointType.last_number l.t +ℤ pos 1) (suc j);
  cost : l.steps ≤ l.fn.steps + l.i;
}
