use Rattle.std.proofs.Common.{◌≡◌, ℕ, ◌<◌, ◌≤◌, ◌+◌, pos, ◌+ℤ◌, get_or, length, map, take}
use Rattle.std.specs.List.{All}
use Rattle.cell_core.specs.Numbering.{IsCellAt, Rises}
use Rattle.cell_core.proofs.number.cells_of.Given as goal

abbrev pub invariant-loop-x : goal.invariant-loop-x
invariant-loop-x g l =
    let n = g.T.PointType.number_of in
    let top = g.T.PointType.last_number l.t +ℤ pos 1 in
    record {
      points : All (g.T.PointType.IsPoint l.t) l.cuts.items;
      rises : Rises (map n l.cuts.items) top;
      next : (d : _) → l.x-index < length l.list → Rises (map n l.cuts.items) (n (get_or l.list l.x-index d).0 +ℤ pos 1);
      cells : (tag : ℕ) → tag < l.count → IsCellAt n l.cuts.items top l.count (take l.x-index l.list) tag (get_or l.table.items tag 0);
      count : length l.cuts.items ≤ l.x-index;
      length : length l.table.items ≡ l.count;
      cost : l.steps ≤ l.fn.steps + l.x-index;
    }
