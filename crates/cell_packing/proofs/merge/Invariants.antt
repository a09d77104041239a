use Rattle.std.proofs.Common.{ℕ, ◌<◌, ◌≤◌, ◌↔◌, length, slice_index_or}
use Rattle.cell_packing.specs.Pieces.{AreApart, Covers, AllNotAfter}
use Rattle.cell_packing.proofs.merge.Given as goal

abbrev pub invariant-loop-x : goal.invariant-loop-x
invariant-loop-x g l = record {
  can : (goal.iterator-loop-x g).can_next l.x-iterator;
  ends : (goal.iterator-loop-x g).is_finite l.x-iterator;
  apart : AreApart g.K.Ord.cmp l.out.items;
  covers : (k : _) (i : ℕ) → Covers g.K.Ord.cmp l.out.items k i ↔ Covers g.K.Ord.cmp l.yielded k i;
  order : (j : ℕ) (d : _) → length l.yielded ≤ j → j < length l.fn.pieces.items → AllNotAfter g.K.Ord.cmp l.out.items (slice_index_or l.fn.pieces.items j d);
}
