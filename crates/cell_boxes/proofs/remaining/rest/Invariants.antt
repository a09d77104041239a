use Rattle.std.proofs.Common.{◌≡◌, ℕ, ◌<◌, ◌↔◌, List, drop, length}
use Rattle.std.specs.List.{All}
use Rattle.std.specs.Vec.Iter.{into_iter_items}
use Rattle.cell_packing.specs.Covering.{Among}
use Rattle.cell_sweep.specs.PackedRows.{HasRow}
use Rattle.cell_boxes.specs.Common.{At, EndsBy}
use Rattle.cell_boxes.specs.Rows.{IsRow, PlainCellBox}
use Rattle.cell_boxes.proofs.RestLemmas.{IsFrom}
use Rattle.cell_boxes.proofs.remaining.rest.Given as goal

abbrev pub invariant-loop-label : goal.invariant-loop-label
invariant-loop-label g l = record {
  can : (goal.iterator-loop-label g).can_next l.label-iterator;
  finite : (goal.iterator-loop-label g).is_finite l.label-iterator;
  count : l.row ≡ length l.yielded;
  rows : into_iter_items l.rows ≡ drop l.row l.fn.left.items;
  from : IsFrom l.holes l.row l.first;
  grid_points : (t : _) (grid_point : List ℕ) → length grid_point ≡ l.sides → HasRow l.out.items t grid_point ↔ ((i : ℕ) × (i < l.row) × (z : PlainCellBox _) × IsRow l.fn.left.items i z × IsRow l.fn.labels.items i t × At z.1 grid_point × (HasRow l.right z.0 grid_point → ⊥));
  box_ends : (z : PlainCellBox _) → Among z l.out.items → (x : PlainCellBox _) × Among x l.fn.left.items × EndsBy x.1 z.1;
  lengths : All (λ x. length x.1 ≡ l.sides) l.out.items;
}
