use Rattle.std.proofs.Common.{◌≡◌, ℕ, ◌<◌, ◌≤◌, ◌↔◌, length, slice_index}
use Rattle.std.specs.List.{All, filter}
use Rattle.cell_packing.specs.Pieces.{Covers}
use Rattle.cell_packing.specs.Live.{side_has}
use Rattle.cell_sweep.specs.PackedRows.{IsUnitedRow}
use Rattle.cell_sweep.specs.Rows.{sides_of}
use Rattle.cell_sweep.specs.Sweeps.{IsSweep}
use Rattle.cell_sweep.proofs.UnitedLemmas.{Row, R}
use Rattle.cell_sweep.proofs.united.+united.Given as goal

abbrev pub decreases-united : goal.decreases-united
decreases-united l = l.sides

abbrev pub invariant-loop-i : goal.invariant-loop-i
invariant-loop-i l = record {
  some : All (λ x. x.begin < x.end) l.pieces.items;
  covers : (k : Row) (i : ℕ) → Covers R l.pieces.items k i ↔ (i < l.begin) × (length k.1 ≡ l.side) × IsUnitedRow l.side (sides_of l.boxes) (filter (side_has (sides_of l.boxes) l.side i) l.live) k;
  sweep : IsSweep (sides_of l.boxes) l.side l.live l.begin l.sweep;
  passed : (j : ℕ) → j < l.i → slice_index l.cuts.items j ≤ l.begin;
  ahead : (j : ℕ) → l.i ≤ j → j < length l.cuts.items → l.begin ≤ slice_index l.cuts.items j;
}
