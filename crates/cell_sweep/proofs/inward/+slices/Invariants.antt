use Rattle.std.proofs.Common.{◌≡◌, ℕ, ◌<◌, ◌≤◌, ◌↔◌, ◌⊎◌, ◌+◌, ◌*◌, length, Some}
use Rattle.std.specs.List.{All, filter}
use Rattle.cell_packing.specs.Pieces.{Covers}
use Rattle.cell_packing.specs.Live.{side_has, IsSliceRow, IsSomewhere}
use Rattle.point_core.specs.LeastFault.{IsLeast}
use Rattle.cell_sweep.specs.Rows.{sides_of, key_cmp, GivesLabel, GivesFault, volume}
use Rattle.cell_sweep.specs.Sweeps.{IsSweep}
use Rattle.cell_sweep.proofs.inward.+slices.Given as goal

abbrev pub decreases-slices : goal.decreases-slices
decreases-slices g l = l.sides

abbrev pub invariant-loop-cell : goal.invariant-loop-cell
invariant-loop-cell g l =
    let m = g.O.CellOp.means l.op in
    let b = sides_of l.boxes in
    record {
      some : All (λ x. x.begin < x.end) l.pieces.items;
      covers : (k : _) (i : ℕ) → Covers (key_cmp g.O.Out.Label.order) l.pieces.items k i ↔ (i < l.cell) × (length k.1 ≡ l.side) × IsSliceRow l.side (GivesLabel m l.split) b (filter (side_has b l.side i) l.left) (filter (side_has b l.side i) l.right) k.0 k.1;
      least : IsLeast (λ e. (l.fn.least ≡ Some e) ⊎ ((i : ℕ) × (i < l.cell) × IsSomewhere l.side (GivesFault m l.split) b (filter (side_has b l.side i) l.left) (filter (side_has b l.side i) l.right) e)) l.least;
      lefts : IsSweep b l.side l.left l.cell l.lefts;
      rights : IsSweep b l.side l.right l.cell l.rights;
      cost : l.steps ≤ l.fn.steps + l.cell * volume l.side l.counts;
    }
