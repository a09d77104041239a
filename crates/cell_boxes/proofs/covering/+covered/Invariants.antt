use Rattle.std.proofs.Common.{◌≡◌, ℕ, ◌<◌, ◌≤◌, ◌↔◌, ◌⊎◌, ◌++◌, List, [], ◌∷◌, length, slice_index, Some}
use Rattle.std.specs.List.{All, filter}
use Rattle.cell_packing.specs.Covering.{Among}
use Rattle.cell_packing.specs.Live.{box, side_has, InLive, IsSomewhere}
use Rattle.point_core.specs.LeastFault.{IsLeast}
use Rattle.cell_sweep.specs.PackedRows.{HasRow}
use Rattle.cell_sweep.specs.Rows.{sides_of, GivesLabel, GivesFault}
use Rattle.cell_sweep.specs.Sweeps.{IsSweep}
use Rattle.cell_boxes.specs.Common.{EndsBy}
use Rattle.cell_boxes.specs.Rows.{PlainCellBox}
use Rattle.cell_boxes.proofs.covering.+covered.Given as goal

abbrev pub decreases-covered : goal.decreases-covered
decreases-covered g l = l.sides

abbrev pub invariant-loop-i : goal.invariant-loop-i
invariant-loop-i g l =
    let m : List ℕ → List ℕ → _ = λ a b. g.O.CellRule.means l.rule a in
    let b = sides_of l.boxes in
    record {
      grid_points : (t : _) (grid_point : List ℕ) (j : ℕ) → length grid_point ≡ l.side → HasRow l.out.items t (grid_point ++ j ∷ []) ↔ (j < l.begin) × InLive (GivesLabel m 0) b (filter (side_has b l.side j) l.live) [] t grid_point;
      lengths : All (λ x. length x.1 ≡ l.sides) l.out.items;
      ends : (z : PlainCellBox _) → Among z l.out.items → (r : ℕ) × Among r l.live × EndsBy (box b r) z.1;
      least : IsLeast (λ e. (l.fn.least ≡ Some e) ⊎ ((j : ℕ) × (j < l.begin) × IsSomewhere l.side (GivesFault m 0) b (filter (side_has b l.side j) l.live) [] e)) l.least;
      sweep : IsSweep b l.side l.live l.begin l.sweep;
      passed : (j : ℕ) → j < l.i → slice_index l.cuts.items j ≤ l.begin;
      ahead : (j : ℕ) → l.i ≤ j → j < length l.cuts.items → l.begin ≤ slice_index l.cuts.items j;
    }
