use Rattle.std.proofs.Common.{◌≡◌, ℕ, ◌≤◌, ◌-◌, ◌↔◌, ◌⊎◌, [], ◌∷◌, length, Some, Ok, Err}
use Rattle.cell_packing.specs.Covering.{Among}
use Rattle.point_core.specs.LeastFault.{IsLeast}
use Rattle.cell_sweep.specs.PackedRows.{HasRow}
use Rattle.cell_boxes.specs.Common.{EndsBy}
use Rattle.cell_boxes.specs.Rows.{PlainCellBox}
use Rattle.cell_boxes.specs.Tallies.{IsIn}
use Rattle.cell_boxes.proofs.GroupLemmas.{Split}
use Rattle.cell_boxes.proofs.KeyLemmas.{DoneFlags}
use Rattle.cell_boxes.proofs.by_key.tallied.Given as goal

abbrev pub decreases-loop-first : goal.decreases-loop-first
decreases-loop-first g l = length l.rows - l.first

abbrev pub invariant-loop-first : goal.invariant-loop-first
invariant-loop-first g l =
    let m = g.T.Tally.means l.rule in
    record {
      within : l.first ≤ length l.rows;
      split : Split l.rows l.first;
      of : g.T.Tally.IsOf l.rule l.state l.flags.items;
      count : length l.flags.items ≡ length l.rows;
      none : (r : ℕ) → IsIn l.flags.items r → ⊥;
      grid_points : (t : _) (j : ℕ) → HasRow l.out.items t (j ∷ []) ↔ DoneFlags l.rows l.first (λ k f. m k f ≡ Ok (Some t)) j;
      parts : (z : PlainCellBox _) → Among z l.out.items → (length z.1 ≡ 1) × ((x : PlainCellBox _) × Among x l.rows × EndsBy x.1 z.1);
      least : IsLeast (λ e. (l.fn.least ≡ Some e) ⊎ ((j : ℕ) × DoneFlags l.rows l.first (λ k f. m k f ≡ Err e) j)) l.least;
    }
