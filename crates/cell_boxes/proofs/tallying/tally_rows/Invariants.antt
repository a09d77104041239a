use Rattle.std.proofs.Common.{◌≡◌, ℕ, ◌<◌, ◌≤◌, ◌↔◌, ◌⊎◌, [], ◌∷◌, length, get_or, Some, Ok, Err}
use Rattle.cell_packing.specs.Covering.{Among}
use Rattle.point_core.specs.LeastFault.{IsLeast}
use Rattle.cell_sweep.specs.PackedRows.{HasRow}
use Rattle.cell_boxes.specs.Rows.{PlainCellBox}
use Rattle.cell_boxes.specs.Tallies.{IsKept, OfTallied, IsPart}
use Rattle.cell_boxes.proofs.tallying.tally_rows.Given as goal

abbrev pub invariant-loop-i : goal.invariant-loop-i
invariant-loop-i g l =
    let means = g.T.Tally.means l.rule l.key in
    record {
      kept : (n : ℕ) × (n ≤ l.begin) × IsKept l.spans l.fn.rows l.starts l.ends n l.at.0 l.at.1 l.flags.items;
      of : g.T.Tally.IsOf l.rule l.kept l.flags.items;
      count : length l.flags.items ≡ length l.fn.flags.items;
      grid_points : (t : _) (j : ℕ) → HasRow l.out.items t (j ∷ []) ↔ HasRow l.fn.out.items t (j ∷ []) ⊎ ((j < l.begin) × OfTallied (λ f. means f ≡ Ok (Some t)) l.spans l.fn.rows (length l.fn.flags.items) j);
      parts : (z : PlainCellBox _) → Among z l.out.items → Among z l.fn.out.items ⊎ IsPart l.spans l.fn.rows z;
      least : IsLeast (λ e. (l.fn.least ≡ Some e) ⊎ ((j : ℕ) × (j < l.begin) × OfTallied (λ f. means f ≡ Err e) l.spans l.fn.rows (length l.fn.flags.items) j)) l.least;
      passed : (j : ℕ) → j < l.i → get_or l.cuts j 0 ≤ l.begin;
      ahead : (j : ℕ) → l.i ≤ j → j < length l.cuts → l.begin ≤ get_or l.cuts j 0;
    }
