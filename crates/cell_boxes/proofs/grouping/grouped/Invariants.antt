use Rattle.std.proofs.Common.{◌≡◌, ℕ, ◌≤◌, ◌-◌, ◌↔◌, ◌⊎◌, List, [], length, Some, Err}
use Rattle.std.specs.List.{All}
use Rattle.cell_packing.specs.Covering.{Among, Gives}
use Rattle.point_core.specs.LeastFault.{IsLeast}
use Rattle.cell_sweep.specs.PackedRows.{HasRow}
use Rattle.cell_boxes.specs.Common.{EndsBy}
use Rattle.cell_boxes.specs.Rows.{PlainCellBox}
use Rattle.cell_boxes.proofs.GroupLemmas.{Split, Done}
use Rattle.cell_boxes.proofs.grouping.grouped.Given as goal

abbrev pub decreases-loop-first : goal.decreases-loop-first
decreases-loop-first g l = length l.rows - l.first

abbrev pub invariant-loop-first : goal.invariant-loop-first
invariant-loop-first g l =
    let m : List ℕ → List ℕ → _ = λ a b. g.O.CellRule.means l.rule a in
    record {
      within : l.first ≤ length l.rows;
      split : Split l.rows l.first;
      grid_points : (t : _) (grid_point : List ℕ) → length grid_point ≡ l.sides → HasRow l.out.items t grid_point ↔ Done l.rows l.first (λ a. Gives (m a []) t) grid_point;
      lengths : All (λ x. length x.1 ≡ l.sides) l.out.items;
      ends : (z : PlainCellBox _) → Among z l.out.items → (x : PlainCellBox _) × Among x l.rows × EndsBy x.1 z.1;
      least : IsLeast (λ e. (l.fn.least ≡ Some e) ⊎ ((grid_point : List ℕ) × (length grid_point ≡ l.sides) × Done l.rows l.first (λ a. m a [] ≡ Err e) grid_point)) l.least;
    }
