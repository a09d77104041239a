use Rattle.std.proofs.Common.{◌≡◌, ◌≤◌, ◌+◌, length, drop}
use Rattle.tree_core.specs.Relvars.{read_relvars}
use Rattle.relvar_logs.specs.Changes.{changed}
use Rattle.stored_views.specs.Moves.{moves_among}
use Rattle.stored_views.proofs.ViewMoveLemmas.{AreMovesFor}
use Rattle.stored_views.proofs.moving.view_moves.Given as goal

abbrev pub ghost-move_at : goal.ghost-move_at
ghost-move_at g a = g.after

abbrev pub invariant-loop-at : goal.invariant-loop-at
invariant-loop-at g l =
    let es = (read_relvars l.relvars).relvars in
    let all = changed g.after es in
    record {
      moves : AreMovesFor all l.stored l.list.items es;
      many : length l.list.items ≡ l.at;
      within : l.at ≤ length l.relvars.list.entries;
      cost : l.steps + moves_among es all (drop l.at es) ≤ l.initial.steps + moves_among es all es;
    }
