use Rattle.std.proofs.Common.{◌≡◌, drop}
use Rattle.tree_core.specs.Relvars.{read_relvars}
use Rattle.relvar_logs.specs.Room.{left_of}
use Rattle.stored_views.specs.Stored.{rows_among}
use Rattle.stored_views.proofs.counting.room_with.Given as goal

abbrev pub ghost-moved_rows_at : goal.ghost-moved_rows_at
ghost-moved_rows_at g a = g.behind

abbrev pub invariant-loop-at : goal.invariant-loop-at
invariant-loop-at g l =
    let es = (read_relvars l.relvars).relvars in
    left_of l.initial.most (rows_among g.behind es) ≡ left_of l.room (rows_among g.behind (drop l.at es))
