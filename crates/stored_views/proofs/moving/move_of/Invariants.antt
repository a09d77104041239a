use Rattle.tree_core.specs.Relvars.{read_relvars}
use Rattle.tree_core.specs.Trees.{read_tree}
use Rattle.relvar_logs.specs.Changes.{changed}
use Rattle.stored_views.specs.Moves.{left_value, right_value}
use Rattle.stored_views.proofs.moving.move_of.Given as goal

abbrev pub ghost-told_move : goal.ghost-told_move
ghost-told_move g a =
    let all = changed g.after (read_relvars a.relvars.now).relvars in
    let t = read_tree a.tree.now in
    (g.after, (left_value all t, right_value all t))
