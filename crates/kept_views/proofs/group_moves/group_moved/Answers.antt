use Rattle.std.proofs.Common.{ℕ, ◌<◌, length, sym, subst}
use Rattle.std.specs.List.{All}
use Rattle.kept_views.proofs.group_moves.group_moved.Goals as goal

pub rows_of_key-requires : goal.rows_of_key-requires
rows_of_key-requires g c = subst (All (λ (i : ℕ). i < length c.args.view.now.heading)) (sym c.as_slice.ensures.value) c.in_ok-places.ensures.within
