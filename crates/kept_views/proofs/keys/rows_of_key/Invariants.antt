use Rattle.std.proofs.Common.{◌≡◌, take}
use Rattle.kept_views.specs.Kept.{of_key}
use Rattle.kept_views.proofs.keys.rows_of_key.Given as goal

abbrev pub invariant-loop-row : goal.invariant-loop-row
invariant-loop-row l = l.rows.items ≡ of_key l.positions l.key (take l.row-index l.given)
