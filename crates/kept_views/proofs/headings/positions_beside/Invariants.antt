use Rattle.std.proofs.Common.{◌≡◌, take}
use Rattle.kept_views.specs.Kept.{positions_beside}
use Rattle.kept_views.proofs.headings.positions_beside.Given as goal

abbrev pub invariant-loop-i : goal.invariant-loop-i
invariant-loop-i l = l.list.items ≡ positions_beside l.from l.to (take l.i-index l.positions)
