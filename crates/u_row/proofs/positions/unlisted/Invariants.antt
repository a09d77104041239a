use Rattle.std.proofs.Common.{◌≡◌, take}
use Rattle.u_row.specs.Kept.{unlisted}
use Rattle.u_row.proofs.positions.unlisted.Given as goal

abbrev pub invariant-loop-i : goal.invariant-loop-i
invariant-loop-i l = l.list.items ≡ unlisted l.commalist (take l.i-index l.positions)
