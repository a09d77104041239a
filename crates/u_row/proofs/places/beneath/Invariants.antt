use Rattle.std.proofs.Common.{◌≡◌, take}
use Rattle.u_row.specs.Kept.{beneath}
use Rattle.u_row.proofs.places.beneath.Given as goal

abbrev pub invariant-loop-j : goal.invariant-loop-j
invariant-loop-j l = l.positions.items ≡ beneath l.kept (take l.j-index l.commalist)
