use Rattle.std.proofs.Common.{◌≡◌, take}
use Rattle.u_row.specs.Kept.{inner}
use Rattle.u_row.proofs.places.inner.Given as goal

abbrev pub invariant-loop-i : goal.invariant-loop-i
invariant-loop-i l = l.places.items ≡ inner l.commalist (take l.i-index l.kept)
