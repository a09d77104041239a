use Rattle.std.proofs.Common.{◌≡◌, ◌∷◌, take}
use Rattle.u_row.proofs.cutting.with_first.Given as goal

abbrev pub invariant-loop-side : goal.invariant-loop-side
invariant-loop-side g l = l.list.items ≡ l.piece ∷ take l.side-index l.sides
