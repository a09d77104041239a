use Rattle.std.proofs.Common.{◌≡◌, ◌++◌, ◌∷◌, map, take}
use Rattle.u_row.proofs.cutting.push_with.Given as goal

abbrev pub invariant-loop-sides : goal.invariant-loop-sides
invariant-loop-sides g l = l.out.items ≡ l.fn.out.items ++ map (λ s. l.piece ∷ s) (take l.sides-index l.rest)
