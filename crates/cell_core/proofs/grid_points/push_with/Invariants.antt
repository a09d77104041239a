use Rattle.std.proofs.Common.{◌≡◌, ◌++◌, ◌∷◌, map, take}
use Rattle.cell_core.proofs.grid_points.push_with.Given as goal

abbrev pub invariant-loop-ps : goal.invariant-loop-ps
invariant-loop-ps l = l.out.items ≡ l.fn.out.items ++ map (λ ps. l.n ∷ ps) (take l.ps-index l.rest)
