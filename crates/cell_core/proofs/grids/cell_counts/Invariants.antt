use Rattle.std.proofs.Common.{◌≡◌, map, take, length}
use Rattle.cell_core.proofs.grids.cell_counts.Given as goal

abbrev pub invariant-loop-s : goal.invariant-loop-s
invariant-loop-s g l = l.out.items ≡ map (λ s. length s.0) (take l.s-index l.sides)
