use Rattle.std.proofs.Common.{◌≡◌, ◌++◌, take, map}
use Rattle.cell_sweep.specs.TwoSides.{slab}
use Rattle.cell_sweep.proofs.two_sides.push_slab.Given as goal

abbrev pub invariant-loop-run : goal.invariant-loop-run
invariant-loop-run l = l.out.items ≡ l.initial.out.items ++ map (slab l.begin l.end) (take l.run-index l.runs)
