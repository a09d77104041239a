use Rattle.std.proofs.Common.{◌≡◌, ◌++◌, map}
use Rattle.cell_core.proofs.grid_points.push_grid_points.Given as goal

abbrev pub invariant-loop-numbers : goal.invariant-loop-numbers
invariant-loop-numbers g l = record {
  can : (goal.iterator-loop-numbers g).can_next l.numbers-iterator;
  ends : (goal.iterator-loop-numbers g).is_finite l.numbers-iterator;
  items : l.out.items ≡ l.fn.out.items ++ map (λ ps. (l.label, ps)) l.yielded;
}
