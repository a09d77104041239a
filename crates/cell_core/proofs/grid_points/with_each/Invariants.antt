use Rattle.std.proofs.Common.{◌≡◌, ◌≤ℤ◌, ◌-ℤ◌, pos, ◌∷◌, map, w64, to_z, of_z}
use Rattle.std.specs.List.{flat_map}
use Rattle.interval_core.specs.Members.{members}
use Rattle.cell_core.proofs.grid_points.with_each.Given as goal

abbrev pub invariant-loop-n : goal.invariant-loop-n
invariant-loop-n l = record {
  low : l.span.0 ≤ℤ l.n;
  high : l.n ≤ℤ l.span.1;
  last : to_z w64 (of_z w64 l.span.1) ≡ l.span.1;
  items : l.out.items ≡ flat_map (λ p. map (λ ps. p ∷ ps) l.rest) (members (l.span.0, l.n -ℤ pos 1));
}
