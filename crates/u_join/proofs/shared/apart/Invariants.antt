use Rattle.std.proofs.Common.{◌≡◌, take}
use Rattle.u_join.specs.Shared.{left_positions, right_positions}
use Rattle.u_join.proofs.shared.apart.Given as goal

abbrev pub invariant-loop-pair : goal.invariant-loop-pair
invariant-loop-pair l = record {
  left : l.here.items ≡ left_positions (take l.pair-index l.shared);
  right : l.there.items ≡ right_positions (take l.pair-index l.shared);
}
