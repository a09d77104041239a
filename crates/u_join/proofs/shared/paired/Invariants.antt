use Rattle.std.proofs.Common.{◌≡◌, take}
use Rattle.u_join.specs.Shared.{left_positions, right_positions}
use Rattle.u_join.proofs.shared.paired.Given as goal

abbrev pub invariant-loop-at : goal.invariant-loop-at
invariant-loop-at l = record {
  left : left_positions l.list.items ≡ take l.at l.here;
  right : right_positions l.list.items ≡ take l.at l.there;
}
