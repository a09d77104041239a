use Rattle.std.proofs.Common.{◌≡◌, ◌++◌, drop}
use Rattle.node_typing.specs.Positions.{kept_from, kept}
use Rattle.node_typing.proofs.positions.kept_positions.Given as goal

abbrev pub invariant-loop-at : goal.invariant-loop-at
invariant-loop-at l =
    l.positions.items ++ kept_from l.wanted l.named l.at (drop l.at l.list) ≡ kept l.wanted l.named l.list
