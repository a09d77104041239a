use Rattle.std.proofs.Common.{◌≡◌, take}
use Rattle.node_typing.specs.Projections.{renamed_positions}
use Rattle.node_typing.proofs.renamings.renamed_positions.Given as goal

abbrev pub invariant-loop-pair : goal.invariant-loop-pair
invariant-loop-pair l = l.positions.items ≡ renamed_positions (take l.pair-index l.pairs)
