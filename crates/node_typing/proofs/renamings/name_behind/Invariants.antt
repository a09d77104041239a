use Rattle.std.proofs.Common.{◌≡◌, drop}
use Rattle.node_typing.specs.Projections.{name_behind}
use Rattle.node_typing.proofs.renamings.name_behind.Given as goal

abbrev pub invariant-loop-pair : goal.invariant-loop-pair
invariant-loop-pair l = name_behind (drop l.pair-index l.pairs) l.at l.name ≡ name_behind l.pairs l.at l.name
