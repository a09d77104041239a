use Rattle.std.proofs.Common.{◌≡◌, ◌++◌, drop}
use Rattle.node_typing.specs.Projections.{names_from}
use Rattle.node_typing.proofs.renamings.names_behind.Given as goal

abbrev pub invariant-loop-at : goal.invariant-loop-at
invariant-loop-at l = l.names.items ++ names_from l.pairs l.at (drop l.at l.list) ≡ names_from l.pairs 0 l.list
