use Rattle.std.proofs.Common.{◌≡◌, drop}
use Rattle.tree_core.specs.Trees.{read_sets}
use Rattle.node_typing.specs.Sweeps.{sets_swept}
use Rattle.node_typing.proofs.sweeps.sets_swept.Given as goal

abbrev pub invariant-loop-set : goal.invariant-loop-set
invariant-loop-set l = sets_swept l.commalist (read_sets (drop l.set-index l.sets)) ≡ sets_swept l.commalist (read_sets l.sets)
