use Rattle.std.proofs.Common.{◌≡◌, take}
use Rattle.relation_core.specs.Parts.{renamed}
use Rattle.relation_core.proofs.renaming.renamed.Given as goal

abbrev pub invariant-loop-at : goal.invariant-loop-at
invariant-loop-at l = l.list.items ≡ renamed (take l.at l.names) (take l.at l.attributes)
