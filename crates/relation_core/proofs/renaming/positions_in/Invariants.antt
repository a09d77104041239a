use Rattle.std.proofs.Common.{◌≡◌, take}
use Rattle.relation_core.specs.Parts.{positions_in}
use Rattle.relation_core.proofs.renaming.positions_in.Given as goal

abbrev pub invariant-loop-attribute : goal.invariant-loop-attribute
invariant-loop-attribute l = l.positions.items ≡ positions_in l.list (take l.attribute-index l.heading)
