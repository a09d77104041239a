use Rattle.std.proofs.Common.{◌≡◌, ◌++◌, take}
use Rattle.relation_core.specs.Parts.{positions_in}
use Rattle.u_join.proofs.names.joined_places.Given as goal

abbrev pub invariant-loop-attribute : goal.invariant-loop-attribute
invariant-loop-attribute l = l.list.items ≡ positions_in (l.left ++ l.right) (take l.attribute-index l.heading)
