use Rattle.std.proofs.Common.{◌≡◌, [], drop}
use Rattle.relation_typing.specs.Shapes.{shape_made}
use Rattle.relation_typing.proofs.shapes.attributes_of.Given as goal

abbrev pub invariant-loop-attribute : goal.invariant-loop-attribute
invariant-loop-attribute l = shape_made l.before.entries (drop l.attribute-index l.shape) ≡ shape_made [] l.shape
