use Rattle.std.proofs.Common.{◌≡◌, take}
use Rattle.value_core.proofs.heading.Heading.copy.Given as goal

abbrev pub invariant-loop-attribute : goal.invariant-loop-attribute
invariant-loop-attribute l = l.attributes.items ≡ take l.attribute-index l.attribute-items
