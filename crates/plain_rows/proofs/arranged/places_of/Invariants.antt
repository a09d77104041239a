use Rattle.std.proofs.Common.{◌≡◌, take, map}
use Rattle.value_core.specs.Headings.{position_of}
use Rattle.plain_rows.proofs.arranged.places_of.Given as goal

abbrev pub invariant-loop-attribute : goal.invariant-loop-attribute
invariant-loop-attribute l = l.places.items ≡ map (λ a. position_of l.columns a.0) (take l.attribute-index l.attributes)
