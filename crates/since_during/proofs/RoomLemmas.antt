-- There is room for the point and the interval of a history beside the attributes of its facts.
use Rattle.std.specs.Prelude.{◌≤◌, ◌∷◌, length}
use Rattle.std.proofs.Common.{arith}
use Rattle.base_core.proofs.SetOperatorLemmas.{length-in_order}
use Rattle.value_core.specs.declared.kind.Kind.{Kind}
use Rattle.value_core.specs.Limits.{most_attributes}
use Rattle.value_core.specs.Values.{Name, Heading, attribute_cmp}
use Rattle.meaning_core.specs.Histories.{with_attribute}
use Rattle.since_during.specs.Histories.{most_facts}

pub room-one : (h : Heading) (n : Name) (k : Kind) → length h ≤ most_facts → length (with_attribute h n k) ≤ most_attributes
room-one h n k few =
    let one = length-in_order attribute_cmp ((n, k) ∷ h) in
    omega (arith, one, few)

pub room-two : (h : Heading) (n m : Name) (k l : Kind) → length h ≤ most_facts → length (with_attribute (with_attribute h n k) m l) ≤ most_attributes
room-two h n m k l few =
    let one = length-in_order attribute_cmp ((n, k) ∷ h) in
    let two = length-in_order attribute_cmp ((m, l) ∷ with_attribute h n k) in
    omega (arith, one, two, few)
