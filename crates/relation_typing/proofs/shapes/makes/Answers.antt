use Rattle.std.proofs.Common.{◌≡◌, [], Some, option_map, sym, ap, ◌∙◌}
use Rattle.value_core.specs.Values.{Heading}
use Rattle.relation_typing.specs.Shapes.{shape_made}
use Rattle.relation_typing.proofs.ShapeLemmas.{same-headings}
use Rattle.relation_typing.proofs.shapes.makes.Goals as goal

pub returns-in_ok-list-in-Some : goal.returns-in_ok-list-in-Some
returns-in_ok-list-in-Some c = λ same.
    let made : shape_made [] c.args.shape.now ≡ Some c.in-Some.attributes.entries = sym c.in_ok-attributes.ensures ∙ ap (option_map (λ a. a.entries)) c.in-Some.is in
    let one : c.as_slice.result.now ≡ c.attributes.result.now = same-headings c.as_slice.result.now c.attributes.result.now (sym c.same_attributes.ensures ∙ same) in
    made ∙ ap (λ (h : Heading). Some h) (sym c.in_ok-list-in-Some.ensures ∙ (sym c.as_slice.ensures.value ∙ (one ∙ c.attributes.ensures.list)))
