use Rattle.std.proofs.Common.{◌≡◌, true, sym, ◌∙◌}
use Rattle.std.specs.Cmp.Lexicographic.{pointwise}
use Rattle.assign_core.proofs.NewRowLemmas.{attribute_eq, headings_same}
use Rattle.assign_core.proofs.new_rows.has_heading_of.Goals as goal

pub returns : goal.returns
returns c = λ told.
    let same : pointwise attribute_eq c.attributes.result.now c.attributes-2.result.now ≡ true = sym c.eq.ensures ∙ told in
    sym (c.attributes.ensures.list ∙ c.heading.ensures.heading)
    ∙ (headings_same c.attributes.result.now c.attributes-2.result.now same
    ∙ (c.attributes-2.ensures.list ∙ c.heading-2.ensures.heading))
