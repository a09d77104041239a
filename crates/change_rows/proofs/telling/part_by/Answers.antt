use Rattle.std.proofs.Common.{◌≡◌, ap, ◌∙◌}
use Rattle.value_core.specs.Values.{Heading}
use Rattle.scalar_core.specs.Expressions.{read}
use Rattle.u_set.specs.Apart.{outside}
use Rattle.u_constraints.proofs.GrowthLemmas.{outside_within}
use Rattle.change_rows.proofs.PartLemmas.{part_closed, others_told}
use Rattle.change_rows.proofs.telling.part_by.Goals as goal

pub touched_with-requires-clause-within : goal.touched_with-requires-clause-within
touched_with-requires-clause-within c =
    let at : c.as_slice.result.now ≡ outside c.args.commalist.now c.args.value.now.heading =
    c.as_slice.ensures.value ∙ (c.in_ok-label.ensures ∙ ap (λ (h : Heading). outside c.args.commalist.now h) (c.attributes.ensures.list ∙ c.heading.ensures.heading)) in
    outside_within c.args.commalist.now c.args.value.now.heading c.as_slice.result.now at

pub returns-clause-part : goal.returns-clause-part
returns-clause-part c =
    let at : c.as_slice.result.now ≡ outside c.args.commalist.now c.args.value.now.heading =
    c.as_slice.ensures.value ∙ (c.in_ok-label.ensures ∙ ap (λ (h : Heading). outside c.args.commalist.now h) (c.attributes.ensures.list ∙ c.heading.ensures.heading)) in
    part_closed c.args.commalist.now c.args.value.now c.in_ok-part.part c.as_slice.result.now c.in_ok-few.few.rows c.heading.ensures.relation at c.in_ok-part.ensures.rows.0 c.in_ok-part.ensures.rows.1

pub returns-clause-others : goal.returns-clause-others
returns-clause-others c =
    others_told (read c.args.g.now) c.as_slice.result.now c.args.value.now.rows c.in_ok-few.few.rows c.in_ok-part.part.rows c.in_ok-few.ensures.1 c.in_ok-part.ensures.rows.1
