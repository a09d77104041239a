use Rattle.std.proofs.Common.{◌++◌, ap₂, subst, ◌∙◌}
use Rattle.scalar_core.specs.Answers.{Gives}
use Rattle.value_core.specs.Values.{Heading}
use Rattle.relation_typing.specs.Attributes.{few_attributes}
use Rattle.node_typing.specs.Headings.{heading_of_list}
use Rattle.node_typing.proofs.HeadingLemmas.{beside}
use Rattle.node_typing.proofs.headings.made_beside.Goals as goal

pub returns : goal.returns
returns c =
    subst (λ (h : Heading). Gives (λ h. h) c.few_attributes.result (few_attributes c.args.place h))
    (c.in_ok-attributes.ensures ∙ (ap₂ (λ (u v : Heading). heading_of_list (u ++ v)) c.attributes.ensures.list (c.as_slice.ensures.value ∙ c.in_ok-new.ensures) ∙ beside c.args.made.entries c.args.from.now)) c.few_attributes.ensures
