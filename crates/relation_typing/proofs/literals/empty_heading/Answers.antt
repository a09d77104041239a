use Rattle.std.proofs.Common.{[], subst}
use Rattle.value_core.specs.Headings.{IsHeadingOf}
use Rattle.value_core.specs.Values.{Heading}
use Rattle.relation_core.proofs.HeadingLemmas.{heading_in_order}
use Rattle.relation_typing.proofs.literals.empty_heading.Goals as goal

pub returns-in-Ok : goal.returns-in-Ok
returns-in-Ok c =
    let made = subst (λ (l : Heading). IsHeadingOf l c.in-Ok.heading) c.new.ensures.items c.in-Ok.ensures in
    heading_in_order [] c.in-Ok.heading tt made.same made.ordered
