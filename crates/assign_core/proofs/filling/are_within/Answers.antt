use Rattle.std.proofs.Common.{◌∙◌, sym, ap, length}
use Rattle.value_core.specs.Values.{Heading}
use Rattle.assign_core.proofs.HashedLemmas.{within_heading}
use Rattle.assign_core.proofs.filling.are_within.Goals as goal

pub returns : goal.returns
returns c e =
    within_heading c.args.value.now.heading (length c.attributes-many.result.now) c.args.positions.now (sym c.are_below.ensures ∙ e)
    (ap (λ (h : Heading). length h) (c.attributes-many.ensures.list ∙ c.heading.ensures.heading))
