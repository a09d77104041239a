use Rattle.std.proofs.Common.{◌<◌, ℕ, length, sym, ap, ◌∙◌, subst}
use Rattle.std.specs.List.{All}
use Rattle.value_core.specs.RowPacking.{packed, unpacked}
use Rattle.value_core.specs.Values.{Heading}
use Rattle.relation_core.specs.Parts.{projected}
use Rattle.u_row.specs.Kept.{beneath}
use Rattle.u_set.specs.Boxes.{AreIntervals}
use Rattle.kept_views.specs.Kept.{positions_beside}
use Rattle.kept_views.proofs.AnswerLemmas.{answered}
use Rattle.kept_views.proofs.HeadingLemmas.{part_intervals, part_beneath}
use Rattle.kept_views.proofs.making.parts.Goals as goal

pub part_heading-requires-clause-ascending : goal.part_heading-requires-clause-ascending
part_heading-requires-clause-ascending g c = c.requires.ascending

pub part_heading-requires-clause-within : goal.part_heading-requires-clause-within
part_heading-requires-clause-within g c = c.requires.within

pub positions_beside-requires : goal.positions_beside-requires
positions_beside-requires g c =
    let own = c.attributes-own.ensures.list ∙ c.heading.ensures.heading in
    subst (λ (h : Heading). All (λ (i : ℕ). i < length h) c.args.here.now) (sym own) c.requires.intervals.within

pub projected-requires-clause-ascending : goal.projected-requires-clause-ascending
projected-requires-clause-ascending g c = c.requires.ascending

pub projected-requires-clause-within : goal.projected-requires-clause-within
projected-requires-clause-within g c = c.requires.within

pub projected-requires-clause-intervals : goal.projected-requires-clause-intervals
projected-requires-clause-intervals g c =
    let own = c.attributes-own.ensures.list ∙ c.heading.ensures.heading in
    let whole = c.attributes.ensures.list ∙ c.in_ok-heading.ensures in
    let at = c.as_slice.ensures.value ∙ c.in_ok-places.ensures ∙ (λ t. positions_beside (own t) (whole t) c.args.here.now) in
    subst (λ T. T) (λ t. AreIntervals (sym c.in_ok-heading.ensures t) (sym at t))
    (part_intervals c.args.r.now c.heading.ensures.relation c.args.kept.now c.args.here.now c.requires)

pub returns-clause-rows : goal.returns-clause-rows
returns-clause-rows g c =
    let r = c.args.r.now in
    let kept = c.args.kept.now in
    let own = c.attributes-own.ensures.list ∙ c.heading.ensures.heading in
    let whole = c.attributes.ensures.list ∙ c.in_ok-heading.ensures in
    let at = c.as_slice.ensures.value ∙ c.in_ok-places.ensures ∙ (λ t. positions_beside (own t) (whole t) c.args.here.now) in
    let under = ap (beneath kept) at ∙ part_beneath r c.heading.ensures.relation kept c.args.here.now c.requires in
    answered c.projected.result _ _ _ _ c.in_ok-heading.ensures
    (λ t. packed (at t) (projected kept (unpacked (under t) r.rows))) c.projected.ensures.rows
