use Rattle.std.proofs.Common.{◌≤◌, ◌<◌, ℕ, length, sym, ap, ◌∙◌, subst}
use Rattle.std.specs.List.{All}
use Rattle.value_core.specs.Headings.{most_attributes}
use Rattle.value_core.specs.RowPacking.{packed, unpacked}
use Rattle.value_core.specs.Values.{Heading}
use Rattle.relation_core.specs.Joins.{joined}
use Rattle.relation_core.specs.Parts.{attributes_at}
use Rattle.u_set.specs.Boxes.{AreIntervals}
use Rattle.kept_views.specs.Kept.{positions_beside}
use Rattle.kept_views.proofs.AnswerLemmas.{answered}
use Rattle.kept_views.proofs.HeadingLemmas.{joined_same, joined_intervals}
use Rattle.kept_views.proofs.making.joined_rows.Goals as goal

pub joined_heading-requires-clause-kinds : goal.joined_heading-requires-clause-kinds
joined_heading-requires-clause-kinds g c = c.requires.are.kinds

pub joined_heading-requires-clause-few : goal.joined_heading-requires-clause-few
joined_heading-requires-clause-few g c = c.requires.few

pub positions_beside-requires : goal.positions_beside-requires
positions_beside-requires g c =
    let own = c.attributes-own.ensures.list ∙ c.heading.ensures.heading in
    subst (λ (h : Heading). All (λ (i : ℕ). i < length h) c.args.here.now) (sym own) c.requires.are.first.within

pub joined-requires-clause-few : goal.joined-requires-clause-few
joined-requires-clause-few g c = subst (λ (h : Heading). length h ≤ most_attributes) (sym c.in_ok-heading.ensures) c.requires.few

pub joined-requires-clause-kinds : goal.joined-requires-clause-kinds
joined-requires-clause-kinds g c = c.requires.are.kinds

pub joined-requires-clause-same : goal.joined-requires-clause-same
joined-requires-clause-same g c = c.requires.are.same

pub joined-requires-clause-left : goal.joined-requires-clause-left
joined-requires-clause-left g c = c.requires.are.first

pub joined-requires-clause-right : goal.joined-requires-clause-right
joined-requires-clause-right g c = c.requires.are.second

pub joined-requires-clause-listed : goal.joined-requires-clause-listed
joined-requires-clause-listed g c =
    let left = c.args.left.now in
    let right = c.args.right.now in
    let own = c.attributes-own.ensures.list ∙ c.heading.ensures.heading in
    let whole = c.attributes.ensures.list ∙ c.in_ok-heading.ensures in
    let at = c.as_slice.ensures.value ∙ c.in_ok-places.ensures ∙ (λ t. positions_beside (own t) (whole t) c.args.here.now) in
    (λ t. attributes_at (at t) (c.in_ok-heading.ensures t))
    ∙ joined_same left right c.heading.ensures.relation c.heading-2.ensures.relation c.args.here.now c.requires.are.kinds c.requires.are.first

pub joined-requires-clause-intervals : goal.joined-requires-clause-intervals
joined-requires-clause-intervals g c =
    let left = c.args.left.now in
    let right = c.args.right.now in
    let own = c.attributes-own.ensures.list ∙ c.heading.ensures.heading in
    let whole = c.attributes.ensures.list ∙ c.in_ok-heading.ensures in
    let at = c.as_slice.ensures.value ∙ c.in_ok-places.ensures ∙ (λ t. positions_beside (own t) (whole t) c.args.here.now) in
    subst (λ T. T) (λ t. AreIntervals (sym c.in_ok-heading.ensures t) (sym at t))
    (joined_intervals left right c.heading.ensures.relation c.heading-2.ensures.relation c.args.here.now c.requires.are.kinds c.requires.are.first)

pub returns-clause-rows : goal.returns-clause-rows
returns-clause-rows g c =
    let left = c.args.left.now in
    let right = c.args.right.now in
    let own = c.attributes-own.ensures.list ∙ c.heading.ensures.heading in
    let whole = c.attributes.ensures.list ∙ c.in_ok-heading.ensures in
    let at = c.as_slice.ensures.value ∙ c.in_ok-places.ensures ∙ (λ t. positions_beside (own t) (whole t) c.args.here.now) in
    answered c.joined.result _ _ _ _ c.in_ok-heading.ensures
    (ap (λ ps. packed ps (joined left.heading right.heading (unpacked c.args.here.now left.rows) (unpacked c.args.there.now right.rows))) at) c.joined.ensures.rows
