use Rattle.std.proofs.Common.{◌≡◌, ◌∙◌, [], ◌∷◌, ap, sym, subst}
use Rattle.value_core.specs.Values.{Heading, Relation}
use Rattle.relation_core.specs.Parts.{projected}
use Rattle.u_set.specs.Boxes.{AreIntervals}
use Rattle.u_constraints.proofs.CoverLemmas.{spans_held}
use Rattle.u_constraints.proofs.FrontLemmas.{front_fit, front_few, front_beside}
use Rattle.u_constraints.proofs.beside.sought_beside.Goals as goal

pub hull_of-hull-requires : goal.hull_of-hull-requires
hull_of-hull-requires c =
    spans_held c.args.few.now c.rows.ensures.relation c.args.side.at (subst (λ (h : Heading). AreIntervals h (c.args.side.at ∷ [])) (sym c.requires.heading) c.requires.interval) c.rows.result.now c.rows.ensures.rows

pub relation_of-requires-clause-fitting : goal.relation_of-requires-clause-fitting
relation_of-requires-clause-fitting c =
    front_fit c.args.many.now c.in_ok-rows.ensures.relation c.args.side.label.now c.args.side.at c.hull_of-hull.result c.as_slice.result.now c.in_ok-rows.rows.items c.in_ok-rows.ensures.rows
    c.in_ok-heading.heading (c.in_ok-heading.ensures ∙ c.heading.ensures.heading)

pub relation_of-requires-clause-few : goal.relation_of-requires-clause-few
relation_of-requires-clause-few c =
    front_few c.args.many.now c.in_ok-rows.ensures.relation c.args.side.label.now c.args.side.at c.hull_of-hull.result c.as_slice.result.now c.in_ok-rows.rows.items c.in_ok-rows.ensures.rows

pub returns : goal.returns
returns c =
    let parts : c.as_slice.result.now ≡ projected c.args.side.label.now c.args.few.now.rows = c.as_slice.ensures.value ∙ c.in_ok-keys.ensures.parts in (
      ap (λ (r : Relation). r.heading) c.in_ok-relation.ensures ∙ (c.in_ok-heading.ensures ∙ c.heading.ensures.heading),
      front_beside c.args.many.now c.in_ok-rows.ensures.relation c.args.side.label.now c.args.side.at c.hull_of-hull.result c.as_slice.result.now c.in_ok-rows.rows.items c.in_ok-rows.ensures.rows
          c.args.few.now.rows c.requires.first c.requires.within parts c.in_ok-relation.relation.rows c.rows.result.now (ap (λ (r : Relation). r.rows) c.in_ok-relation.ensures) c.rows.ensures.rows c.hull_of-hull.ensures,
    )
