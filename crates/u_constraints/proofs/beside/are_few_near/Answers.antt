use Rattle.std.proofs.Common.{[], ◌∷◌, sym, subst}
use Rattle.value_core.specs.Values.{Heading}
use Rattle.u_set.specs.Boxes.{AreIntervals}
use Rattle.u_constraints.proofs.CoverLemmas.{spans_held}
use Rattle.u_constraints.proofs.beside.are_few_near.Goals as goal

pub hull_of-hull-requires : goal.hull_of-hull-requires
hull_of-hull-requires c =
    spans_held c.args.few.now c.rows.ensures.relation c.args.at (subst (λ (h : Heading). AreIntervals h (c.args.at ∷ [])) (sym c.requires.heading) c.requires.interval) c.rows.result.now c.rows.ensures.rows

pub are_few_beside-requires : goal.are_few_beside-requires
are_few_beside-requires c = spans_held c.args.many.now c.rows-2.ensures.relation c.args.at c.requires.interval c.rows-2.result.now c.rows-2.ensures.rows
