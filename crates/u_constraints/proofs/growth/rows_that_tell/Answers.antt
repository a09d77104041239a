use Rattle.std.proofs.Common.{◌≡◌, ◌∙◌, sym}
use Rattle.value_core.specs.Values.{Relation}
use Rattle.u_set.proofs.ApartLemmas.{if_ok}
use Rattle.relation_core.specs.Growth.{touched}
use Rattle.u_constraints.specs.Beside.{AreBeside}
use Rattle.u_constraints.specs.Growth.{Tells}
use Rattle.u_constraints.proofs.TellingLemmas.{told_within, told_relate}
use Rattle.u_constraints.proofs.TellsLemmas.{beside_tells, touched_tells, interval_of_only}
use Rattle.u_constraints.proofs.growth.rows_that_tell.Goals as goal

pub touched_beside-requires-clause-interval : goal.touched_beside-requires-clause-interval
touched_beside-requires-clause-interval c =
    interval_of_only c.args.c.now c.args.change.of.now.heading c.requires.fits.0 c.in-Some.at c.requires.fits.1 (sym c.only_unpacked.ensures ∙ c.in-Some.is)

pub touched_beside-requires-clause-within : goal.touched_beside-requires-clause-within
touched_beside-requires-clause-within c = told_within c.args.c.now c.args.change.of.now.heading c.requires.fits.0 c.args.positions.now c.requires.fits.1 c.requires.telling

pub touched_with-requires-clause-within : goal.touched_with-requires-clause-within
touched_with-requires-clause-within c = told_within c.args.c.now c.args.change.of.now.heading c.requires.fits.0 c.args.positions.now c.requires.fits.1 c.requires.telling

pub returns-in-Some : goal.returns-in-Some
returns-in-Some c =
    let of = c.args.change.of.now in
    let come = c.args.change.come.now in
    let positions = c.args.positions.now in
    let relate = told_relate c.args.c.now _ positions c.requires.telling in
    if_ok (λ (r : Relation). (r.heading ≡ of.heading) × AreBeside positions c.in-Some.at come.rows of.rows r.rows) (λ (r : Relation). (r.heading ≡ of.heading) × Tells c.args.c.now of.rows come.rows r.rows)
    (λ r h. (h.0, beside_tells of come c.requires.relation c.requires.relation_come c.requires.heading positions c.args.c.now c.requires.fits.0 c.requires.fits.1 relate c.in-Some.at r.rows (sym c.only_unpacked.ensures ∙ c.in-Some.is) h.1))
    c.touched_beside.result c.touched_beside.ensures

pub returns-in-None : goal.returns-in-None
returns-in-None c =
    let of = c.args.change.of.now in
    let come = c.args.change.come.now in
    let positions = c.args.positions.now in
    let relate = told_relate c.args.c.now _ positions c.requires.telling in
    if_ok (λ (r : Relation). (r.heading ≡ of.heading) × (r.rows ≡ touched positions come.rows of.rows)) (λ (r : Relation). (r.heading ≡ of.heading) × Tells c.args.c.now of.rows come.rows r.rows)
    (λ r h. (h.0, touched_tells of come c.requires.relation c.requires.relation_come c.requires.heading positions c.args.c.now c.requires.fits.0 c.requires.fits.1 relate r.rows h.1))
    c.touched_with.result c.touched_with.ensures.rows
