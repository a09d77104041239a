use Rattle.std.proofs.Common.{[], refl, sym, ap, ◌∙◌, subst}
use Rattle.value_core.specs.RowPacking.{packed, unpacked}
use Rattle.relation_core.specs.Parts.{attributes_at, projected}
use Rattle.kept_views.specs.declared.rule.KeptOp.TheVariants.{Project, Pack}
use Rattle.kept_views.specs.Kept.{IsPart, positions_beside}
use Rattle.kept_views.proofs.AnswerLemmas.{as_alone, by_operator}
use Rattle.kept_views.proofs.making.of_one.Goals as goal

pub parts-requires : goal.parts-requires
parts-requires g c =
    let heading = c.args.r.now.heading in
    let at = c.as_slice.ensures.value ∙ c.kept.view_is in
    subst (λ ks. IsPart ks c.args.here.now heading) (sym at) (as_alone c.args.op.now (Project c.in-Project.kept) c.args.here.now heading c.in-Project.is c.requires)

pub returns-in-Project-clause-rows : goal.returns-in-Project-clause-rows
returns-in-Project-clause-rows g c there =
    let r = c.args.r.now in
    let here = c.args.here.now in
    let at = c.as_slice.ensures.value ∙ c.kept.view_is in
    by_operator c.args.op.now (Project c.in-Project.kept) here there r.heading [] r.rows [] c.parts.result c.in-Project.is (attributes_at c.as_slice.result.now r.heading) _ (ap (λ ks. attributes_at ks r.heading) at)
    (λ t. packed (positions_beside r.heading (attributes_at (at t) r.heading) here) (projected (at t) (unpacked here r.rows))) c.parts.ensures.rows

pub packed-requires : goal.packed-requires
packed-requires g c = as_alone c.args.op.now Pack c.args.here.now c.args.r.now.heading c.in-Pack.is c.requires

pub returns-in-Pack-clause-rows : goal.returns-in-Pack-clause-rows
returns-in-Pack-clause-rows g c there =
    by_operator c.args.op.now Pack c.args.here.now there c.args.r.now.heading [] c.args.r.now.rows [] c.packed.result c.in-Pack.is c.args.r.now.heading _ refl refl c.packed.ensures.rows
