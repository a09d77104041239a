use Rattle.std.proofs.Common.{◌<◌, List, length, arith, sym, subst, IsTrue}
use Rattle.std.specs.List.{list_all}
use Rattle.value_core.specs.Values.{Row, fits_heading}
use Rattle.relation_core.proofs.AgreementLemmas.{length_of_fit}
use Rattle.relation_core.proofs.FilterLemmas.{passes_at}
use Rattle.kept_views.proofs.keys.rows_of_key.Goals as goal

pub part-requires : goal.part-requires
part-requires c k d within =
    let lt : c.loop-row.row-index < length c.rows-given.result.now = omega arith in
    let fits : IsTrue (fits_heading c.args.r.now.heading c.row-item.result) =
    subst (λ (z : Row). IsTrue (fits_heading c.args.r.now.heading z)) (sym c.row-item.is)
    (passes_at (fits_heading c.args.r.now.heading) c.rows-given.result.now c.loop-row.row-index c.row-item.result
    (subst (λ (r : List Row). IsTrue (list_all (fits_heading c.args.r.now.heading) r)) (sym c.rows-given.ensures.rows) c.rows-given.ensures.relation.fitting) lt) in
    let same = length_of_fit c.args.r.now.heading c.row-item.result fits in
    let below = c.requires k d within in
    omega (arith, same, below)
