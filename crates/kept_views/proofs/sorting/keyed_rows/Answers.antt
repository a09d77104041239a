use Rattle.std.proofs.Common.{◌<◌, List, length, arith, sym, subst, IsTrue}
use Rattle.std.specs.List.{list_all}
use Rattle.value_core.specs.Values.{Row, fits_heading}
use Rattle.relation_core.proofs.AgreementLemmas.{length_of_fit}
use Rattle.relation_core.proofs.FilterLemmas.{passes_at}
use Rattle.kept_views.proofs.SortedLemmas.{one_kept}
use Rattle.kept_views.proofs.sorting.keyed_rows.Goals as goal

pub keep_keyed-requires-clause-within : goal.keep_keyed-requires-clause-within
keep_keyed-requires-clause-within c k d within =
    let lt : c.loop-row.row-index < length c.rows-rows.result.now = omega arith in
    let fits : IsTrue (fits_heading c.args.r.now.heading c.row-item.result) =
    subst (λ (z : Row). IsTrue (fits_heading c.args.r.now.heading z)) (sym c.row-item.is)
    (passes_at (fits_heading c.args.r.now.heading) c.rows-rows.result.now c.loop-row.row-index c.row-item.result
    (subst (λ (r : List Row). IsTrue (list_all (fits_heading c.args.r.now.heading) r)) (sym c.rows-rows.ensures.rows) c.rows-rows.ensures.relation.fitting) lt) in
    let same = length_of_fit c.args.r.now.heading c.row-item.result fits in
    let below = c.requires.within k d within in
    omega (arith, same, below)

pub loop-row-preserved : goal.loop-row-preserved
loop-row-preserved c =
    let lt : c.loop-row.row-index < length c.rows-rows.result.now = omega arith in
    one_kept c.args.positions.now c.args.keys.now c.rows-rows.result.now c.loop-row.row-index c.row-item.result c.loop-row.list.items _ lt c.row-item.is c.loop-row.invariant c.in_ok-keep_keyed.ensures
