use Rattle.std.proofs.Common.{◌<◌, List, length, arith, sym, subst, IsTrue}
use Rattle.std.specs.List.{list_all}
use Rattle.value_core.specs.Values.{Row, fits_heading}
use Rattle.relation_core.proofs.AgreementLemmas.{length_of_fit}
use Rattle.relation_core.proofs.FilterLemmas.{passes_at}
use Rattle.relation_core.proofs.GroupLemmas.{entry_more}
use Rattle.relation_core.proofs.keys.keyed.Goals as goal

pub part-requires : goal.part-requires
part-requires c k d within =
    let lt : c.loop-number.number < length c.rows-rows.result.now = omega arith in
    let fits : IsTrue (fits_heading c.args.r.now.heading c.index-rows-number.result) =
    subst (λ (z : Row). IsTrue (fits_heading c.args.r.now.heading z)) (sym c.index-rows-number.is)
    (passes_at (fits_heading c.args.r.now.heading) c.rows-rows.result.now c.loop-number.number c.index-rows-number.result
    (subst (λ (r : List Row). IsTrue (list_all (fits_heading c.args.r.now.heading) r)) (sym c.rows-rows.ensures.rows) c.rows-rows.ensures.relation.fitting) lt) in
    let same = length_of_fit c.args.r.now.heading c.index-rows-number.result fits in
    let below = c.requires k d within in
    omega (arith, same, below)

pub loop-number-preserved : goal.loop-number-preserved
loop-number-preserved c =
    let lt : c.loop-number.number < length c.rows-rows.result.now = omega arith in
    entry_more c.args.positions.now c.rows-rows.result.now c.loop-number.number c.index-rows-number.result c.in_ok-part.field-0 c.loop-number.list.items _ lt c.index-rows-number.is c.in_ok-part.ensures
    c.loop-number.invariant c.in_ok-push.ensures.items
