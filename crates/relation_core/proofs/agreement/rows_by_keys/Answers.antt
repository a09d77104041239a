use Rattle.std.proofs.Common.{◌<◌, List, length, arith, refl, sym, ap, ◌∙◌, subst, IsTrue}
use Rattle.std.specs.List.{list_all}
use Rattle.value_core.specs.Values.{Row, fits_heading}
use Rattle.relation_core.specs.Agreement.{as_wanted, part_of}
use Rattle.relation_core.proofs.AgreementLemmas.{length_of_fit, keys_more}
use Rattle.relation_core.proofs.FilterLemmas.{passes_at}
use Rattle.relation_core.proofs.agreement.rows_by_keys.Goals as goal

pub contains_part-requires-clause-within : goal.contains_part-requires-clause-within
contains_part-requires-clause-within c k d within =
    let lt : c.loop-row.row-index < length c.rows-given.result.now = omega arith in
    let fits : IsTrue (fits_heading c.args.r.now.heading c.row-item.result) =
    subst (λ (z : Row). IsTrue (fits_heading c.args.r.now.heading z)) (sym c.row-item.is)
    (passes_at (fits_heading c.args.r.now.heading) c.rows-given.result.now c.loop-row.row-index c.row-item.result
    (subst (λ (r : List Row). IsTrue (list_all (fits_heading c.args.r.now.heading) r)) (sym c.rows-given.ensures.rows) c.rows-given.ensures.relation.fitting) lt) in
    let same = length_of_fit c.args.r.now.heading c.row-item.result fits in
    let below = c.requires.within k d within in
    omega (arith, same, below)

pub loop-row-preserved : goal.loop-row-preserved
loop-row-preserved c =
    let lt : c.loop-row.row-index < length c.rows-given.result.now = omega arith in
    let kept = c.as_wanted-kept.ensures ∙ ap (as_wanted c.args.wanted) c.contains_part.ensures in
    keys_more c.args.wanted c.args.keys.now c.args.positions.now c.rows-given.result.now c.loop-row.row-index c.row-item.result (part_of c.args.positions.now c.row-item.result) _ _ _ lt c.row-item.is refl kept c.loop-row.invariant c.in_ok-keep.ensures
