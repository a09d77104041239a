use Rattle.std.proofs.Common.{[], ◌∷◌, refl, ◌∙◌, subst}
use Rattle.std.proofs.lemmas.List.{map-id}
use Rattle.value_core.specs.Values.{Row}
use Rattle.u_set.specs.Apart.{HasInterval, IsChain, outside}
use Rattle.u_set.specs.declared.apart.Gap.TheVariants.{One}
use Rattle.u_set.proofs.ApartLemmas.{held_all, rows_have_spans}
use Rattle.u_set.proofs.row_comparison.stand_both_in_time.Goals as goal

pub stand_in_time-requires : goal.stand_in_time-requires
stand_in_time-requires c =
    held_all (λ (r : Row). r) (HasInterval c.args.at) c.rows.result.now c.args.left.now.rows (map-id c.rows.result.now ∙ c.rows.ensures.rows)
    (λ x i. rows_have_spans c.args.left.now c.rows.ensures.relation c.args.left.now.heading refl c.args.at c.requires.interval x i)

pub stand_in_time-stand-requires : goal.stand_in_time-stand-requires
stand_in_time-stand-requires c =
    held_all (λ (r : Row). r) (HasInterval c.args.at) c.rows-2.result.now c.args.right.now.rows (map-id c.rows-2.result.now ∙ c.rows-2.ensures.rows)
    (λ x i. rows_have_spans c.args.right.now c.rows-2.ensures.relation c.args.left.now.heading c.requires.heading c.args.at c.requires.interval x i)

pub returns-clause-left : goal.returns-clause-left
returns-clause-left c = λ t.
    let label = c.as_slice.ensures.value ∙ c.in_ok-label.ensures ∙ (λ i. outside (c.args.at ∷ []) ((c.attributes.ensures.list ∙ c.heading.ensures.heading) i)) in
    let rows = c.rows.ensures.rows in
    subst (λ (T : Type 0). T) (λ i. IsChain (label i) c.args.at One (rows i)) (c.stand_in_time.ensures c.if-not-stand_in_time.false)

pub returns-clause-right : goal.returns-clause-right
returns-clause-right c = λ t.
    let label = c.as_slice-2.ensures.value ∙ c.in_ok-label.ensures ∙ (λ i. outside (c.args.at ∷ []) ((c.attributes.ensures.list ∙ c.heading.ensures.heading) i)) in
    let rows = c.rows-2.ensures.rows in
    subst (λ (T : Type 0). T) (λ i. IsChain (label i) c.args.at One (rows i)) (c.stand_in_time-stand.ensures t)
