use Rattle.std.proofs.Common.{◌≡◌, ◌<◌, ◌++◌, ℕ, List, length, map, Ok, sym, ap, ◌∙◌, subst}
use Rattle.std.specs.List.{All}
use Rattle.point_core.specs.Faults.{OrFault}
use Rattle.value_core.specs.Values.{Heading, Row, Relation}
use Rattle.relation_core.specs.Agreement.{names_of}
use Rattle.relation_core.specs.Answers.{Answers, under}
use Rattle.relation_core.specs.Groups.{rows_at, summarized}
use Rattle.relation_core.proofs.GroupLemmas.{group_within}
use Rattle.tree_core.specs.Trees.{read_aggregate}
use Rattle.tree_core.specs.declared.tree.Aggregate.{Aggregate}
use Rattle.meaning_core.specs.Places.{places}
use Rattle.meaning_core.specs.Rows.{aggregate_names, group_at}
use Rattle.meaning_core.specs.Scalars.{AreSummedOver}
use Rattle.meaning_core.proofs.GroupFits.{grouped_fits, summed_typed, group_fits, group_some, group_few, summary_meant}
use Rattle.algebra_core.proofs.summary.summarized.Goals as goal

pub summarized_at-requires-clause-within : goal.summarized_at-requires-clause-within
summarized_at-requires-clause-within c =
    let by : c.as_slice-2.result.now ≡ c.args.by.now = c.as_slice-2.ensures.value ∙ c.by.view_is in
    subst (λ (b : List ℕ). All (λ (i : ℕ). i < length c.args.r.now.heading) b) (sym by) c.requires.1.positions.within

pub summarized_at-requires-clause-numbers : goal.summarized_at-requires-clause-numbers
summarized_at-requires-clause-numbers c = λ g m.
    subst (λ (rs : List Row). All (λ (i : ℕ). i < length rs) g) (sym c.rows.ensures.rows) (group_within c.as_slice-2.result.now c.args.r.now.rows g m)

pub summarized_at-requires-clause-typed : goal.summarized_at-requires-clause-typed
summarized_at-requires-clause-typed c =
    let list : c.as_slice-list.result.now ≡ c.args.aggregates.now = c.as_slice-list.ensures.value ∙ c.aggregates.view_is in
    subst (λ (rs : List Row). AreSummedOver rs (map read_aggregate c.as_slice-list.result.now)) (sym c.rows.ensures.rows)
    (subst (λ (l : List Aggregate). AreSummedOver c.args.r.now.rows (map read_aggregate l)) (sym list)
    (summed_typed c.requires.0 c.args.r.now.heading (map read_aggregate c.args.aggregates.now) c.requires.1.made c.args.r.now.rows c.requires.1.makes c.rows.ensures.relation.fitting))

pub summarized_at-requires-clause-fitting : goal.summarized_at-requires-clause-fitting
summarized_at-requires-clause-fitting c = λ g y m e.
    let list : c.as_slice-list.result.now ≡ c.args.aggregates.now = c.as_slice-list.ensures.value ∙ c.aggregates.view_is in
    let at : c.as_slice.result.now ≡ places (aggregate_names (map read_aggregate c.args.aggregates.now) ++ names_of c.args.r.now.heading) c.args.heading.now =
    c.as_slice.ensures.value ∙ (c.in_ok-at.ensures ∙ (ap (λ (l : List Aggregate). places (aggregate_names (map read_aggregate l) ++ names_of c.attributes.result.now) c.attributes-2.result.now) list
    ∙ (ap (λ (h : Heading). places (aggregate_names (map read_aggregate c.args.aggregates.now) ++ names_of h) c.attributes-2.result.now) (c.attributes.ensures.list ∙ c.heading.ensures.heading)
    ∙ ap (λ (h : Heading). places (aggregate_names (map read_aggregate c.args.aggregates.now) ++ names_of c.args.r.now.heading) h) c.attributes-2.ensures.list))) in
    let given = subst (λ (l : List Aggregate). group_at c.as_slice.result.now (map read_aggregate l) (rows_at c.rows.result.now g) ≡ Ok y) list e in
    let made = subst (λ (rs : List Row). group_at c.as_slice.result.now (map read_aggregate c.args.aggregates.now) (rows_at rs g) ≡ Ok y) c.rows.ensures.rows given in
    rw c.in_ok-copy.ensures (grouped_fits c.requires.0 c.args.r.now.heading c.args.heading.now c.args.by.now (map read_aggregate c.args.aggregates.now) c.as_slice.result.now (rows_at c.args.r.now.rows g) y
    c.rows.ensures.relation.headed c.requires.1 at (group_fits c.args.r.now.heading c.as_slice-2.result.now c.args.r.now.rows g m c.rows.ensures.relation.fitting)
    (group_some c.as_slice-2.result.now c.args.r.now.rows g m) (group_few c.as_slice-2.result.now c.args.r.now.rows g m c.rows.ensures.relation.few) made)

pub returns : goal.returns
returns c = λ place.
    let list : c.as_slice-list.result.now ≡ c.args.aggregates.now = c.as_slice-list.ensures.value ∙ c.aggregates.view_is in
    let by : c.as_slice-2.result.now ≡ c.args.by.now = c.as_slice-2.ensures.value ∙ c.by.view_is in
    let at : c.as_slice.result.now ≡ places (aggregate_names (map read_aggregate c.args.aggregates.now) ++ names_of c.args.r.now.heading) c.args.heading.now =
    c.as_slice.ensures.value ∙ (c.in_ok-at.ensures ∙ (ap (λ (l : List Aggregate). places (aggregate_names (map read_aggregate l) ++ names_of c.attributes.result.now) c.attributes-2.result.now) list
    ∙ (ap (λ (h : Heading). places (aggregate_names (map read_aggregate c.args.aggregates.now) ++ names_of h) c.attributes-2.result.now) (c.attributes.ensures.list ∙ c.heading.ensures.heading)
    ∙ ap (λ (h : Heading). places (aggregate_names (map read_aggregate c.args.aggregates.now) ++ names_of c.args.r.now.heading) h) c.attributes-2.ensures.list))) in
    let told : Heading → List ℕ → List Aggregate → List Row → OrFault Relation = λ h b l rs. under h (summarized b (λ g. group_at c.as_slice.result.now (map read_aggregate l) (rows_at rs g)) c.args.r.now.rows) in
    let same = summary_meant c.args.r.now.heading c.args.heading.now c.args.by.now (map read_aggregate c.args.aggregates.now) c.as_slice.result.now c.args.r.now.rows place at c.rows.ensures.relation.few in
    let moved : told c.in_ok-copy.field-0 c.as_slice-2.result.now c.as_slice-list.result.now c.rows.result.now ≡ told c.args.heading.now c.args.by.now c.args.aggregates.now c.args.r.now.rows =
    ap (λ (h : Heading). told h c.as_slice-2.result.now c.as_slice-list.result.now c.rows.result.now) c.in_ok-copy.ensures
    ∙ (ap (λ (b : List ℕ). told c.args.heading.now b c.as_slice-list.result.now c.rows.result.now) by
    ∙ (ap (λ (l : List Aggregate). told c.args.heading.now c.args.by.now l c.rows.result.now) list
    ∙ ap (λ (rs : List Row). told c.args.heading.now c.args.by.now c.args.aggregates.now rs) c.rows.ensures.rows)) in
    subst (λ (m : OrFault Relation). Answers c.summarized_at.result m) (moved ∙ ap (under c.args.heading.now) (sym same)) c.summarized_at.ensures
