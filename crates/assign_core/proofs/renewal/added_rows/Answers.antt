use Rattle.std.proofs.Common.{arith, subst}
use Rattle.std.proofs.lemmas.Result.{err_from_is_err_and}
use Rattle.value_core.specs.Values.{Heading}
use Rattle.scalar_core.specs.Expressions.{read}
use Rattle.tree_core.specs.Trees.{read_sets}
use Rattle.meaning_core.proofs.LookupLemmas.{under_ok}
use Rattle.assign_core.specs.Portions.{portion_rows}
use Rattle.assign_core.specs.Revisions.{changed_rows, changed_cost, IsChangedFor}
use Rattle.assign_core.proofs.RenewalLemmas.{after_some, after_stop, after_paid}
use Rattle.assign_core.proofs.renewal.added_rows.Goals as goal

pub with_new_values-requires : goal.with_new_values-requires
with_new_values-requires g c =
    let x = c.args.changed in
    let of = c.args.of.now in
    subst (λ (h : Heading). IsChangedFor h x) (under_ok of.heading (portion_rows x.portion.place x.portion.commalist.now (read x.portion.condition.now) of.rows) c.in_ok-some.some c.in_ok-some.ensures.value).1 c.requires

pub returns-in_err-some-clause-value : goal.returns-in_err-some-clause-value
returns-in_err-some-clause-value g c =
    let x = c.args.changed in
    let of = c.args.of.now in
    let p = err_from_is_err_and c.from_residual.result c.from_residual.ensures.1 in
    rw (p.1, p.2) (after_stop of.heading (portion_rows x.portion.place x.portion.commalist.now (read x.portion.condition.now) of.rows) (λ (h : Heading). changed_rows h x.place x.commalist.now (read_sets x.sets.now)) c.in_err-some.field-0.0 c.in_err-some.ensures.value)

pub returns-clause-value : goal.returns-clause-value
returns-clause-value g c =
    let x = c.args.changed in
    let of = c.args.of.now in
    after_some of.heading (portion_rows x.portion.place x.portion.commalist.now (read x.portion.condition.now) of.rows) (λ (h : Heading). changed_rows h x.place x.commalist.now (read_sets x.sets.now)) c.in_ok-some.some c.with_new_values.result c.in_ok-some.ensures.value c.with_new_values.ensures.value

pub returns-clause-cost : goal.returns-clause-cost
returns-clause-cost g c =
    let x = c.args.changed in
    let of = c.args.of.now in
    let first = c.portion_rows.ensures.cost in
    let second = c.with_new_values.ensures.cost in
    let known = after_paid of.heading (portion_rows x.portion.place x.portion.commalist.now (read x.portion.condition.now) of.rows) c.in_ok-some.some (changed_cost x.commalist.now (read_sets x.sets.now)) c.in_ok-some.ensures.value in
    omega (arith, first, second, known)
