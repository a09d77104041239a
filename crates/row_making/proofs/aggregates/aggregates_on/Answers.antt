use Rattle.std.proofs.Common.{◌<◌, List, ◌∷◌, [], length, map, arith, Ok, sym, ap, ◌∙◌, Vec, Global}
use Rattle.std.proofs.lemmas.List.{map-append}
use Rattle.std.proofs.lemmas.Result.{err_from_is_err_and}
use Rattle.value_core.specs.Plain.{plain}
use Rattle.value_core.specs.Values.{Value as PlainValue}
use Rattle.value_core.specs.declared.value.Value.{Value}
use Rattle.relation_core.specs.Groups.{rows_at}
use Rattle.tree_core.specs.Trees.{PlainAggregate, read_aggregate}
use Rattle.meaning_core.specs.Rows.{aggregate_value}
use Rattle.row_making.proofs.ItemLemmas.{calls_more, calls_end}
use Rattle.row_making.proofs.SummaryLemmas.{summed_at}
use Rattle.row_making.proofs.aggregates.aggregates_on.Goals as goal

pub aggregate_value-requires-clause-typed : goal.aggregate_value-requires-clause-typed
aggregate_value-requires-clause-typed c =
    let l : c.loop-aggregate.aggregate-index < length c.args.aggregates.now = omega arith in
    summed_at c.args.rows.now c.args.aggregates.now c.loop-aggregate.aggregate-index c.aggregate-item.result c.requires.typed l c.aggregate-item.is

pub returns-in_err-aggregate_value : goal.returns-in_err-aggregate_value
returns-in_err-aggregate_value c =
    let l : c.loop-aggregate.aggregate-index < length c.args.aggregates.now = omega arith in
    let p = err_from_is_err_and c.from_residual-in_err-aggregate_value.result c.from_residual-in_err-aggregate_value.ensures.1 in
    rw (p.1, p.2) (calls_end (λ (a : PlainAggregate). aggregate_value a.place a.form (rows_at c.args.rows.now c.args.numbers.now)) read_aggregate plain (λ (values : Vec Value Global). map plain values.items)
    c.args.aggregates.now c.loop-aggregate.aggregate-index c.aggregate-item.result (map plain c.loop-aggregate.values.items) c.in_err-aggregate_value.field-0.0 l c.aggregate-item.is c.loop-aggregate.invariant
    c.in_err-aggregate_value.ensures)

pub loop-aggregate-preserved : goal.loop-aggregate-preserved
loop-aggregate-preserved c =
    let l : c.loop-aggregate.aggregate-index < length c.args.aggregates.now = omega arith in
    calls_more (λ (a : PlainAggregate). aggregate_value a.place a.form (rows_at c.args.rows.now c.args.numbers.now)) read_aggregate c.args.aggregates.now c.loop-aggregate.aggregate-index c.aggregate-item.result
    (map plain c.loop-aggregate.values.items) (plain c.in_ok-aggregate_value.field-0) l c.aggregate-item.is c.loop-aggregate.invariant c.in_ok-aggregate_value.ensures
    ∙ ap (λ (us : List PlainValue). Ok us) (sym (map-append plain c.loop-aggregate.values.items (c.in_ok-aggregate_value.field-0 ∷ [])) ∙ ap (map plain) (sym c.in_ok-push.ensures.items))
