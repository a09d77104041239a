use Rattle.std.proofs.Common.{◌≡◌, ◌<◌, List, length, arith, ap, ◌∙◌, sym, subst, Ok, Err, Vec, Global}
use Rattle.std.proofs.lemmas.Result.{err_from_is_err_and}
use Rattle.value_core.specs.Values.{Name, Row}
use Rattle.scalar_core.specs.declared.tree.Scalar.{Scalar}
use Rattle.tree_core.specs.Trees.{read_sets}
use Rattle.relation_core.specs.Answers.{Answers}
use Rattle.meaning_core.specs.Rows.{literal_row}
use Rattle.meaning_core.specs.Typing.{IsTuple}
use Rattle.row_making.proofs.ItemLemmas.{calls_more}
use Rattle.algebra_core.proofs.LiteralLemmas.{all_at, answers_end}
use Rattle.algebra_core.proofs.literal.tuple_rows.Goals as goal

pub tuple_row-requires : goal.tuple_row-requires
tuple_row-requires c =
    let l : c.loop-tuple.tuple-index < length c.args.tuples.now = omega arith in
    let e : c.as_slice.result.now ≡ c.tuple-item.result = c.as_slice.ensures.value ∙ c.tuple.view_is in (
      c.requires.0,
      subst (λ (sets : List (Name × Scalar)). IsTuple c.requires.0 c.args.heading.now (read_sets sets)) (sym e)
          (all_at (IsTuple c.requires.0 c.args.heading.now) read_sets c.args.tuples.now c.loop-tuple.tuple-index c.tuple-item.result c.requires.1 l c.tuple-item.is),
    )

pub returns-in_err-tuple_row : goal.returns-in_err-tuple_row
returns-in_err-tuple_row c =
    let l : c.loop-tuple.tuple-index < length c.args.tuples.now = omega arith in
    let e : c.as_slice.result.now ≡ c.tuple-item.result = c.as_slice.ensures.value ∙ c.tuple.view_is in
    let one = subst (λ (sets : List (Name × Scalar)). Answers {A = Row} (Err c.in_err-tuple_row.field-0.0) (literal_row c.args.heading.now (read_sets sets))) e c.in_err-tuple_row.ensures in
    let p = err_from_is_err_and c.from_residual-in_err-tuple_row.result c.from_residual-in_err-tuple_row.ensures.1 in
    rw (p.1, p.2) (answers_end (literal_row c.args.heading.now) read_sets (λ (rows : Vec Row Global). rows.items) c.args.tuples.now c.loop-tuple.tuple-index c.tuple-item.result
    c.loop-tuple.rows.items c.in_err-tuple_row.field-0.0 l c.tuple-item.is c.loop-tuple.invariant one)

pub loop-tuple-preserved : goal.loop-tuple-preserved
loop-tuple-preserved c =
    let l : c.loop-tuple.tuple-index < length c.args.tuples.now = omega arith in
    let e : c.as_slice.result.now ≡ c.tuple-item.result = c.as_slice.ensures.value ∙ c.tuple.view_is in
    let one = subst (λ (sets : List (Name × Scalar)). literal_row c.args.heading.now (read_sets sets) ≡ Ok c.in_ok-tuple_row.field-0) e c.in_ok-tuple_row.ensures in
    calls_more (literal_row c.args.heading.now) read_sets c.args.tuples.now c.loop-tuple.tuple-index c.tuple-item.result c.loop-tuple.rows.items c.in_ok-tuple_row.field-0
    l c.tuple-item.is c.loop-tuple.invariant one ∙ ap (λ (rows : List Row). Ok rows) (sym c.in_ok-push.ensures.items)
