use Rattle.std.proofs.Common.{inl, inr, ◌<◌, List, ◌∷◌, [], map, arith, Ok, sym, ap, ◌∙◌, Vec, Global}
use Rattle.std.proofs.lemmas.List.{map-append}
use Rattle.std.proofs.lemmas.Result.{err_from_is_err_and}
use Rattle.value_core.specs.Plain.{plain}
use Rattle.value_core.specs.Values.{Value as PlainValue}
use Rattle.value_core.specs.declared.value.Value.{Value}
use Rattle.eval_using.proofs.FigureValueLemmas.{values_more, values_end, values_all}
use Rattle.eval_using.proofs.figures.figure_values.Goals as goal

pub returns-in_err-value : goal.returns-in_err-value
returns-in_err-value c =
    let i = c.loop-i.i in
    let k : i < c.shorter-many.result = c.loop-i-test.true in
    let a = c.shorter-many.ensures.one in
    let b = c.shorter-many.ensures.other in
    let z = c.figure_at-figure.result in
    let p = err_from_is_err_and c.from_residual.result c.from_residual.ensures.1 in
    rw (p.1, p.2) (values_end c.index-aggregates-i.result z (λ (values : Vec Value Global). map plain values.items) plain c.args.aggregates.now c.args.figures.now i (map plain c.loop-i.values.items) c.in_err-value.field-0.0
    (omega (arith, k, a)) (omega (arith, k, b)) c.index-aggregates-i.is c.figure_at-figure.ensures c.loop-i.invariant.made c.in_err-value.ensures)

pub loop-i-preserved : goal.loop-i-preserved
loop-i-preserved c =
    let i = c.loop-i.i in
    let k : i < c.shorter-many.result = c.loop-i-test.true in
    let a = c.shorter-many.ensures.one in
    let b = c.shorter-many.ensures.other in
    let z = c.figure_at-figure.result in
    record {
      within = omega (arith, k);
      made =
          values_more c.index-aggregates-i.result z c.args.aggregates.now c.args.figures.now i (map plain c.loop-i.values.items) (plain c.in_ok-value.value)
          (omega (arith, k, a)) (omega (arith, k, b)) c.index-aggregates-i.is c.figure_at-figure.ensures c.loop-i.invariant.made c.in_ok-value.ensures
          ∙ ap (λ (us : List PlainValue). Ok us) (sym (map-append plain c.loop-i.values.items (c.in_ok-value.value ∷ [])) ∙ ap (map plain) (sym c.in_ok-push.ensures.items));
    }

pub returns : goal.returns
returns c =
    let w = c.loop-i.invariant.within in
    let t = c.loop-i-test.false in
    let a = c.shorter-many.ensures.one in
    let b = c.shorter-many.ensures.other in
    values_all c.args.aggregates.now c.args.figures.now c.loop-i.i (map plain c.loop-i.values.items) (omega (arith, w, a)) (omega (arith, w, b))
    (elim c.shorter-many.ensures.all [ inl e ↦ inl (omega (arith, e, t)) | inr e ↦ inr (omega (arith, e, t)) ]) c.loop-i.invariant.made
