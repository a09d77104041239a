use Rattle.std.proofs.Common.{◌≡◌, map, set, ap, sym, ◌∙◌, subst}
use Rattle.point_core.specs.Points.{number, line}
use Rattle.value_core.specs.Attributes.{value_at, span_of, put_span}
use Rattle.value_core.specs.Plain.{plain}
use Rattle.value_core.specs.Values.{Row, interval}
use Rattle.value_core.specs.declared.value.Value.TheVariants.{Span as SpanValue}
use Rattle.cell_core.specs.Numbering.{numbers_of}
use Rattle.eval_using.proofs.CellRowLemmas.{interval_put}
use Rattle.eval_using.proofs.moved.with_interval.Goals as goal

pub returns-clause-row : goal.returns-clause-row
returns-clause-row c =
    let i = c.args.i.now in
    let at = c.args.at in
    let items = c.into_values-values.result.items in
    let is : c.of.result ≡ i = c.of.ensures ∙ (λ t. (c.begin.ensures.point t, c.end.ensures.point t)) in
    let same : map plain items ≡ c.args.row = c.into_values-values.ensures in
    let first = subst (λ (r : Row). value_at r at ≡ interval (line i.0) (span_of (value_at r at))) (sym same) c.requires.first in
    c.make.ensures ∙ (λ t. map plain (set items at (SpanValue (is t)))) ∙ interval_put items at i first c.requires.last ∙ ap (λ r. put_span r at (numbers_of number i)) same
