use Rattle.std.proofs.Common.{◌≡◌, ◌∙◌, map, set}
use Rattle.value_core.specs.Plain.{plain}
use Rattle.value_core.specs.declared.value.Value.TheVariants.{Span as SpanValue}
use Rattle.eval_using.proofs.CellRowLemmas.{point_put}
use Rattle.eval_using.proofs.cell_rows.put_first.Goals as goal

pub returns : goal.returns
returns c =
    let at = c.args.at.now in
    let values = c.args.values.now.items in
    let is : c.of.result ≡ (at.0, at.0) = c.of.ensures ∙ (λ t. (c.begin-p.ensures.point t, c.begin-p.ensures.point t)) in
    (λ t. map plain (set values c.args.i (SpanValue (is t)))) ∙ point_put values c.args.i at.0 c.requires.line
