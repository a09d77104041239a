use Rattle.std.proofs.Common.{◌<◌, ◌∙◌, length, ap, arith}
use Rattle.std.proofs.lemmas.List.{length-map}
use Rattle.value_core.specs.Plain.{plain}
use Rattle.value_core.specs.Values.{Row}
use Rattle.log_times.proofs.RowLemmas.{statement_ends}
use Rattle.log_times.proofs.rows.statements.Goals as goal

pub returns : goal.returns
returns c =
    let size = ap (λ (r : Row). length r) c.values.ensures in
    let same = length-map c.values.result.now plain in
    let below = c.requires.within in
    let within : c.args.side < length c.values.result.now = omega (arith, size, same, below) in
    c.ends.ensures ∙ statement_ends c.values.result.now c.args.row.now c.args.side _ c.in-Span.i c.values.ensures c.requires within c.index-values-side.is c.in-Span.is
