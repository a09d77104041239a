use Rattle.std.proofs.Common.{◌<◌, length, ap, ◌∙◌, arith}
use Rattle.std.proofs.lemmas.List.{length-map}
use Rattle.value_core.specs.Plain.{plain}
use Rattle.value_core.specs.Values.{Row}
use Rattle.log_times.proofs.RowLemmas.{short_key}
use Rattle.log_times.proofs.rows.compare_rest.Goals as goal

pub returns-then-values-side : goal.returns-then-values-side
returns-then-values-side c =
    let size = ap (λ (r : Row). length r) c.values.ensures in
    let same = length-map c.values.result.now plain in
    let short : length c.args.key.now < c.args.side = omega (arith, size, same, c.if-values-side.true) in
    c.cmp.ensures ∙ short_key c.args.side c.args.key.now c.args.row.now short c.requires
