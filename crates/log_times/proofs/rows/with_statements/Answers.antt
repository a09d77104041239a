use Rattle.std.proofs.Common.{◌≡◌, ap, ◌∙◌}
use Rattle.std.specs.Int.{w64}
use Rattle.std.proofs.lemmas.Int.{to_z-of_z}
use Rattle.point_core.specs.Points.{integers}
use Rattle.value_core.specs.Plain.{plain}
use Rattle.value_core.specs.Values.{interval}
use Rattle.log_times.proofs.RowLemmas.{put_over}
use Rattle.log_times.proofs.rows.with_statements.Goals as goal

pub returns : goal.returns
returns c =
    let value : plain c.interval_of-value.result ≡ interval integers (c.args.begin, c.args.end) =
    c.interval_of-value.ensures ∙ ap (interval integers) (λ t. (to_z-of_z w64 c.args.begin c.ranges.begin t, to_z-of_z w64 c.args.end c.ranges.end t)) in
    c.make.ensures
    ∙ put_over c.into_values-values.result.items c.args.row c.args.side c.interval_of-value.result (c.args.begin, c.args.end) c.into_values-values.ensures value c.requires.interval.line
