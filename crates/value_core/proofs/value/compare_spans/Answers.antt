use Rattle.point_core.specs.Points.{line}
use Rattle.value_core.specs.Plain.{ends}
use Rattle.value_core.proofs.OrderLemmas.{intervals_cmp}
use Rattle.value_core.proofs.value.compare_spans.Goals as goal

pub returns : goal.returns
returns c =
    let parts = intervals_cmp (line c.args.a.now.0) (line c.args.b.now.0) (ends c.args.a.now) (ends c.args.b.now) in
    cc
