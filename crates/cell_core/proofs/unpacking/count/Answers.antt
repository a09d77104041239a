use Rattle.std.proofs.Common.{min, map, ap, ◌∙◌}
use Rattle.cell_core.specs.Cells.{box_numbers, row_numbers}
use Rattle.cell_core.specs.GridPoints.{total}
use Rattle.cell_core.proofs.KeyLemmas.{take_whole}
use Rattle.cell_core.proofs.GridPointLemmas.{count_step}
use Rattle.cell_core.proofs.unpacking.count.Goals as goal

pub loop-row-preserved : goal.loop-row-preserved
loop-row-preserved g c =
    count_step (row_numbers g.T.PointType.number_of) 340282366920938463463374607431768211455 c.args.rows.now c.loop-row.row-index c.row-item.result c.loop-row.sum c.volume_of.result c.saturating_add-sum.result c.as_slice.result.now c.loop-row-test.true c.row-item.is
    c.loop-row.invariant c.volume_of.ensures (c.as_slice.ensures.value ∙ c.in_ok-spans.ensures.numbers ∙ ap (λ x. box_numbers g.T.PointType.number_of x.1) c.row.view_is) c.saturating_add-sum.ensures

pub returns : goal.returns
returns g c =
    c.loop-row.invariant ∙ ap (λ xs. min (total (map (row_numbers g.T.PointType.number_of) xs)) 340282366920938463463374607431768211455) (take_whole c.args.rows.now c.loop-row.row-index c.loop-row-test.false)
