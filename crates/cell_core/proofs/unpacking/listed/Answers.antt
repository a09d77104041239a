use Rattle.std.proofs.Common.{map, ap, ◌∙◌}
use Rattle.cell_core.specs.Cells.{box_numbers, row_numbers}
use Rattle.cell_core.specs.GridPoints.{listing, grid_points}
use Rattle.cell_core.proofs.KeyLemmas.{take_whole}
use Rattle.cell_core.proofs.GridPointLemmas.{listing_step}
use Rattle.cell_core.proofs.unpacking.listed.Goals as goal

pub loop-row-preserved : goal.loop-row-preserved
loop-row-preserved g c =
    listing_step (row_numbers g.T.PointType.number_of) c.args.rows.now c.loop-row.row-index c.row-item.result c.loop-row.out.items c.push_grid_points.new.out.items c.row.inside.label c.in_ok-list.list.items c.loop-row-test.true c.row-item.is
    c.loop-row.invariant c.in_ok-push_grid_points.ensures (ap (λ x. x.0) c.row.view_is)
    (c.in_ok-list.ensures ∙ ap grid_points (c.as_slice.ensures.value ∙ c.in_ok-spans.ensures.numbers ∙ ap (λ x. box_numbers g.T.PointType.number_of x.1) c.row.view_is))

pub returns : goal.returns
returns g c =
    c.loop-row.invariant ∙ ap (λ xs. listing (map (row_numbers g.T.PointType.number_of) xs)) (take_whole c.args.rows.now c.loop-row.row-index c.loop-row-test.false)
