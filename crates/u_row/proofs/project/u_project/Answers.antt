use Rattle.std.proofs.Common.{◌≡◌, ◌<◌, Err, length, map, subst}
use Rattle.std.specs.Result.{IfOk}
use Rattle.value_core.specs.Values.{row_cmp}
use Rattle.relation_core.specs.Agreement.{part_of}
use Rattle.cell_packing.specs.Boxed.{packed_boxes, unpacked_boxes}
use Rattle.cell_core.specs.Cells.{row_numbers}
use Rattle.cell_core.specs.declared.boxes.CellRefuse.TheVariants.{Limit as OfLimit}
use Rattle.u_row.specs.Labels.{relabelled}
use Rattle.u_row.proofs.project.u_project.Goals as goal

pub returns-clause-rows : goal.returns-clause-rows
returns-clause-rows g c =
    let n = g.T.PointType.number_of in
    let k = length c.args.types.now in
    let own = c.in_ok-own.ensures in
    subst (λ s. IfOk c.projected_boxes.result (λ v. map (row_numbers n) v.items ≡ s))
    (λ t. packed_boxes row_cmp k (map (relabelled (part_of c.args.kept.now)) (unpacked_boxes row_cmp k (map (row_numbers n) (own t))))) c.projected_boxes.ensures.rows

pub returns-clause-limit : goal.returns-clause-limit
returns-clause-limit g c =
    let n = g.T.PointType.number_of in
    let k = length c.args.types.now in
    let own = c.in_ok-own.ensures in
    subst (λ s. c.projected_boxes.result ≡ Err OfLimit → c.args.limit < length s)
    (λ t. packed_boxes row_cmp k (map (relabelled (part_of c.args.kept.now)) (unpacked_boxes row_cmp k (map (row_numbers n) (own t))))) c.projected_boxes.ensures.limit
