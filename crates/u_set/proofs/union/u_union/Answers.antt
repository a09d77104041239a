use Rattle.std.proofs.Common.{◌≡◌, ◌<◌, Err, length, map, subst}
use Rattle.std.specs.Result.{IfOk}
use Rattle.base_core.specs.Sets.{union_of}
use Rattle.value_core.specs.Values.{row_cmp}
use Rattle.cell_packing.specs.Boxed.{boxed_cmp, packed_boxes, unpacked_boxes}
use Rattle.cell_core.specs.Cells.{row_numbers}
use Rattle.cell_core.specs.declared.boxes.CellRefuse.TheVariants.{Limit as OfLimit}
use Rattle.u_set.proofs.union.u_union.Goals as goal

pub returns-clause-rows : goal.returns-clause-rows
returns-clause-rows g c =
    let n = g.T.PointType.number_of in
    let k = length c.args.types.now in
    let l = c.in_ok-l.ensures in
    let r = c.in_ok-r.ensures in
    subst (λ s. IfOk c.union_boxes.result (λ v. map (row_numbers n) v.items ≡ s))
    (λ t. packed_boxes row_cmp k (union_of (boxed_cmp row_cmp) (unpacked_boxes row_cmp k (map (row_numbers n) (l t))) (unpacked_boxes row_cmp k (map (row_numbers n) (r t))))) c.union_boxes.ensures.rows

pub returns-clause-limit : goal.returns-clause-limit
returns-clause-limit g c =
    let n = g.T.PointType.number_of in
    let k = length c.args.types.now in
    let l = c.in_ok-l.ensures in
    let r = c.in_ok-r.ensures in
    subst (λ s. c.union_boxes.result ≡ Err OfLimit → c.args.limit < length s)
    (λ t. packed_boxes row_cmp k (union_of (boxed_cmp row_cmp) (unpacked_boxes row_cmp k (map (row_numbers n) (l t))) (unpacked_boxes row_cmp k (map (row_numbers n) (r t))))) c.union_boxes.ensures.limit
