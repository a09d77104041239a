use Rattle.std.proofs.Common.{◌≡◌, ◌<◌, Err, length, map, ◌∙◌, subst}
use Rattle.std.specs.Result.{IfOk}
use Rattle.std.proofs.lemmas.List.Elements.{All-same, All-map, recursion_from_All}
use Rattle.value_core.specs.Order.{row_total, row_separates}
use Rattle.value_core.specs.Values.{row_cmp}
use Rattle.relation_core.specs.Agreement.{part_of}
use Rattle.cell_packing.specs.Boxed.{packed_boxes}
use Rattle.cell_core.specs.Boxes.{IsBox}
use Rattle.cell_core.specs.Cells.{row_numbers}
use Rattle.cell_core.specs.declared.boxes.CellRefuse.TheVariants.{Limit as OfLimit}
use Rattle.cell_core.proofs.BackLemmas.{box_length}
use Rattle.cell_core.proofs.KeyLemmas.{rows_have}
use Rattle.u_row.specs.Labels.{relabelled}
use Rattle.u_row.proofs.PlaceLemmas.{packed_relabelled, numbers_relabelled}
use Rattle.u_row.proofs.project.projected_boxes.Goals as goal

pub pack-requires : goal.pack-requires
pack-requires g c = record {
  rows = All-same (λ r. IsBox g.T.PointType.IsPoint c.args.types.now r.1) c.in_ok-parts.parts.items (map (relabelled (part_of c.args.kept.now)) c.args.rows.items) c.in_ok-parts.ensures
      (All-map (λ r. IsBox g.T.PointType.IsPoint c.args.types.now r.1) (relabelled (part_of c.args.kept.now)) c.args.rows.items c.requires.boxes);
}

pub returns-clause-rows : goal.returns-clause-rows
returns-clause-rows g c =
    let n = g.T.PointType.number_of in
    let k = length c.args.types.now in
    let rows = c.args.rows.items in
    let f = part_of c.args.kept.now in
    let numbers = (λ t. map (row_numbers n) (c.in_ok-parts.ensures t)) ∙ numbers_relabelled f n rows in
    let have = rows_have n k rows (recursion_from_All (λ r. length r.1 ≡ k) rows (λ j d l. box_length g.T.PointType.IsPoint c.args.types.now _ (c.requires.boxes j d l))) in
    subst (λ s. IfOk c.pack.result (λ v. map (row_numbers n) v.items ≡ s))
    ((λ t. packed_boxes row_cmp k (numbers t)) ∙ packed_relabelled f row_cmp row_total row_separates row_cmp row_total row_separates k (map (row_numbers n) rows) have) c.pack.ensures.rows

pub returns-clause-limit : goal.returns-clause-limit
returns-clause-limit g c =
    let n = g.T.PointType.number_of in
    let k = length c.args.types.now in
    let rows = c.args.rows.items in
    let f = part_of c.args.kept.now in
    let numbers = (λ t. map (row_numbers n) (c.in_ok-parts.ensures t)) ∙ numbers_relabelled f n rows in
    let have = rows_have n k rows (recursion_from_All (λ r. length r.1 ≡ k) rows (λ j d l. box_length g.T.PointType.IsPoint c.args.types.now _ (c.requires.boxes j d l))) in
    subst (λ s. c.pack.result ≡ Err OfLimit → c.args.limit < length s)
    ((λ t. packed_boxes row_cmp k (numbers t)) ∙ packed_relabelled f row_cmp row_total row_separates row_cmp row_total row_separates k (map (row_numbers n) rows) have) c.pack.ensures.limit
