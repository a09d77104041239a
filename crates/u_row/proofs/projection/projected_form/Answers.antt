use Rattle.std.proofs.Common.{◌≡◌, ◌+◌, ◌<◌, ◌≤◌, Err, length, map, sym, ap, ◌∙◌, subst}
use Rattle.std.specs.Result.{IfOk}
use Rattle.std.proofs.lemmas.List.{length-map}
use Rattle.point_core.specs.Points.{number}
use Rattle.value_core.specs.Values.{row_cmp, most_rows}
use Rattle.relation_core.specs.Agreement.{part_of}
use Rattle.relation_core.specs.Parts.{kind_at}
use Rattle.cell_packing.specs.Boxed.{packed_boxes, unpacked_boxes}
use Rattle.cell_core.specs.Cells.{row_numbers}
use Rattle.cell_core.specs.Costs.{bound}
use Rattle.cell_core.specs.declared.boxes.CellRefuse.TheVariants.{Limit as OfLimit}
use Rattle.u_set.specs.Boxes.{type_of, boxed}
use Rattle.u_row.specs.Labels.{relabelled}
use Rattle.u_row.proofs.projection.projected_form.Goals as goal

pub returns-clause-rows : goal.returns-clause-rows
returns-clause-rows g c =
    let sides = ap length (c.as_slice.ensures.value ∙ c.in_ok-types.ensures) ∙ length-map c.args.commalist.now (λ i. type_of (kind_at c.attributes.result.now i)) in
    let boxes = c.in_ok-boxes.ensures.rows in
    let places = c.as_slice-2.ensures.value ∙ c.in_ok-places.ensures in
    subst (λ s. IfOk c.projected_boxes.result (λ v. map (row_numbers number) v.items ≡ s))
    (λ t. packed_boxes row_cmp (sides t) (map (relabelled (part_of (places t))) (unpacked_boxes row_cmp (sides t) (boxes t)))) c.projected_boxes.ensures.rows

pub returns-clause-limit : goal.returns-clause-limit
returns-clause-limit g c =
    let sides = ap length (c.as_slice.ensures.value ∙ c.in_ok-types.ensures) ∙ length-map c.args.commalist.now (λ i. type_of (kind_at c.attributes.result.now i)) in
    let boxes = c.in_ok-boxes.ensures.rows in
    let places = c.as_slice-2.ensures.value ∙ c.in_ok-places.ensures in
    subst (λ s. c.projected_boxes.result ≡ Err OfLimit → most_rows < length s)
    (λ t. packed_boxes row_cmp (sides t) (map (relabelled (part_of (places t))) (unpacked_boxes row_cmp (sides t) (boxes t)))) c.projected_boxes.ensures.limit

pub returns-clause-cost : goal.returns-clause-cost
returns-clause-cost g c =
    let sides = ap length (c.as_slice.ensures.value ∙ c.in_ok-types.ensures) ∙ length-map c.args.commalist.now (λ i. type_of (kind_at c.attributes.result.now i)) in
    let boxes = c.in_ok-boxes.ensures.rows in
    let many = sym (length-map c.in_ok-boxes.boxes.items (row_numbers number)) ∙ ap length boxes ∙ length-map c.args.r.now.rows (boxed c.args.commalist.now) in
    subst (λ b. c.projected_boxes.new.steps ≤ c.args.steps.now + b) (λ t. bound (many t) (sides t)) c.projected_boxes.ensures.cost
