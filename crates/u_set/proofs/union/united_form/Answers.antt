use Rattle.std.proofs.Common.{◌≡◌, ◌+◌, ◌<◌, ◌≤◌, Err, length, map, sym, ap, ◌∙◌, subst}
use Rattle.std.specs.Result.{IfOk}
use Rattle.std.proofs.lemmas.List.{length-map}
use Rattle.base_core.specs.Sets.{union_of}
use Rattle.point_core.specs.Points.{number}
use Rattle.value_core.specs.Values.{row_cmp, most_rows}
use Rattle.relation_core.specs.Parts.{kind_at}
use Rattle.cell_packing.specs.Boxed.{boxed_cmp, packed_boxes, unpacked_boxes}
use Rattle.cell_core.specs.Cells.{row_numbers}
use Rattle.cell_core.specs.Costs.{bound}
use Rattle.cell_core.specs.declared.boxes.CellRefuse.TheVariants.{Limit as OfLimit}
use Rattle.u_set.specs.Boxes.{type_of, boxed}
use Rattle.u_set.proofs.union.united_form.Goals as goal

pub returns-clause-rows : goal.returns-clause-rows
returns-clause-rows g c =
    let commalist = c.args.commalist.now in
    let sides = ap length (c.as_slice.ensures.value ∙ c.in_ok-types.ensures) ∙ length-map commalist (λ i. type_of (kind_at c.attributes.result.now i)) in
    let l = c.in_ok-l.ensures.rows in
    let r = c.in_ok-r.ensures.rows in
    subst (λ s. IfOk c.union_boxes.result (λ v. map (row_numbers number) v.items ≡ s))
    (λ t. packed_boxes row_cmp (sides t) (union_of (boxed_cmp row_cmp) (unpacked_boxes row_cmp (sides t) (l t)) (unpacked_boxes row_cmp (sides t) (r t)))) c.union_boxes.ensures.rows

pub returns-clause-limit : goal.returns-clause-limit
returns-clause-limit g c =
    let commalist = c.args.commalist.now in
    let sides = ap length (c.as_slice.ensures.value ∙ c.in_ok-types.ensures) ∙ length-map commalist (λ i. type_of (kind_at c.attributes.result.now i)) in
    let l = c.in_ok-l.ensures.rows in
    let r = c.in_ok-r.ensures.rows in
    subst (λ s. c.union_boxes.result ≡ Err OfLimit → most_rows < length s)
    (λ t. packed_boxes row_cmp (sides t) (union_of (boxed_cmp row_cmp) (unpacked_boxes row_cmp (sides t) (l t)) (unpacked_boxes row_cmp (sides t) (r t)))) c.union_boxes.ensures.limit

pub returns-clause-cost : goal.returns-clause-cost
returns-clause-cost g c =
    let commalist = c.args.commalist.now in
    let sides = ap length (c.as_slice.ensures.value ∙ c.in_ok-types.ensures) ∙ length-map commalist (λ i. type_of (kind_at c.attributes.result.now i)) in
    let l = c.in_ok-l.ensures.rows in
    let r = c.in_ok-r.ensures.rows in
    let many = sym (length-map c.in_ok-l.l.items (row_numbers number)) ∙ ap length l ∙ length-map c.args.left.now.rows (boxed commalist) in
    let more = sym (length-map c.in_ok-r.r.items (row_numbers number)) ∙ ap length r ∙ length-map c.args.right.now.rows (boxed commalist) in
    subst (λ b. c.union_boxes.new.steps ≤ c.args.steps.now + b) (λ t. bound (many t + more t) (sides t)) c.union_boxes.ensures.cost
