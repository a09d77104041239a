use Rattle.std.proofs.Common.{◌≡◌, ◌<◌, length, map, sym, ap, ◌∙◌, subst}
use Rattle.std.proofs.lemmas.Result.{IfOk-weaker}
use Rattle.std.proofs.lemmas.List.{length-map}
use Rattle.base_core.specs.Sets.{difference_of}
use Rattle.point_core.specs.Points.{number}
use Rattle.value_core.specs.Values.{row_cmp, most_rows}
use Rattle.relation_core.specs.Parts.{kind_at}
use Rattle.cell_packing.specs.Boxed.{boxed_cmp, packed_boxes, unpacked_boxes}
use Rattle.cell_core.specs.Cells.{row_numbers}
use Rattle.u_set.specs.Boxes.{type_of}
use Rattle.u_set.proofs.difference.difference_form.Goals as goal

pub returns-clause-rows : goal.returns-clause-rows
returns-clause-rows g c =
    let commalist = c.args.commalist.now in
    let sides = ap length (c.as_slice.ensures.value ∙ c.in_ok-types.ensures) ∙ length-map commalist (λ i. type_of (kind_at c.attributes.result.now i)) in
    let l = c.in_ok-l.ensures.rows in
    let r = c.in_ok-r.ensures.rows in
    let e = c.in_ok-form.ensures.rows ∙ (λ t. packed_boxes row_cmp (sides t) (difference_of (boxed_cmp row_cmp) (unpacked_boxes row_cmp (sides t) (l t)) (unpacked_boxes row_cmp (sides t) (r t)))) in
    IfOk-weaker c.in_limit.result (λ v. v.items ≡ c.in_ok-form.form.items) _ (λ v same. ap (map (row_numbers number)) same ∙ e) c.in_limit.ensures.same

pub returns-clause-limit : goal.returns-clause-limit
returns-clause-limit g c =
    let commalist = c.args.commalist.now in
    let sides = ap length (c.as_slice.ensures.value ∙ c.in_ok-types.ensures) ∙ length-map commalist (λ i. type_of (kind_at c.attributes.result.now i)) in
    let l = c.in_ok-l.ensures.rows in
    let r = c.in_ok-r.ensures.rows in
    let e = c.in_ok-form.ensures.rows ∙ (λ t. packed_boxes row_cmp (sides t) (difference_of (boxed_cmp row_cmp) (unpacked_boxes row_cmp (sides t) (l t)) (unpacked_boxes row_cmp (sides t) (r t)))) in
    λ h. subst (λ n. most_rows < n) (sym (length-map c.in_ok-form.form.items (row_numbers number)) ∙ ap length e) (c.in_limit.ensures.limit h)
