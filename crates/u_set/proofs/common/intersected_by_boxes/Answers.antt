use Rattle.std.proofs.Common.{◌≡◌, Err, length, map, sym, ap, ◌∙◌, subst}
use Rattle.std.specs.Bool.{IsTrue}
use Rattle.std.specs.List.{All}
use Rattle.base_core.specs.Sets.{common_of}
use Rattle.value_core.specs.RowPacking.{packed, unpacked}
use Rattle.value_core.specs.Values.{Heading, row_cmp, fits_heading}
use Rattle.relation_core.specs.Operators.{intersected}
use Rattle.relation_core.proofs.FilterLemmas.{rows_ascend}
use Rattle.cell_packing.specs.Boxed.{boxed_cmp, packed_boxes, unpacked_boxes}
use Rattle.u_set.specs.Boxes.{others, boxed}
use Rattle.u_set.proofs.RelationLemmas.{relation_shaped, shaped_under, answer_read, refusal_read, labels_read}
use Rattle.u_set.proofs.CommonLemmas.{intersected_rows}
use Rattle.u_set.proofs.common.intersected_by_boxes.Goals as goal

pub from_boxes-requires-clause-labels : goal.from_boxes-requires-clause-labels
from_boxes-requires-clause-labels g c =
    let left = c.args.left.now in
    let right = c.args.right.now in
    let commalist = c.args.commalist.now in
    let l = c.common_form.ensures.relation in
    let r = c.heading.ensures.relation in
    let same : c.in_ok-heading.heading ≡ c.args.left.now.heading = c.in_ok-heading.ensures ∙ c.heading.ensures.heading ∙ sym c.requires.heading in
    let are =
    intersected_rows left.heading commalist c.requires.intervals left.rows right.rows (rows_ascend left l) (rows_ascend right r)
    (relation_shaped left l commalist c.requires.intervals) (shaped_under left.heading right c.requires.heading r commalist c.requires.intervals) in
    subst (λ (h : Heading). All (λ b. IsTrue (fits_heading (others commalist h) b.0)) c.in-Ok.form.items) (sym same)
    (labels_read left.heading commalist (packed commalist (intersected (unpacked commalist left.rows) (unpacked commalist right.rows))) (packed_boxes row_cmp (length commalist) (common_of (boxed_cmp row_cmp) (unpacked_boxes row_cmp (length commalist) (map (boxed commalist) left.rows)) (unpacked_boxes row_cmp (length commalist) (map (boxed commalist) right.rows)))) are c.in-Ok.form.items c.in-Ok.ensures.rows)

pub returns-in-Ok-clause-rows : goal.returns-in-Ok-clause-rows
returns-in-Ok-clause-rows g c =
    let left = c.args.left.now in
    let right = c.args.right.now in
    let commalist = c.args.commalist.now in
    let l = c.common_form.ensures.relation in
    let r = c.heading.ensures.relation in
    let same : c.in_ok-heading.heading ≡ c.args.left.now.heading = c.in_ok-heading.ensures ∙ c.heading.ensures.heading ∙ sym c.requires.heading in
    let are =
    intersected_rows left.heading commalist c.requires.intervals left.rows right.rows (rows_ascend left l) (rows_ascend right r)
    (relation_shaped left l commalist c.requires.intervals) (shaped_under left.heading right c.requires.heading r commalist c.requires.intervals) in
    answer_read left.heading commalist (packed commalist (intersected (unpacked commalist left.rows) (unpacked commalist right.rows))) (packed_boxes row_cmp (length commalist) (common_of (boxed_cmp row_cmp) (unpacked_boxes row_cmp (length commalist) (map (boxed commalist) left.rows)) (unpacked_boxes row_cmp (length commalist) (map (boxed commalist) right.rows)))) are c.in-Ok.form.items c.in-Ok.ensures.rows c.in_ok-heading.heading same c.from_boxes.result c.from_boxes.ensures

pub returns-in-Err-clause-rows : goal.returns-in-Err-clause-rows
returns-in-Err-clause-rows g c =
    let left = c.args.left.now in
    let right = c.args.right.now in
    let commalist = c.args.commalist.now in
    let l = c.common_form.ensures.relation in
    let r = c.heading.ensures.relation in
    let are =
    intersected_rows left.heading commalist c.requires.intervals left.rows right.rows (rows_ascend left l) (rows_ascend right r)
    (relation_shaped left l commalist c.requires.intervals) (shaped_under left.heading right c.requires.heading r commalist c.requires.intervals) in
    refusal_read left.heading commalist (packed commalist (intersected (unpacked commalist left.rows) (unpacked commalist right.rows))) (packed_boxes row_cmp (length commalist) (common_of (boxed_cmp row_cmp) (unpacked_boxes row_cmp (length commalist) (map (boxed commalist) left.rows)) (unpacked_boxes row_cmp (length commalist) (map (boxed commalist) right.rows)))) are
    c.in-Err.refuse c.refusal.result c.refusal.ensures.0 (λ e. c.in-Err.ensures.limit (ap (λ x. Err x) e))
