use Rattle.std.proofs.Common.{◌≡◌, Err, length, map, sym, ap, ◌∙◌, subst}
use Rattle.std.specs.Bool.{IsTrue}
use Rattle.std.specs.List.{All}
use Rattle.value_core.specs.RowPacking.{packed, unpacked}
use Rattle.value_core.specs.Values.{Heading, row_cmp, fits_heading}
use Rattle.relation_core.specs.Agreement.{common_positions, unmatched}
use Rattle.relation_core.proofs.FilterLemmas.{rows_ascend}
use Rattle.relation_core.proofs.HeadingLemmas.{heading_ascends}
use Rattle.cell_packing.specs.Boxed.{packed_boxes, unpacked_boxes}
use Rattle.u_set.specs.Boxes.{others, boxed}
use Rattle.u_set.proofs.RelationLemmas.{relation_shaped, answer_read, refusal_read, labels_read}
use Rattle.u_row.specs.Kept.{inner}
use Rattle.u_join.specs.Pairs.{unmatched_boxes}
use Rattle.u_join.proofs.ListedLemmas.{unmatched_at}
use Rattle.u_join.proofs.matches.unmatched_by_boxes.Goals as goal

pub from_boxes-requires-clause-labels : goal.from_boxes-requires-clause-labels
from_boxes-requires-clause-labels g c =
    let left = c.args.left.now in
    let right = c.args.right.now in
    let commalist = c.args.here.now in
    let there = c.args.there.now in
    let l = c.not_matching_boxes.ensures.left_relation in
    let r = c.not_matching_boxes.ensures.right_relation in
    let are =
    unmatched_at left.heading right.heading commalist there c.requires.same c.requires.kinds (heading_ascends left.heading l.headed) (heading_ascends right.heading r.headed) c.requires.left c.requires.right
    left.rows right.rows (rows_ascend left l) (rows_ascend right r) (relation_shaped left l commalist c.requires.left) (relation_shaped right r there c.requires.right) in
    let same : c.in_ok-heading.heading ≡ c.args.left.now.heading = c.in_ok-heading.ensures ∙ c.heading.ensures.heading in
    subst (λ (h : Heading). All (λ b. IsTrue (fits_heading (others commalist h) b.0)) c.in-Ok.form.items) (sym same)
    (labels_read left.heading commalist (packed commalist (unmatched left.heading right.heading (unpacked commalist left.rows) (unpacked there right.rows))) (packed_boxes row_cmp (length commalist) (unmatched_boxes (inner commalist (common_positions left.heading left.heading right.heading)) (inner there (common_positions right.heading left.heading right.heading)) (unpacked_boxes row_cmp (length commalist) (map (boxed commalist) left.rows)) (unpacked_boxes row_cmp (length commalist) (map (boxed there) right.rows)))) are c.in-Ok.form.items c.in-Ok.ensures.rows)

pub returns-in-Ok-clause-rows : goal.returns-in-Ok-clause-rows
returns-in-Ok-clause-rows g c =
    let left = c.args.left.now in
    let right = c.args.right.now in
    let commalist = c.args.here.now in
    let there = c.args.there.now in
    let l = c.not_matching_boxes.ensures.left_relation in
    let r = c.not_matching_boxes.ensures.right_relation in
    let are =
    unmatched_at left.heading right.heading commalist there c.requires.same c.requires.kinds (heading_ascends left.heading l.headed) (heading_ascends right.heading r.headed) c.requires.left c.requires.right
    left.rows right.rows (rows_ascend left l) (rows_ascend right r) (relation_shaped left l commalist c.requires.left) (relation_shaped right r there c.requires.right) in
    let same : c.in_ok-heading.heading ≡ c.args.left.now.heading = c.in_ok-heading.ensures ∙ c.heading.ensures.heading in
    answer_read left.heading commalist (packed commalist (unmatched left.heading right.heading (unpacked commalist left.rows) (unpacked there right.rows))) (packed_boxes row_cmp (length commalist) (unmatched_boxes (inner commalist (common_positions left.heading left.heading right.heading)) (inner there (common_positions right.heading left.heading right.heading)) (unpacked_boxes row_cmp (length commalist) (map (boxed commalist) left.rows)) (unpacked_boxes row_cmp (length commalist) (map (boxed there) right.rows)))) are c.in-Ok.form.items c.in-Ok.ensures.rows c.in_ok-heading.heading same c.from_boxes.result c.from_boxes.ensures

pub returns-in-Err-clause-rows : goal.returns-in-Err-clause-rows
returns-in-Err-clause-rows g c =
    let left = c.args.left.now in
    let right = c.args.right.now in
    let commalist = c.args.here.now in
    let there = c.args.there.now in
    let l = c.not_matching_boxes.ensures.left_relation in
    let r = c.not_matching_boxes.ensures.right_relation in
    let are =
    unmatched_at left.heading right.heading commalist there c.requires.same c.requires.kinds (heading_ascends left.heading l.headed) (heading_ascends right.heading r.headed) c.requires.left c.requires.right
    left.rows right.rows (rows_ascend left l) (rows_ascend right r) (relation_shaped left l commalist c.requires.left) (relation_shaped right r there c.requires.right) in
    refusal_read left.heading commalist (packed commalist (unmatched left.heading right.heading (unpacked commalist left.rows) (unpacked there right.rows))) (packed_boxes row_cmp (length commalist) (unmatched_boxes (inner commalist (common_positions left.heading left.heading right.heading)) (inner there (common_positions right.heading left.heading right.heading)) (unpacked_boxes row_cmp (length commalist) (map (boxed commalist) left.rows)) (unpacked_boxes row_cmp (length commalist) (map (boxed there) right.rows)))) are
    c.in-Err.refuse c.refusal.result c.refusal.ensures.0 (λ e. c.in-Err.ensures.limit (ap (λ x. Err x) e))
