use Rattle.std.proofs.Common.{◌+◌, ◌≤◌, ◌++◌, Err, List, length, map, sym, ap, ◌∙◌, subst}
use Rattle.std.specs.Bool.{IsTrue}
use Rattle.std.specs.List.{All}
use Rattle.point_core.specs.Points.{IsPointOf}
use Rattle.point_core.specs.declared.any_type.AnyType.{AnyType}
use Rattle.value_core.specs.RowPacking.{packed, unpacked}
use Rattle.value_core.specs.Values.{Heading, row_cmp, fits_heading}
use Rattle.relation_core.specs.Agreement.{common_positions}
use Rattle.relation_core.specs.Joins.{joined}
use Rattle.relation_core.specs.Parts.{positions_in}
use Rattle.relation_core.proofs.FilterLemmas.{rows_ascend}
use Rattle.relation_core.proofs.HeadingLemmas.{heading_ascends}
use Rattle.cell_packing.specs.Boxed.{packed_boxes, unpacked_boxes}
use Rattle.cell_core.specs.Boxes.{IsBox}
use Rattle.cell_core.specs.Costs.{bound}
use Rattle.u_set.specs.Boxes.{AreIntervals, types_at, others, boxed}
use Rattle.u_set.proofs.RelationLemmas.{relation_shaped, answer_read, refusal_read, labels_read}
use Rattle.u_row.specs.Kept.{inner}
use Rattle.u_join.specs.Pairs.{joined_label, joined_boxes}
use Rattle.u_join.specs.Places.{positions_of_both}
use Rattle.u_join.proofs.ListedLemmas.{same_types, same_count, joined_under}
use Rattle.u_join.proofs.joins.joined_by_boxes.Goals as goal

pub from_boxes-requires-clause-intervals : goal.from_boxes-requires-clause-intervals
from_boxes-requires-clause-intervals g c = subst (λ (h : Heading). AreIntervals h c.args.commalist.now) (sym c.in_ok-whole.ensures) c.requires.intervals

pub from_boxes-requires-clause-sides : goal.from_boxes-requires-clause-sides
from_boxes-requires-clause-sides g c =
    let types = same_types c.args.heading.now c.args.left.now.heading c.args.commalist.now c.args.here.now c.requires.listed in
    subst (λ (ts : List AnyType). All (λ b. IsBox IsPointOf ts b.1) c.in-Ok.form.items) (types ∙ ap (λ (h : Heading). types_at h c.args.commalist.now) (sym c.in_ok-whole.ensures)) c.in-Ok.ensures.boxes

pub from_boxes-requires-clause-labels : goal.from_boxes-requires-clause-labels
from_boxes-requires-clause-labels g c =
    let left = c.args.left.now in
    let right = c.args.right.now in
    let commalist = c.args.commalist.now in
    let here = c.args.here.now in
    let there = c.args.there.now in
    let l = c.joining_boxes.ensures.left_relation in
    let r = c.joining_boxes.ensures.right_relation in
    let are =
    joined_under left.heading right.heading here there c.requires.same c.requires.kinds (heading_ascends left.heading l.headed) (heading_ascends right.heading r.headed) c.requires.left c.requires.right
    left.rows right.rows (rows_ascend left l) (rows_ascend right r) (relation_shaped left l here c.requires.left) (relation_shaped right r there c.requires.right)
    c.args.heading.now commalist c.requires.heading c.requires.intervals c.requires.listed in
    subst (λ (h : Heading). All (λ b. IsTrue (fits_heading (others commalist h) b.0)) c.in-Ok.form.items) (sym c.in_ok-whole.ensures)
    (labels_read c.args.heading.now commalist (packed commalist (joined left.heading right.heading (unpacked here left.rows) (unpacked there right.rows))) (packed_boxes row_cmp (length here) (joined_boxes (inner here (common_positions left.heading left.heading right.heading)) (inner there (common_positions right.heading left.heading right.heading)) (joined_label (inner (positions_of_both (length left.heading) here there) (positions_in (left.heading ++ right.heading) c.args.heading.now))) (unpacked_boxes row_cmp (length here) (map (boxed here) left.rows)) (unpacked_boxes row_cmp (length here) (map (boxed there) right.rows)))) are c.in-Ok.form.items c.in-Ok.ensures.rows)

pub returns-in-Ok-clause-rows : goal.returns-in-Ok-clause-rows
returns-in-Ok-clause-rows g c =
    let left = c.args.left.now in
    let right = c.args.right.now in
    let commalist = c.args.commalist.now in
    let here = c.args.here.now in
    let there = c.args.there.now in
    let l = c.joining_boxes.ensures.left_relation in
    let r = c.joining_boxes.ensures.right_relation in
    let are =
    joined_under left.heading right.heading here there c.requires.same c.requires.kinds (heading_ascends left.heading l.headed) (heading_ascends right.heading r.headed) c.requires.left c.requires.right
    left.rows right.rows (rows_ascend left l) (rows_ascend right r) (relation_shaped left l here c.requires.left) (relation_shaped right r there c.requires.right)
    c.args.heading.now commalist c.requires.heading c.requires.intervals c.requires.listed in
    answer_read c.args.heading.now commalist (packed commalist (joined left.heading right.heading (unpacked here left.rows) (unpacked there right.rows))) (packed_boxes row_cmp (length here) (joined_boxes (inner here (common_positions left.heading left.heading right.heading)) (inner there (common_positions right.heading left.heading right.heading)) (joined_label (inner (positions_of_both (length left.heading) here there) (positions_in (left.heading ++ right.heading) c.args.heading.now))) (unpacked_boxes row_cmp (length here) (map (boxed here) left.rows)) (unpacked_boxes row_cmp (length here) (map (boxed there) right.rows)))) are c.in-Ok.form.items c.in-Ok.ensures.rows c.in_ok-whole.whole c.in_ok-whole.ensures c.from_boxes.result c.from_boxes.ensures

pub returns-in-Err-clause-rows : goal.returns-in-Err-clause-rows
returns-in-Err-clause-rows g c =
    let left = c.args.left.now in
    let right = c.args.right.now in
    let commalist = c.args.commalist.now in
    let here = c.args.here.now in
    let there = c.args.there.now in
    let l = c.joining_boxes.ensures.left_relation in
    let r = c.joining_boxes.ensures.right_relation in
    let are =
    joined_under left.heading right.heading here there c.requires.same c.requires.kinds (heading_ascends left.heading l.headed) (heading_ascends right.heading r.headed) c.requires.left c.requires.right
    left.rows right.rows (rows_ascend left l) (rows_ascend right r) (relation_shaped left l here c.requires.left) (relation_shaped right r there c.requires.right)
    c.args.heading.now commalist c.requires.heading c.requires.intervals c.requires.listed in
    refusal_read c.args.heading.now commalist (packed commalist (joined left.heading right.heading (unpacked here left.rows) (unpacked there right.rows))) (packed_boxes row_cmp (length here) (joined_boxes (inner here (common_positions left.heading left.heading right.heading)) (inner there (common_positions right.heading left.heading right.heading)) (joined_label (inner (positions_of_both (length left.heading) here there) (positions_in (left.heading ++ right.heading) c.args.heading.now))) (unpacked_boxes row_cmp (length here) (map (boxed here) left.rows)) (unpacked_boxes row_cmp (length here) (map (boxed there) right.rows)))) are
    c.in-Err.refuse c.refusal.result c.refusal.ensures.0 (λ e. c.in-Err.ensures.limit (ap (λ x. Err x) e))

pub returns-in-Ok-clause-cost : goal.returns-in-Ok-clause-cost
returns-in-Ok-clause-cost g c =
    let count = same_count c.args.heading.now c.args.left.now.heading c.args.commalist.now c.args.here.now c.requires.listed in
    subst (λ k. c.joining_boxes.new.steps ≤ c.args.steps.now + bound (length c.args.left.now.rows + length c.args.right.now.rows) k) count c.joining_boxes.ensures.cost
