use Rattle.std.proofs.Common.{◌+◌, ◌≤◌, Err, List, length, map, sym, ap, ◌∙◌, subst}
use Rattle.std.specs.Bool.{IsTrue}
use Rattle.std.specs.List.{All}
use Rattle.point_core.specs.Points.{IsPointOf}
use Rattle.point_core.specs.declared.any_type.AnyType.{AnyType}
use Rattle.value_core.specs.RowPacking.{packed, unpacked}
use Rattle.value_core.specs.Values.{Heading, row_cmp, fits_heading}
use Rattle.relation_core.specs.Agreement.{part_of}
use Rattle.relation_core.specs.Parts.{projected}
use Rattle.cell_packing.specs.Boxed.{packed_boxes, unpacked_boxes}
use Rattle.cell_core.specs.Boxes.{IsBox}
use Rattle.cell_core.specs.Costs.{bound}
use Rattle.u_set.specs.Boxes.{AreIntervals, types_at, others, boxed}
use Rattle.u_set.proofs.RelationLemmas.{answer_read, refusal_read, labels_read}
use Rattle.u_row.specs.Kept.{inner, beneath}
use Rattle.u_row.specs.Labels.{relabelled}
use Rattle.u_row.proofs.PartLemmas.{whole_intervals, whole_types, whole_count, whole_rows, positions_kept}
use Rattle.u_row.proofs.projection.projected_by_boxes.Goals as goal

pub beneath-requires : goal.beneath-requires
beneath-requires g c = positions_kept c.args.heading.now c.args.r.now.heading c.args.kept.now c.args.commalist.now c.requires.heading c.requires.intervals

pub projected_form-requires-clause-intervals : goal.projected_form-requires-clause-intervals
projected_form-requires-clause-intervals g c =
    let is = c.as_slice.ensures.value ∙ c.in_ok-listed.ensures in
    whole_intervals c.args.heading.now c.args.r.now c.args.kept.now c.args.commalist.now c.as_slice.result.now c.requires.ascending c.requires.within c.requires.heading c.requires.intervals is

pub from_boxes-requires-clause-intervals : goal.from_boxes-requires-clause-intervals
from_boxes-requires-clause-intervals g c = subst (λ (h : Heading). AreIntervals h c.args.commalist.now) (sym c.in_ok-whole.ensures) c.requires.intervals

pub from_boxes-requires-clause-sides : goal.from_boxes-requires-clause-sides
from_boxes-requires-clause-sides g c =
    let is = c.as_slice.ensures.value ∙ c.in_ok-listed.ensures in
    let types = whole_types c.args.heading.now c.args.r.now c.args.kept.now c.args.commalist.now c.as_slice.result.now c.requires.ascending c.requires.within c.requires.heading c.requires.intervals is in
    subst (λ (ts : List AnyType). All (λ b. IsBox IsPointOf ts b.1) c.in-Ok.form.items) (types ∙ ap (λ (h : Heading). types_at h c.args.commalist.now) (sym c.in_ok-whole.ensures)) c.in-Ok.ensures.boxes

pub from_boxes-requires-clause-labels : goal.from_boxes-requires-clause-labels
from_boxes-requires-clause-labels g c =
    let r = c.args.r.now in
    let commalist = c.args.commalist.now in
    let kept = c.args.kept.now in
    let listed = c.as_slice.result.now in
    let is = c.as_slice.ensures.value ∙ c.in_ok-listed.ensures in
    let are = whole_rows c.args.heading.now r kept commalist listed c.requires.ascending c.requires.within c.requires.heading c.requires.intervals is c.projected_form.ensures.relation in
    subst (λ (h : Heading). All (λ b. IsTrue (fits_heading (others commalist h) b.0)) c.in-Ok.form.items) (sym c.in_ok-whole.ensures)
    (labels_read c.args.heading.now commalist (packed commalist (projected kept (unpacked (beneath kept commalist) r.rows))) (packed_boxes row_cmp (length listed) (map (relabelled (part_of (inner listed kept))) (unpacked_boxes row_cmp (length listed) (map (boxed listed) r.rows)))) are c.in-Ok.form.items c.in-Ok.ensures.rows)

pub returns-in-Ok-clause-rows : goal.returns-in-Ok-clause-rows
returns-in-Ok-clause-rows g c =
    let r = c.args.r.now in
    let commalist = c.args.commalist.now in
    let kept = c.args.kept.now in
    let listed = c.as_slice.result.now in
    let is = c.as_slice.ensures.value ∙ c.in_ok-listed.ensures in
    let are = whole_rows c.args.heading.now r kept commalist listed c.requires.ascending c.requires.within c.requires.heading c.requires.intervals is c.projected_form.ensures.relation in
    answer_read c.args.heading.now commalist (packed commalist (projected kept (unpacked (beneath kept commalist) r.rows))) (packed_boxes row_cmp (length listed) (map (relabelled (part_of (inner listed kept))) (unpacked_boxes row_cmp (length listed) (map (boxed listed) r.rows)))) are c.in-Ok.form.items c.in-Ok.ensures.rows c.in_ok-whole.whole c.in_ok-whole.ensures c.from_boxes.result c.from_boxes.ensures

pub returns-clause-rows : goal.returns-clause-rows
returns-clause-rows g c =
    let r = c.args.r.now in
    let commalist = c.args.commalist.now in
    let kept = c.args.kept.now in
    let listed = c.as_slice.result.now in
    let is = c.as_slice.ensures.value ∙ c.in_ok-listed.ensures in
    let are = whole_rows c.args.heading.now r kept commalist listed c.requires.ascending c.requires.within c.requires.heading c.requires.intervals is c.projected_form.ensures.relation in
    refusal_read c.args.heading.now commalist (packed commalist (projected kept (unpacked (beneath kept commalist) r.rows))) (packed_boxes row_cmp (length listed) (map (relabelled (part_of (inner listed kept))) (unpacked_boxes row_cmp (length listed) (map (boxed listed) r.rows)))) are
    c.in-Err.refuse c.refusal.result c.refusal.ensures.0 (λ e. c.in-Err.ensures.limit (ap (λ x. Err x) e))

pub returns-in-Ok-clause-cost : goal.returns-in-Ok-clause-cost
returns-in-Ok-clause-cost g c =
    let is = c.as_slice.ensures.value ∙ c.in_ok-listed.ensures in
    let count = whole_count c.args.heading.now c.args.r.now c.args.kept.now c.args.commalist.now c.as_slice.result.now c.requires.ascending c.requires.within c.requires.heading c.requires.intervals is in
    subst (λ k. c.projected_form.new.steps ≤ c.args.steps.now + bound (length c.args.r.now.rows) k) count c.projected_form.ensures.cost

pub returns-clause-cost : goal.returns-clause-cost
returns-clause-cost g c =
    let is = c.as_slice.ensures.value ∙ c.in_ok-listed.ensures in
    let count = whole_count c.args.heading.now c.args.r.now c.args.kept.now c.args.commalist.now c.as_slice.result.now c.requires.ascending c.requires.within c.requires.heading c.requires.intervals is in
    subst (λ k. c.projected_form.new.steps ≤ c.args.steps.now + bound (length c.args.r.now.rows) k) count c.projected_form.ensures.cost
