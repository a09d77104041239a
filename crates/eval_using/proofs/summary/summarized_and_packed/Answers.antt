use Rattle.std.proofs.Common.{Err, map, refl, sym, ap, ◌∙◌, subst}
use Rattle.std.specs.Bool.{IsTrue}
use Rattle.std.specs.List.{All}
use Rattle.point_core.specs.Faults.{OrFault}
use Rattle.point_core.specs.Points.{number, IsPointOf}
use Rattle.value_core.specs.Values.{Heading, Relation, fits_heading, most_rows}
use Rattle.relation_core.specs.Answers.{Answers}
use Rattle.tree_core.specs.Trees.{read_aggregate}
use Rattle.cell_core.specs.Boxes.{IsBox}
use Rattle.cell_core.specs.Cells.{row_numbers}
use Rattle.u_set.specs.Boxes.{AreIntervals, types_at, others}
use Rattle.u_set.proofs.RelationLemmas.{labels_read, answer_read, too_many}
use Rattle.eval_using.proofs.CallLemmas.{own_intervals, typed, faulted, answered, intervals_by, sides_by}
use Rattle.eval_using.proofs.summary.summarized_and_packed.Goals as goal

pub summary_form-requires-clause-intervals : goal.summary_form-requires-clause-intervals
summary_form-requires-clause-intervals g c =
    intervals_by c.requires.summary.0 c.args.node.heading.now c.args.node.commalist.now c.args.of.by.now (map read_aggregate c.args.of.aggregates.now) c.args.r.now c.rows-rows.ensures.relation c.attributes-attributes.ensures.heading c.requires.summary.1 c.requires.list c.requires.listed c.requires.summed c.args.of.commalist.now c.args.of.at.now c.requires.here c.requires.places

pub summary_form-requires-clause-typed : goal.summary_form-requires-clause-typed
summary_form-requires-clause-typed g c =
    typed c.requires.summary.0 c.args.node.heading.now c.args.node.commalist.now c.args.of.by.now (map read_aggregate c.args.of.aggregates.now) c.args.r.now c.rows-rows.ensures.relation c.attributes-attributes.ensures.heading c.requires.summary.1 c.requires.list c.requires.listed c.requires.summed

pub from_boxes-requires-clause-intervals : goal.from_boxes-requires-clause-intervals
from_boxes-requires-clause-intervals g c =
    subst (λ (h : Heading). AreIntervals h c.args.node.commalist.now) (sym c.in_ok-whole.ensures)
    (own_intervals c.requires.summary.0 c.args.node.heading.now c.args.node.commalist.now c.args.of.by.now (map read_aggregate c.args.of.aggregates.now) c.args.r.now c.rows-rows.ensures.relation c.attributes-attributes.ensures.heading c.requires.summary.1 c.requires.list c.requires.listed c.requires.summed)

pub from_boxes-requires-clause-sides : goal.from_boxes-requires-clause-sides
from_boxes-requires-clause-sides g c =
    let form = c.in-Ok.form.items in
    subst (λ (h : Heading). All (λ b. IsBox IsPointOf (types_at h c.args.node.commalist.now) b.1) form) (sym c.in_ok-whole.ensures)
    (sides_by c.requires.summary.0 c.args.node.heading.now c.args.node.commalist.now c.args.of.by.now (map read_aggregate c.args.of.aggregates.now) c.args.r.now c.rows-rows.ensures.relation c.attributes-attributes.ensures.heading c.requires.summary.1 c.requires.list c.requires.listed c.requires.summed c.args.of.commalist.now c.args.of.at.now c.requires.here c.requires.places form c.in-Ok.ensures.boxes)

pub from_boxes-requires-clause-labels : goal.from_boxes-requires-clause-labels
from_boxes-requires-clause-labels g c =
    let h = c.args.node.heading.now in
    let commalist = c.args.node.commalist.now in
    let form = c.in-Ok.form.items in
    let boxes = map (row_numbers number) form in
    let w = answered c.requires.summary.0 c.args.node.heading.now c.args.node.commalist.now c.args.of.by.now (map read_aggregate c.args.of.aggregates.now) c.args.r.now c.rows-rows.ensures.relation c.attributes-attributes.ensures.heading c.requires.summary.1 c.requires.list c.requires.listed c.requires.summed c.args.of.commalist.now c.args.of.at.now c.requires.here c.requires.places c.args.node.place c.in-Ok.ensures.no_fault in
    let are = w.2 boxes c.in-Ok.ensures.rows in
    subst (λ (k : Heading). All (λ b. IsTrue (fits_heading (others commalist k) b.0)) form) (sym c.in_ok-whole.ensures) (labels_read h commalist w.0 boxes are form refl)

pub returns-in-Ok-clause-value : goal.returns-in-Ok-clause-value
returns-in-Ok-clause-value g c =
    let h = c.args.node.heading.now in
    let commalist = c.args.node.commalist.now in
    let form = c.in-Ok.form.items in
    let boxes = map (row_numbers number) form in
    let w = answered c.requires.summary.0 c.args.node.heading.now c.args.node.commalist.now c.args.of.by.now (map read_aggregate c.args.of.aggregates.now) c.args.r.now c.rows-rows.ensures.relation c.attributes-attributes.ensures.heading c.requires.summary.1 c.requires.list c.requires.listed c.requires.summed c.args.of.commalist.now c.args.of.at.now c.requires.here c.requires.places c.args.node.place c.in-Ok.ensures.no_fault in
    let are = w.2 boxes c.in-Ok.ensures.rows in
    let read = answer_read h commalist w.0 boxes are form refl c.in_ok-whole.whole c.in_ok-whole.ensures c.from_boxes.result c.from_boxes.ensures in
    subst (λ (m : OrFault Relation). Answers c.or_fault_at.result m) w.1 (c.or_fault_at.ensures h w.0 read)

pub or_fault_at-requires-in-Err-Limit : goal.or_fault_at-requires-in-Err-Limit
or_fault_at-requires-in-Err-Limit g c =
    let h = c.args.node.heading.now in
    let commalist = c.args.node.commalist.now in
    let long = c.in-Err-Limit.ensures.limit (ap (λ x. Err x) c.in-Err-Limit.field-0-is) in
    let f = long.1 in
    let w = answered c.requires.summary.0 c.args.node.heading.now c.args.node.commalist.now c.args.of.by.now (map read_aggregate c.args.of.aggregates.now) c.args.r.now c.rows-rows.ensures.relation c.attributes-attributes.ensures.heading c.requires.summary.1 c.requires.list c.requires.listed c.requires.summed c.args.of.commalist.now c.args.of.at.now c.requires.here c.requires.places c.args.node.place long.0 in
    (h, w.0, too_many h commalist w.0 f.0 (w.2 f.0 f.1) most_rows f.2)

pub returns-in-Err-Limit-clause-value : goal.returns-in-Err-Limit-clause-value
returns-in-Err-Limit-clause-value g c =
    let h = c.args.node.heading.now in
    let commalist = c.args.node.commalist.now in
    let long = c.in-Err-Limit.ensures.limit (ap (λ x. Err x) c.in-Err-Limit.field-0-is) in
    let f = long.1 in
    let w = answered c.requires.summary.0 c.args.node.heading.now c.args.node.commalist.now c.args.of.by.now (map read_aggregate c.args.of.aggregates.now) c.args.r.now c.rows-rows.ensures.relation c.attributes-attributes.ensures.heading c.requires.summary.1 c.requires.list c.requires.listed c.requires.summed c.args.of.commalist.now c.args.of.at.now c.requires.here c.requires.places c.args.node.place long.0 in
    subst (λ (m : OrFault Relation). Answers c.or_fault_at-in-Err-Limit.result m) w.1 (c.or_fault_at-in-Err-Limit.ensures h w.0 (too_many h commalist w.0 f.0 (w.2 f.0 f.1) most_rows f.2))

pub returns-in-Err-Op-clause-value : goal.returns-in-Err-Op-clause-value
returns-in-Err-Op-clause-value g c =
    let least = c.in-Err-Op.ensures.fault c.in-Err-Op.fault (ap (λ x. Err x) c.in-Err-Op.field-0-is) in
    faulted c.requires.summary.0 c.args.node.heading.now c.args.node.commalist.now c.args.of.by.now (map read_aggregate c.args.of.aggregates.now) c.args.r.now c.rows-rows.ensures.relation c.attributes-attributes.ensures.heading c.requires.summary.1 c.requires.list c.requires.listed c.requires.summed c.args.of.commalist.now c.args.of.at.now c.requires.here c.requires.places c.args.node.place c.in-Err-Op.fault least
    ∙ ap (λ x. Err x) (sym c.in-Err-Op.fault-is)
