use Rattle.std.proofs.Common.{List, Err, map, refl, sym, ap, ◌∙◌, subst}
use Rattle.std.specs.Bool.{IsTrue}
use Rattle.std.specs.List.{All}
use Rattle.point_core.specs.Faults.{OrFault}
use Rattle.point_core.specs.Points.{number, IsPointOf}
use Rattle.point_core.specs.declared.any_type.AnyType.{AnyType}
use Rattle.value_core.specs.RowPacking.{packed}
use Rattle.value_core.specs.Values.{Row, Heading, fits_heading, rows_of}
use Rattle.relation_core.specs.Answers.{Answers, under}
use Rattle.tree_core.specs.Trees.{read_sets}
use Rattle.cell_core.specs.Boxes.{IsBox}
use Rattle.cell_core.specs.Cells.{row_numbers}
use Rattle.u_set.specs.Boxes.{AreIntervals, others, types_at}
use Rattle.u_set.proofs.RelationLemmas.{labels_read, answer_read}
use Rattle.eval_using.proofs.MadeRowLemmas.{made_rows, rows_made, made_meant, fault_meant, too_many_there}
use Rattle.eval_using.proofs.extension.extended_and_packed.Goals as goal

pub from_boxes-requires-clause-labels : goal.from_boxes-requires-clause-labels
from_boxes-requires-clause-labels g c =
    let r = c.args.r.now in
    let i = c.args.items in
    let is = c.in-Ok.ensures.relation in
    let form = c.in-Ok.form.items in
    let boxes = map (row_numbers number) form in
    let w = made_rows r is c.args.heading.now i.commalist.now i.to.now (read_sets i.sets.now) i.places.now c.requires.items c.in-Ok.ensures.no_fault in
    let are = rows_made r is c.args.heading.now i.commalist.now i.to.now (read_sets i.sets.now) i.places.now c.requires.items w.0 w.1 boxes c.in-Ok.ensures.rows in
    subst (λ (h : Heading). All (λ b. IsTrue (fits_heading (others i.to.now h) b.0)) form) (sym c.in_ok-whole.ensures)
    (labels_read c.args.heading.now i.to.now (packed i.to.now (rows_of w.0)) boxes are form refl)

pub from_boxes-requires-clause-intervals : goal.from_boxes-requires-clause-intervals
from_boxes-requires-clause-intervals g c = subst (λ (h : Heading). AreIntervals h c.args.items.to.now) (sym c.in_ok-whole.ensures) c.requires.items.there

pub from_boxes-requires-clause-sides : goal.from_boxes-requires-clause-sides
from_boxes-requires-clause-sides g c =
    let r = c.args.r.now in
    let i = c.args.items in
    let types = c.requires.items.types in
    subst (λ (h : Heading). All (λ b. IsBox IsPointOf (types_at h i.to.now) b.1) c.in-Ok.form.items) (sym c.in_ok-whole.ensures)
    (subst (λ (ts : List AnyType). All (λ b. IsBox IsPointOf ts b.1) c.in-Ok.form.items) types c.in-Ok.ensures.boxes)

pub returns-in-Ok-clause-value : goal.returns-in-Ok-clause-value
returns-in-Ok-clause-value g c =
    let r = c.args.r.now in
    let i = c.args.items in
    let is = c.in-Ok.ensures.relation in
    let form = c.in-Ok.form.items in
    let boxes = map (row_numbers number) form in
    let w = made_rows r is c.args.heading.now i.commalist.now i.to.now (read_sets i.sets.now) i.places.now c.requires.items c.in-Ok.ensures.no_fault in
    let are = rows_made r is c.args.heading.now i.commalist.now i.to.now (read_sets i.sets.now) i.places.now c.requires.items w.0 w.1 boxes c.in-Ok.ensures.rows in
    let rows = packed i.to.now (rows_of w.0) in
    let answered = answer_read c.args.heading.now i.to.now rows boxes are form refl c.in_ok-whole.whole c.in_ok-whole.ensures c.from_boxes.result c.from_boxes.ensures in
    subst (λ (m : OrFault (List Row)). Answers c.or_fault_at.result (under c.args.heading.now m))
    (made_meant r is c.args.heading.now i.commalist.now i.to.now (read_sets i.sets.now) i.places.now c.requires.items w.0 w.1 c.args.place)
    (c.or_fault_at.ensures c.args.heading.now rows answered)

pub or_fault_at-requires-in-Err-Limit : goal.or_fault_at-requires-in-Err-Limit
or_fault_at-requires-in-Err-Limit g c =
    let r = c.args.r.now in
    let i = c.args.items in
    let is = c.in-Err-Limit.ensures.relation in
    let long = c.in-Err-Limit.ensures.limit (ap (λ x. Err x) c.in-Err-Limit.field-0-is) in
    let w = made_rows r is c.args.heading.now i.commalist.now i.to.now (read_sets i.sets.now) i.places.now c.requires.items long.0 in
    (c.args.heading.now, packed i.to.now (rows_of w.0), too_many_there r is c.args.heading.now i.commalist.now i.to.now (read_sets i.sets.now) i.places.now c.requires.items w.0 w.1 long.1)

pub returns-in-Err-Limit-clause-value : goal.returns-in-Err-Limit-clause-value
returns-in-Err-Limit-clause-value g c =
    let r = c.args.r.now in
    let i = c.args.items in
    let is = c.in-Err-Limit.ensures.relation in
    let long = c.in-Err-Limit.ensures.limit (ap (λ x. Err x) c.in-Err-Limit.field-0-is) in
    let w = made_rows r is c.args.heading.now i.commalist.now i.to.now (read_sets i.sets.now) i.places.now c.requires.items long.0 in
    let many = too_many_there r is c.args.heading.now i.commalist.now i.to.now (read_sets i.sets.now) i.places.now c.requires.items w.0 w.1 long.1 in
    subst (λ (m : OrFault (List Row)). Answers c.or_fault_at-in-Err-Limit.result (under c.args.heading.now m))
    (made_meant r is c.args.heading.now i.commalist.now i.to.now (read_sets i.sets.now) i.places.now c.requires.items w.0 w.1 c.args.place)
    (c.or_fault_at-in-Err-Limit.ensures c.args.heading.now (packed i.to.now (rows_of w.0)) many)

pub returns-in-Err-Op-clause-value : goal.returns-in-Err-Op-clause-value
returns-in-Err-Op-clause-value g c =
    let r = c.args.r.now in
    let i = c.args.items in
    let is = c.in-Err-Op.ensures.relation in
    let least = c.in-Err-Op.ensures.fault c.in-Err-Op.fault (ap (λ x. Err x) c.in-Err-Op.field-0-is) in
    ap (under c.args.heading.now) (fault_meant r is c.args.heading.now i.commalist.now i.to.now (read_sets i.sets.now) i.places.now c.requires.items c.args.place c.in-Err-Op.fault least) ∙ ap (λ x. Err x) (sym c.in-Err-Op.fault-is)
