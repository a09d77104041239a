use Rattle.std.proofs.Common.{List, Err, map, refl, sym, ap, ◌∙◌, subst}
use Rattle.std.specs.Bool.{IsTrue}
use Rattle.std.specs.List.{All}
use Rattle.point_core.specs.Faults.{OrFault}
use Rattle.point_core.specs.Points.{number}
use Rattle.value_core.specs.RowPacking.{packed}
use Rattle.value_core.specs.Values.{Row, Heading, fits_heading}
use Rattle.scalar_core.specs.Expressions.{read}
use Rattle.relation_core.specs.Answers.{Answers, under}
use Rattle.cell_core.specs.Cells.{row_numbers}
use Rattle.u_set.specs.Boxes.{others}
use Rattle.u_set.proofs.RelationLemmas.{labels_read, answer_read}
use Rattle.eval_using.proofs.RestrictionLemmas.{holding, holding_rows, holding_meant, fault_meant, too_many_there}
use Rattle.eval_using.proofs.restriction.restricted_and_packed.Goals as goal

pub from_boxes-requires-clause-labels : goal.from_boxes-requires-clause-labels
from_boxes-requires-clause-labels g c =
    let r = c.args.r.now in
    let commalist = c.args.commalist.now in
    let e = read c.args.c.now in
    let is = c.heading.ensures.relation in
    let form = c.in-Ok.form.items in
    let boxes = map (row_numbers number) form in
    let are = holding_rows r is commalist c.requires.intervals e boxes c.in-Ok.ensures.rows in
    let whole = c.in_ok-whole.ensures ∙ c.heading.ensures.heading in
    subst (λ (h : Heading). All (λ b. IsTrue (fits_heading (others commalist h) b.0)) form) (sym whole)
    (labels_read r.heading commalist (packed commalist (holding r is commalist c.requires.intervals e)) boxes are form refl)

pub returns-in-Ok-clause-value : goal.returns-in-Ok-clause-value
returns-in-Ok-clause-value g c =
    let r = c.args.r.now in
    let commalist = c.args.commalist.now in
    let e = read c.args.c.now in
    let is = c.heading.ensures.relation in
    let form = c.in-Ok.form.items in
    let boxes = map (row_numbers number) form in
    let rows = packed commalist (holding r is commalist c.requires.intervals e) in
    let are = holding_rows r is commalist c.requires.intervals e boxes c.in-Ok.ensures.rows in
    let whole = c.in_ok-whole.ensures ∙ c.heading.ensures.heading in
    let answered = answer_read r.heading commalist rows boxes are form refl c.in_ok-whole.whole whole c.from_boxes.result c.from_boxes.ensures in
    subst (λ (m : OrFault (List Row)). Answers c.or_fault_at.result (under r.heading m)) (holding_meant r is commalist c.requires.intervals e c.args.place c.in-Ok.ensures.no_fault)
    (c.or_fault_at.ensures r.heading rows answered)

pub or_fault_at-requires-in-Err-Limit : goal.or_fault_at-requires-in-Err-Limit
or_fault_at-requires-in-Err-Limit g c =
    let r = c.args.r.now in
    let commalist = c.args.commalist.now in
    let e = read c.args.c.now in
    let is = c.heading.ensures.relation in
    let long = c.in-Err-Limit.ensures.limit (ap (λ x. Err x) c.in-Err-Limit.field-0-is) in
    (r.heading, packed commalist (holding r is commalist c.requires.intervals e), too_many_there r is commalist c.requires.intervals e long)

pub returns-in-Err-Limit-clause-value : goal.returns-in-Err-Limit-clause-value
returns-in-Err-Limit-clause-value g c =
    let r = c.args.r.now in
    let commalist = c.args.commalist.now in
    let e = read c.args.c.now in
    let is = c.heading.ensures.relation in
    let rows = packed commalist (holding r is commalist c.requires.intervals e) in
    let long = c.in-Err-Limit.ensures.limit (ap (λ x. Err x) c.in-Err-Limit.field-0-is) in
    subst (λ (m : OrFault (List Row)). Answers c.or_fault_at-in-Err-Limit.result (under r.heading m)) (holding_meant r is commalist c.requires.intervals e c.args.place long.0)
    (c.or_fault_at-in-Err-Limit.ensures r.heading rows (too_many_there r is commalist c.requires.intervals e long))

pub returns-in-Err-Op-clause-value : goal.returns-in-Err-Op-clause-value
returns-in-Err-Op-clause-value g c =
    let r = c.args.r.now in
    let commalist = c.args.commalist.now in
    let e = read c.args.c.now in
    let is = c.heading.ensures.relation in
    let least = c.in-Err-Op.ensures.fault c.in-Err-Op.fault (ap (λ x. Err x) c.in-Err-Op.field-0-is) in
    ap (under r.heading) (fault_meant r is commalist c.requires.intervals e c.args.place c.in-Err-Op.fault least) ∙ ap (λ x. Err x) (sym c.in-Err-Op.fault-is)
