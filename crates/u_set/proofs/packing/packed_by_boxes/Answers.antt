use Rattle.std.proofs.Common.{◌≡◌, Err, length, map, sym, ap, ◌∙◌, subst}
use Rattle.std.specs.Bool.{IsTrue}
use Rattle.std.specs.List.{All}
use Rattle.value_core.specs.RowPacking.{packed}
use Rattle.value_core.specs.Values.{Heading, row_cmp, fits_heading}
use Rattle.relation_core.proofs.FilterLemmas.{rows_ascend}
use Rattle.cell_packing.specs.Boxed.{packed_boxes}
use Rattle.u_set.specs.Boxes.{others, boxed}
use Rattle.u_set.proofs.BridgeLemmas.{packed_rows}
use Rattle.u_set.proofs.RelationLemmas.{relation_shaped, answer_read, refusal_read, labels_read}
use Rattle.u_set.proofs.packing.packed_by_boxes.Goals as goal

pub from_boxes-requires-clause-labels : goal.from_boxes-requires-clause-labels
from_boxes-requires-clause-labels g c =
    let r = c.args.r.now in
    let commalist = c.args.commalist.now in
    let is = c.heading.ensures.relation in
    let same : c.in_ok-heading.heading ≡ c.args.r.now.heading = c.in_ok-heading.ensures ∙ c.heading.ensures.heading in
    let are = packed_rows r.heading commalist c.requires r.rows (rows_ascend r is) (relation_shaped r is commalist c.requires) in
    subst (λ (h : Heading). All (λ b. IsTrue (fits_heading (others commalist h) b.0)) c.in-Ok.form.items) (sym same)
    (labels_read r.heading commalist (packed commalist r.rows) (packed_boxes row_cmp (length commalist) (map (boxed commalist) r.rows)) are c.in-Ok.form.items c.in-Ok.ensures.rows)

pub returns-in-Ok-clause-rows : goal.returns-in-Ok-clause-rows
returns-in-Ok-clause-rows g c =
    let r = c.args.r.now in
    let commalist = c.args.commalist.now in
    let is = c.heading.ensures.relation in
    let same : c.in_ok-heading.heading ≡ c.args.r.now.heading = c.in_ok-heading.ensures ∙ c.heading.ensures.heading in
    let are = packed_rows r.heading commalist c.requires r.rows (rows_ascend r is) (relation_shaped r is commalist c.requires) in
    answer_read r.heading commalist (packed commalist r.rows) (packed_boxes row_cmp (length commalist) (map (boxed commalist) r.rows)) are c.in-Ok.form.items c.in-Ok.ensures.rows c.in_ok-heading.heading same c.from_boxes.result c.from_boxes.ensures

pub returns-in-Err-clause-rows : goal.returns-in-Err-clause-rows
returns-in-Err-clause-rows g c =
    let r = c.args.r.now in
    let commalist = c.args.commalist.now in
    let is = c.heading.ensures.relation in
    let are = packed_rows r.heading commalist c.requires r.rows (rows_ascend r is) (relation_shaped r is commalist c.requires) in
    refusal_read r.heading commalist (packed commalist r.rows) (packed_boxes row_cmp (length commalist) (map (boxed commalist) r.rows)) are c.in-Err.refuse c.refusal.result c.refusal.ensures.0
    (λ e. c.in-Err.ensures.limit (ap (λ x. Err x) e))
