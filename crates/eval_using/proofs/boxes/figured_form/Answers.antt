use Rattle.std.proofs.Common.{◌≡◌, ◌<◌, ◌≤◌, ◌+◌, ℕ, List, Err, Some, None, length, map, sym, ap, ◌∙◌, subst}
use Rattle.std.specs.Result.{IfOk}
use Rattle.std.proofs.lemmas.List.{length-map}
use Rattle.point_core.specs.Points.{number}
use Rattle.point_core.specs.declared.fault.Fault.{Fault}
use Rattle.cell_packing.specs.Boxed.{Boxed}
use Rattle.value_core.specs.Values.{Row, row_cmp, most_rows}
use Rattle.relation_core.specs.Parts.{kind_at}
use Rattle.tree_core.specs.Trees.{read_aggregate}
use Rattle.point_core.specs.LeastFault.{IsLeast}
use Rattle.cell_core.specs.Cells.{row_numbers}
use Rattle.cell_core.specs.Costs.{bound}
use Rattle.cell_core.specs.declared.boxes.CellRefuse.TheVariants.{Op as OfOp, Limit as OfLimit}
use Rattle.u_set.specs.Boxes.{type_of, others, boxed}
use Rattle.u_row.specs.Kept.{inner}
use Rattle.u_summarize.specs.Groups.{HasGroupFault, IsGroupForm, labels_in}
use Rattle.eval_using.specs.Labels.{group_label}
use Rattle.eval_using.proofs.SummaryPartLemmas.{all_long, labels_of_boxes, fits_labels}
use Rattle.eval_using.proofs.boxes.figured_form.Goals as goal

pub u_tally-requires-clause-side : goal.u_tally-requires-clause-side
u_tally-requires-clause-side g c =
    let commalist = c.args.of.commalist.now in
    ap length (c.as_slice.ensures.value ∙ c.in_ok-types.ensures) ∙ length-map commalist (λ i. type_of (kind_at c.attributes.result.now i)) ∙ c.requires.side

pub u_tally-requires-clause-takes : goal.u_tally-requires-clause-takes
u_tally-requires-clause-takes g c =
    let r = c.args.r.now in
    let commalist = c.args.of.commalist.now in
    let same = c.in_ok-boxes.ensures.rows in
    let many : length c.in_ok-boxes.boxes.items ≡ length r.rows = sym (length-map c.in_ok-boxes.boxes.items (row_numbers number)) ∙ ap length same ∙ length-map r.rows (boxed commalist) in
    all_long r.rows (map read_aggregate c.args.of.aggregates.now) c.args.parts.columns.items (length c.in_ok-boxes.boxes.items) c.requires.figured.columns (sym many)

pub u_tally-requires-clause-fits : goal.u_tally-requires-clause-fits
u_tally-requires-clause-fits g c =
    let r = c.args.r.now in
    let commalist = c.args.of.commalist.now in
    let gs = map read_aggregate c.args.of.aggregates.now in
    let same = c.in_ok-boxes.ensures.rows in
    let labels = labels_of_boxes commalist r.rows c.in_ok-boxes.boxes.items same in
    let count : length (labels_in c.in_ok-boxes.boxes.items) ≡ length r.rows = ap length labels ∙ length-map r.rows (others commalist) in (
      fits_labels commalist c.args.parts.places.items c.args.to.now c.args.of.at.now (inner commalist c.args.of.by.now) c.as_slice-2.result.now gs r.rows c.rows.result.now (labels_in c.in_ok-boxes.boxes.items) c.args.parts.columns.items c.requires.figured
          (c.as_slice-2.ensures.value ∙ c.in_ok-keys.ensures) c.rows.ensures.rows labels,
      all_long r.rows gs c.args.parts.columns.items (length (labels_in c.in_ok-boxes.boxes.items)) c.requires.figured.columns (sym count),
    )

pub returns-clause-rows : goal.returns-clause-rows
returns-clause-rows g c =
    let commalist = c.args.of.commalist.now in
    let many = ap length (c.as_slice.ensures.value ∙ c.in_ok-types.ensures) ∙ length-map commalist (λ i. type_of (kind_at c.attributes.result.now i)) in
    let same = c.in_ok-boxes.ensures.rows in
    let keys = c.as_slice-2.ensures.value ∙ c.in_ok-keys.ensures in
    subst (λ (w : ℕ × List Row × List ℕ × List (Boxed Row)). IfOk c.u_tally.result (λ v.
    IsGroupForm {F = Fault} row_cmp w.0 (group_label c.args.to.now c.args.of.at.now (map read_aggregate c.args.of.aggregates.now) w.1) w.2 w.3 (map (row_numbers number) v.items)))
    (λ t. (many t, c.rows.ensures.rows t, keys t, same t)) c.u_tally.ensures.rows

pub returns-clause-no_fault : goal.returns-clause-no_fault
returns-clause-no_fault g c =
    let same = c.in_ok-boxes.ensures.rows in
    let keys = c.as_slice-2.ensures.value ∙ c.in_ok-keys.ensures in
    subst (λ (w : List Row × List ℕ × List (Boxed Row)). IfOk c.u_tally.result (λ v.
    IsLeast (HasGroupFault (group_label c.args.to.now c.args.of.at.now (map read_aggregate c.args.of.aggregates.now) w.0) w.1 w.2) None))
    (λ t. (c.rows.ensures.rows t, keys t, same t)) c.u_tally.ensures.no_fault

pub returns-clause-fault : goal.returns-clause-fault
returns-clause-fault g c =
    let same = c.in_ok-boxes.ensures.rows in
    let keys = c.as_slice-2.ensures.value ∙ c.in_ok-keys.ensures in
    subst (λ (w : List Row × List ℕ × List (Boxed Row)). (e : Fault) → c.u_tally.result ≡ Err (OfOp e) →
    IsLeast (HasGroupFault (group_label c.args.to.now c.args.of.at.now (map read_aggregate c.args.of.aggregates.now) w.0) w.1 w.2) (Some e))
    (λ t. (c.rows.ensures.rows t, keys t, same t)) c.u_tally.ensures.fault

pub returns-clause-limit : goal.returns-clause-limit
returns-clause-limit g c =
    let commalist = c.args.of.commalist.now in
    let many = ap length (c.as_slice.ensures.value ∙ c.in_ok-types.ensures) ∙ length-map commalist (λ i. type_of (kind_at c.attributes.result.now i)) in
    let same = c.in_ok-boxes.ensures.rows in
    let keys = c.as_slice-2.ensures.value ∙ c.in_ok-keys.ensures in
    subst (λ (w : ℕ × List Row × List ℕ × List (Boxed Row)). c.u_tally.result ≡ Err OfLimit →
    IsLeast (HasGroupFault (group_label c.args.to.now c.args.of.at.now (map read_aggregate c.args.of.aggregates.now) w.1) w.2 w.3) None
    × ((form : List (Boxed Row)) × IsGroupForm {F = Fault} row_cmp w.0 (group_label c.args.to.now c.args.of.at.now (map read_aggregate c.args.of.aggregates.now) w.1) w.2 w.3 form × (most_rows < length form)))
    (λ t. (many t, c.rows.ensures.rows t, keys t, same t)) c.u_tally.ensures.limit

pub returns-clause-cost : goal.returns-clause-cost
returns-clause-cost g c =
    let r = c.args.r.now in
    let commalist = c.args.of.commalist.now in
    let many = ap length (c.as_slice.ensures.value ∙ c.in_ok-types.ensures) ∙ length-map commalist (λ i. type_of (kind_at c.attributes.result.now i)) in
    let same = c.in_ok-boxes.ensures.rows in
    let rows : length c.in_ok-boxes.boxes.items ≡ length r.rows = sym (length-map c.in_ok-boxes.boxes.items (row_numbers number)) ∙ ap length same ∙ length-map r.rows (boxed commalist) in
    subst (λ (w : ℕ × ℕ). c.u_tally.new.steps ≤ c.args.steps.now + bound w.0 w.1) (λ t. (rows t, many t)) c.u_tally.ensures.cost
