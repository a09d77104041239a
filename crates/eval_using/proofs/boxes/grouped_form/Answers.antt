use Rattle.std.proofs.Common.{◌≡◌, ◌<◌, ◌≤◌, ◌+◌, ℕ, List, Err, Some, None, length, map, sym, ap, ◌∙◌, subst}
use Rattle.std.specs.Result.{IfOk}
use Rattle.std.proofs.lemmas.List.{length-map}
use Rattle.point_core.specs.Points.{number}
use Rattle.point_core.specs.declared.fault.Fault.{Fault}
use Rattle.cell_packing.specs.Boxed.{Boxed}
use Rattle.value_core.specs.Values.{Row, row_cmp, most_rows}
use Rattle.relation_core.specs.Parts.{kind_at}
use Rattle.tree_core.specs.Trees.{read_aggregate}
use Rattle.point_core.specs.LeastFault.{IsLeast}
use Rattle.cell_sweep.specs.Rows.{AreRows}
use Rattle.cell_sweep.proofs.Turns.{all_below}
use Rattle.cell_core.specs.Cells.{row_numbers}
use Rattle.cell_core.specs.Costs.{bound}
use Rattle.cell_core.specs.declared.boxes.CellRefuse.TheVariants.{Op as OfOp, Limit as OfLimit}
use Rattle.meaning_core.specs.Scalars.{AreSummedOver}
use Rattle.u_set.specs.Boxes.{type_of, boxed}
use Rattle.u_summarize.specs.Groups.{HasGroupFault, IsGroupForm}
use Rattle.eval_using.specs.Labels.{group_label}
use Rattle.eval_using.proofs.boxes.grouped_form.Goals as goal

pub u_summarize-requires-clause-can : goal.u_summarize-requires-clause-can
u_summarize-requires-clause-can g c =
    let r = c.args.r.now in
    let commalist = c.args.of.commalist.now in
    let same = (λ t. map (row_numbers number) (c.as_slice-2.ensures.value t)) ∙ c.in_ok-boxes.ensures.rows in
    let many : length c.as_slice-2.result.now ≡ length c.rows.result.now =
    sym (length-map c.as_slice-2.result.now (row_numbers number)) ∙ ap length same ∙ length-map r.rows (boxed commalist) ∙ ap length (sym c.rows.ensures.rows) in
    λ a n h. (
      all_below (length c.rows.result.now) a (subst (λ m. AreRows 0 m a) many h),
      subst (λ (rows : List Row). AreSummedOver rows (map read_aggregate c.args.of.aggregates.now)) (sym c.rows.ensures.rows) c.requires.typed,
    )

pub returns-clause-rows : goal.returns-clause-rows
returns-clause-rows g c =
    let commalist = c.args.of.commalist.now in
    let many = ap length (c.as_slice.ensures.value ∙ c.in_ok-types.ensures) ∙ length-map commalist (λ i. type_of (kind_at c.attributes.result.now i)) in
    let same = (λ t. map (row_numbers number) (c.as_slice-2.ensures.value t)) ∙ c.in_ok-boxes.ensures.rows in
    let keys = c.as_slice-3.ensures.value ∙ c.in_ok-keys.ensures in
    subst (λ (w : ℕ × List Row × List ℕ × List (Boxed Row)). IfOk c.u_summarize.result (λ v.
    IsGroupForm {F = Fault} row_cmp w.0 (group_label c.args.to.now c.args.of.at.now (map read_aggregate c.args.of.aggregates.now) w.1) w.2 w.3 (map (row_numbers number) v.items)))
    (λ t. (many t, c.rows.ensures.rows t, keys t, same t)) c.u_summarize.ensures.rows

pub returns-clause-no_fault : goal.returns-clause-no_fault
returns-clause-no_fault g c =
    let same = (λ t. map (row_numbers number) (c.as_slice-2.ensures.value t)) ∙ c.in_ok-boxes.ensures.rows in
    let keys = c.as_slice-3.ensures.value ∙ c.in_ok-keys.ensures in
    subst (λ (w : List Row × List ℕ × List (Boxed Row)). IfOk c.u_summarize.result (λ v.
    IsLeast (HasGroupFault (group_label c.args.to.now c.args.of.at.now (map read_aggregate c.args.of.aggregates.now) w.0) w.1 w.2) None))
    (λ t. (c.rows.ensures.rows t, keys t, same t)) c.u_summarize.ensures.no_fault

pub returns-clause-fault : goal.returns-clause-fault
returns-clause-fault g c =
    let same = (λ t. map (row_numbers number) (c.as_slice-2.ensures.value t)) ∙ c.in_ok-boxes.ensures.rows in
    let keys = c.as_slice-3.ensures.value ∙ c.in_ok-keys.ensures in
    subst (λ (w : List Row × List ℕ × List (Boxed Row)). (e : Fault) → c.u_summarize.result ≡ Err (OfOp e) →
    IsLeast (HasGroupFault (group_label c.args.to.now c.args.of.at.now (map read_aggregate c.args.of.aggregates.now) w.0) w.1 w.2) (Some e))
    (λ t. (c.rows.ensures.rows t, keys t, same t)) c.u_summarize.ensures.fault

pub returns-clause-limit : goal.returns-clause-limit
returns-clause-limit g c =
    let commalist = c.args.of.commalist.now in
    let many = ap length (c.as_slice.ensures.value ∙ c.in_ok-types.ensures) ∙ length-map commalist (λ i. type_of (kind_at c.attributes.result.now i)) in
    let same = (λ t. map (row_numbers number) (c.as_slice-2.ensures.value t)) ∙ c.in_ok-boxes.ensures.rows in
    let keys = c.as_slice-3.ensures.value ∙ c.in_ok-keys.ensures in
    subst (λ (w : ℕ × List Row × List ℕ × List (Boxed Row)). c.u_summarize.result ≡ Err OfLimit →
    IsLeast (HasGroupFault (group_label c.args.to.now c.args.of.at.now (map read_aggregate c.args.of.aggregates.now) w.1) w.2 w.3) None
    × ((form : List (Boxed Row)) × IsGroupForm {F = Fault} row_cmp w.0 (group_label c.args.to.now c.args.of.at.now (map read_aggregate c.args.of.aggregates.now) w.1) w.2 w.3 form × (most_rows < length form)))
    (λ t. (many t, c.rows.ensures.rows t, keys t, same t)) c.u_summarize.ensures.limit

pub returns-clause-cost : goal.returns-clause-cost
returns-clause-cost g c =
    let r = c.args.r.now in
    let commalist = c.args.of.commalist.now in
    let many = ap length (c.as_slice.ensures.value ∙ c.in_ok-types.ensures) ∙ length-map commalist (λ i. type_of (kind_at c.attributes.result.now i)) in
    let same = (λ t. map (row_numbers number) (c.as_slice-2.ensures.value t)) ∙ c.in_ok-boxes.ensures.rows in
    let rows : length c.as_slice-2.result.now ≡ length r.rows = sym (length-map c.as_slice-2.result.now (row_numbers number)) ∙ ap length same ∙ length-map r.rows (boxed commalist) in
    subst (λ (w : ℕ × ℕ). c.u_summarize.new.steps ≤ c.args.steps.now + bound w.0 w.1) (λ t. (rows t, many t)) c.u_summarize.ensures.cost
