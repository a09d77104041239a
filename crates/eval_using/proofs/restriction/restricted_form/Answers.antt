use Rattle.std.proofs.Common.{◌≡◌, ◌<◌, ◌≤◌, ◌+◌, ℕ, ◌∷◌, [], List, Err, Some, None, length, map, sym, ap, ◌∙◌, subst}
use Rattle.std.specs.List.{All}
use Rattle.std.specs.Result.{IfOk}
use Rattle.std.proofs.lemmas.List.{length-map}
use Rattle.point_core.specs.Points.{number, IsPointOf}
use Rattle.point_core.specs.declared.any_type.AnyPoint.{AnyPoint}
use Rattle.point_core.specs.declared.fault.Fault.{Fault}
use Rattle.interval_core.specs.Members.{Span}
use Rattle.value_core.specs.Values.{Row, row_cmp, most_rows}
use Rattle.scalar_core.specs.Expressions.{read}
use Rattle.relation_core.specs.Parts.{kind_at}
use Rattle.point_core.specs.LeastFault.{IsLeast}
use Rattle.cell_core.specs.Boxes.{IsBox}
use Rattle.cell_core.specs.Cells.{row_numbers}
use Rattle.cell_core.specs.Costs.{bound}
use Rattle.cell_core.specs.declared.boxes.CellRefuse.TheVariants.{Op as OfOp, Limit as OfLimit}
use Rattle.u_set.specs.Boxes.{type_of, types_at, boxed}
use Rattle.u_row.specs.Cutting.{count_cells}
use Rattle.u_row.specs.Rules.{HasRuleFault, IsRuleForm}
use Rattle.eval_using.specs.Swept.{met, swept_cuts, swept_rows}
use Rattle.eval_using.proofs.CellCountLemmas.{cells_counted}
use Rattle.eval_using.proofs.RelationBoxes.{all_sides}
use Rattle.eval_using.proofs.RestrictionLemmas.{can_sweep}
use Rattle.eval_using.proofs.restriction.restricted_form.Goals as goal

pub u_rule-requires-clause-can : goal.u_rule-requires-clause-can
u_rule-requires-clause-can g c =
    let r = c.args.r.now in
    let commalist = c.args.commalist.now in
    let boxes = c.as_slice.result.now in
    let same : map (row_numbers number) boxes ≡ map (boxed commalist) r.rows = (λ t. map (row_numbers number) (c.as_slice.ensures.value t)) ∙ c.in_ok-boxes.ensures.rows in
    let points = subst (λ (bs : List (Row × List (AnyPoint × AnyPoint))). All (λ b. IsBox IsPointOf (types_at r.heading commalist) b.1) bs) (sym c.as_slice.ensures.value) c.in_ok-boxes.ensures.boxes in
    λ i l. can_sweep r commalist (read c.args.c.now) c.heading.ensures.relation c.requires.intervals c.requires.typed c.requires.sweepable boxes same points c.rows.result.now c.rows.ensures.rows i
    (subst (λ n. i < n) (ap length (c.as_slice-3.ensures.value ∙ sym c.as_slice.ensures.value)) l)

pub returns-clause-rows : goal.returns-clause-rows
returns-clause-rows g c =
    let r = c.args.r.now in
    let commalist = c.args.commalist.now in
    let m = met (read c.args.c.now) in
    let many = ap length (c.as_slice-2.ensures.value ∙ c.in_ok-types.ensures) ∙ length-map commalist (λ i. type_of (kind_at c.attributes.result.now i)) in
    let sides = all_sides commalist r.rows c.as_slice-3.result.now ((λ t. map (row_numbers number) (c.as_slice-3.ensures.value t)) ∙ c.in_ok-boxes.ensures.rows) in
    subst (λ (w : ℕ × List Row × List (List Span)). IfOk c.u_rule.result (λ v. IsRuleForm {L = Row} {F = Fault} row_cmp w.0 (swept_rows commalist commalist m w.1) w.2 (map (row_numbers number) v.items))) (λ t. (many t, c.rows.ensures.rows t, sides t)) c.u_rule.ensures.rows

pub returns-clause-no_fault : goal.returns-clause-no_fault
returns-clause-no_fault g c =
    let r = c.args.r.now in
    let commalist = c.args.commalist.now in
    let m = met (read c.args.c.now) in
    let many = ap length (c.as_slice-2.ensures.value ∙ c.in_ok-types.ensures) ∙ length-map commalist (λ i. type_of (kind_at c.attributes.result.now i)) in
    let sides = all_sides commalist r.rows c.as_slice-3.result.now ((λ t. map (row_numbers number) (c.as_slice-3.ensures.value t)) ∙ c.in_ok-boxes.ensures.rows) in
    subst (λ (w : ℕ × List Row × List (List Span)). IfOk c.u_rule.result (λ v. IsLeast (HasRuleFault (swept_rows commalist commalist m w.1) w.2) None)) (λ t. (many t, c.rows.ensures.rows t, sides t)) c.u_rule.ensures.no_fault

pub returns-clause-fault : goal.returns-clause-fault
returns-clause-fault g c =
    let r = c.args.r.now in
    let commalist = c.args.commalist.now in
    let m = met (read c.args.c.now) in
    let many = ap length (c.as_slice-2.ensures.value ∙ c.in_ok-types.ensures) ∙ length-map commalist (λ i. type_of (kind_at c.attributes.result.now i)) in
    let sides = all_sides commalist r.rows c.as_slice-3.result.now ((λ t. map (row_numbers number) (c.as_slice-3.ensures.value t)) ∙ c.in_ok-boxes.ensures.rows) in
    subst (λ (w : ℕ × List Row × List (List Span)). (e : Fault) → c.u_rule.result ≡ Err (OfOp e) → IsLeast (HasRuleFault (swept_rows commalist commalist m w.1) w.2) (Some e)) (λ t. (many t, c.rows.ensures.rows t, sides t)) c.u_rule.ensures.fault

pub returns-clause-limit : goal.returns-clause-limit
returns-clause-limit g c =
    let r = c.args.r.now in
    let commalist = c.args.commalist.now in
    let m = met (read c.args.c.now) in
    let many = ap length (c.as_slice-2.ensures.value ∙ c.in_ok-types.ensures) ∙ length-map commalist (λ i. type_of (kind_at c.attributes.result.now i)) in
    let sides = all_sides commalist r.rows c.as_slice-3.result.now ((λ t. map (row_numbers number) (c.as_slice-3.ensures.value t)) ∙ c.in_ok-boxes.ensures.rows) in
    subst (λ (w : ℕ × List Row × List (List Span)). c.u_rule.result ≡ Err OfLimit → IsLeast (HasRuleFault (swept_rows commalist commalist m w.1) w.2) None × ((form : List (Row × List Span)) × IsRuleForm {L = Row} {F = Fault} row_cmp w.0 (swept_rows commalist commalist m w.1) w.2 form × (most_rows < length form))) (λ t. (many t, c.rows.ensures.rows t, sides t)) c.u_rule.ensures.limit

pub returns-clause-cost : goal.returns-clause-cost
returns-clause-cost g c =
    let r = c.args.r.now in
    let commalist = c.args.commalist.now in
    let scalars = read c.args.c.now ∷ [] in
    let many = ap length (c.as_slice-2.ensures.value ∙ c.in_ok-types.ensures) ∙ length-map commalist (λ i. type_of (kind_at c.attributes.result.now i)) in
    let sides = all_sides commalist r.rows c.as_slice-3.result.now ((λ t. map (row_numbers number) (c.as_slice-3.ensures.value t)) ∙ c.in_ok-boxes.ensures.rows) in
    let cells = (λ t. count_cells (swept_cuts commalist scalars (c.rows.ensures.rows t)) 0 (sides t)) ∙ cells_counted commalist scalars r.rows in
    subst (λ (w : ℕ × ℕ). c.u_rule.new.steps ≤ c.args.steps.now + bound w.0 w.1) (λ t. (cells t, many t)) c.u_rule.ensures.cost
