use Rattle.std.proofs.Common.{◌≡◌, ◌↔◌, ◌+◌, ◌≤◌, ℕ, List, length, map, sym, ap, ◌∙◌, subst}
use Rattle.std.specs.Bool.{IsTrue}
use Rattle.std.proofs.lemmas.List.{length-map}
use Rattle.base_core.specs.Sets.{in_order}
use Rattle.point_core.specs.Points.{number}
use Rattle.value_core.specs.Values.{Row, row_cmp}
use Rattle.relation_core.specs.Parts.{kind_at}
use Rattle.relation_core.proofs.FilterLemmas.{rows_ascend}
use Rattle.cell_packing.specs.Boxed.{Boxed, boxed_cmp, packed_boxes}
use Rattle.cell_core.specs.Cells.{row_numbers}
use Rattle.cell_core.specs.Costs.{bound}
use Rattle.u_set.specs.Boxes.{type_of, boxed}
use Rattle.u_set.proofs.RelationLemmas.{relation_shaped}
use Rattle.u_set.proofs.ApartLemmas.{if_ok}
use Rattle.u_constraints.specs.Constraints.{is_packed}
use Rattle.meaning_core.proofs.IntervalLemmas.{intervals_of_list}
use Rattle.u_constraints.proofs.PackedLemmas.{packed_told}
use Rattle.u_constraints.proofs.packed.is_packed_by_boxes.Goals as goal

abbrev ArePacked : ℕ × List (Boxed Row) → Type 0
ArePacked p = in_order (boxed_cmp row_cmp) p.1 ≡ packed_boxes row_cmp p.0 p.1

pub to_boxes-requires : goal.to_boxes-requires
to_boxes-requires g c = intervals_of_list c.args.r.now.heading c.args.commalist.now c.requires

pub returns-clause-answer : goal.returns-clause-answer
returns-clause-answer g c =
    let r = c.args.r.now in
    let commalist = c.args.commalist.now in
    let is = c.to_boxes.ensures.relation in
    let intervals = intervals_of_list r.heading commalist c.requires in
    let sides = ap length (c.as_slice.ensures.value ∙ c.in_ok-types.ensures) ∙ length-map commalist (λ i. type_of (kind_at c.attributes.result.now i)) in
    let boxes = (λ t. map (row_numbers number) (c.as_slice-2.ensures.value t)) ∙ c.in_ok-boxes.ensures.rows in
    if_ok (λ b. IsTrue b ↔ ArePacked (length c.as_slice.result.now, map (row_numbers number) c.as_slice-2.result.now)) (λ b. b ≡ is_packed commalist r.rows)
    (λ b h. packed_told r.heading commalist intervals r.rows (rows_ascend r is) (relation_shaped r is commalist intervals) b
    (subst (λ (p : ℕ × List (Boxed Row)). IsTrue b ↔ ArePacked p) (λ t. (sides t, boxes t)) h)) c.is_packed.result c.is_packed.ensures.answer

pub returns-clause-cost : goal.returns-clause-cost
returns-clause-cost g c =
    let commalist = c.args.commalist.now in
    let sides = ap length (c.as_slice.ensures.value ∙ c.in_ok-types.ensures) ∙ length-map commalist (λ i. type_of (kind_at c.attributes.result.now i)) in
    let boxes = (λ t. map (row_numbers number) (c.as_slice-2.ensures.value t)) ∙ c.in_ok-boxes.ensures.rows in
    let many = sym (length-map c.as_slice-2.result.now (row_numbers number)) ∙ ap length boxes ∙ length-map c.args.r.now.rows (boxed commalist) in
    subst (λ b. c.is_packed.new.steps ≤ c.args.steps.now + b) (λ t. bound (many t) (sides t)) c.is_packed.ensures.cost
