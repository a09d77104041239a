use Rattle.std.proofs.Common.{◌≡◌, ◌↔◌, ◌+◌, ◌<◌, ◌≤◌, ℕ, List, length, map, sym, ap, ◌∙◌, subst}
use Rattle.std.specs.Bool.{IsTrue}
use Rattle.std.specs.List.{All}
use Rattle.std.proofs.lemmas.List.{length-map}
use Rattle.point_core.specs.Points.{number}
use Rattle.value_core.specs.RowPacking.{unpacked}
use Rattle.value_core.specs.Values.{Row}
use Rattle.relation_core.specs.Parts.{kind_at}
use Rattle.relation_core.proofs.FilterLemmas.{rows_ascend}
use Rattle.cell_packing.specs.Boxed.{Boxed}
use Rattle.cell_core.specs.Cells.{row_numbers}
use Rattle.cell_core.specs.Costs.{bound}
use Rattle.u_set.specs.Boxes.{type_of, boxed}
use Rattle.u_set.proofs.RelationLemmas.{relation_shaped}
use Rattle.u_set.proofs.ApartLemmas.{if_ok}
use Rattle.u_row.proofs.PartLemmas.{labels_long}
use Rattle.u_constraints.specs.Constraints.{is_key}
use Rattle.u_constraints.specs.Places.{IsKeyAt}
use Rattle.meaning_core.proofs.IntervalLemmas.{intervals_of_list}
use Rattle.u_constraints.proofs.UnpackedLemmas.{key_told}
use Rattle.u_constraints.proofs.unpacked.is_key_by_boxes.Goals as goal

pub to_boxes-requires : goal.to_boxes-requires
to_boxes-requires g c = intervals_of_list c.args.r.now.heading c.args.commalist.now c.requires.list

pub is_key_at-requires-clause-some : goal.is_key_at-requires-clause-some
is_key_at-requires-clause-some g c =
    let sides = ap length (c.as_slice.ensures.value ∙ c.in_ok-types.ensures) ∙ length-map c.args.commalist.now (λ i. type_of (kind_at c.attributes.result.now i)) in
    subst (λ n. 0 < n) (sym sides) c.requires.some

pub is_key_at-requires-clause-within : goal.is_key_at-requires-clause-within
is_key_at-requires-clause-within g c =
    let r = c.args.r.now in
    let commalist = c.args.commalist.now in
    let intervals = intervals_of_list r.heading commalist c.requires.list in
    let boxes = (λ t. map (row_numbers number) (c.as_slice-2.ensures.value t)) ∙ c.in_ok-boxes.ensures.rows in
    subst (λ (ps : List ℕ). All (λ b. All (λ (i : ℕ). i < length b.0) ps) c.as_slice-2.result.now) (sym (c.as_slice-3.ensures.value ∙ c.in_ok-places.ensures))
    (labels_long r.heading commalist c.args.key.now c.requires.key.within r.rows (relation_shaped r c.to_boxes.ensures.relation commalist intervals) c.as_slice-2.result.now boxes)

pub returns-clause-answer : goal.returns-clause-answer
returns-clause-answer g c =
    let r = c.args.r.now in
    let commalist = c.args.commalist.now in
    let key = c.args.key.now in
    let is = c.to_boxes.ensures.relation in
    let intervals = intervals_of_list r.heading commalist c.requires.list in
    let boxes = (λ t. map (row_numbers number) (c.as_slice-2.ensures.value t)) ∙ c.in_ok-boxes.ensures.rows in
    let places = c.as_slice-3.ensures.value ∙ c.in_ok-places.ensures in
    if_ok (λ b. IsTrue b ↔ IsKeyAt c.as_slice-3.result.now (map (row_numbers number) c.as_slice-2.result.now)) (λ b. b ≡ is_key key (unpacked commalist r.rows))
    (λ b h. key_told r.heading commalist intervals r.rows (rows_ascend r is) (relation_shaped r is commalist intervals) key c.requires.lies c.requires.key.different b
    (subst (λ (p : List ℕ × List (Boxed Row)). IsTrue b ↔ IsKeyAt p.0 p.1) (λ t. (places t, boxes t)) h)) c.is_key_at.result c.is_key_at.ensures.answer

pub returns-clause-cost : goal.returns-clause-cost
returns-clause-cost g c =
    let commalist = c.args.commalist.now in
    let sides = ap length (c.as_slice.ensures.value ∙ c.in_ok-types.ensures) ∙ length-map commalist (λ i. type_of (kind_at c.attributes.result.now i)) in
    let boxes = (λ t. map (row_numbers number) (c.as_slice-2.ensures.value t)) ∙ c.in_ok-boxes.ensures.rows in
    let many = sym (length-map c.as_slice-2.result.now (row_numbers number)) ∙ ap length boxes ∙ length-map c.args.r.now.rows (boxed commalist) in
    subst (λ b. c.is_key_at.new.steps ≤ c.args.steps.now + b) (λ t. bound (many t) (sides t)) c.is_key_at.ensures.cost
