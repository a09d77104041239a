use Rattle.std.proofs.Common.{◌≡◌, ◌+◌, ◌≤◌, ℕ, List, length, map, sym, ap, ◌∙◌, subst}
use Rattle.std.specs.List.{All}
use Rattle.std.specs.Prelude.{IfOk}
use Rattle.std.proofs.lemmas.List.{length-map}
use Rattle.std.proofs.lemmas.List.Elements.{All-same}
use Rattle.base_core.specs.Sets.{is_within}
use Rattle.point_core.specs.declared.any_type.AnyType.{AnyType}
use Rattle.point_core.specs.declared.any_type.AnyPoint.{AnyPoint}
use Rattle.point_core.specs.Points.{number, IsPointOf}
use Rattle.value_core.specs.Values.{Row, row_cmp}
use Rattle.relation_core.specs.Agreement.{part_of}
use Rattle.relation_core.specs.Parts.{kind_at}
use Rattle.relation_core.proofs.FilterLemmas.{rows_ascend}
use Rattle.cell_packing.specs.Boxed.{boxed_cmp, unpacked_boxes}
use Rattle.cell_core.specs.Boxes.{IsBox}
use Rattle.cell_core.specs.Cells.{row_numbers}
use Rattle.cell_core.specs.Costs.{bound}
use Rattle.u_set.specs.Boxes.{AreIntervals, type_of, types_at, boxed}
use Rattle.u_set.proofs.RelationLemmas.{relation_shaped}
use Rattle.u_row.specs.Kept.{inner}
use Rattle.u_row.specs.Labels.{relabelled}
use Rattle.u_constraints.specs.Constraints.{counterpart}
use Rattle.u_constraints.proofs.CounterpartLemmas.{alike_many}
use Rattle.meaning_core.proofs.IntervalLemmas.{intervals_of_list}
use Rattle.u_constraints.proofs.IntervalLemmas.{intervals_there, types_there}
use Rattle.u_constraints.proofs.UnpackedLemmas.{reference_told}
use Rattle.u_constraints.proofs.references.is_referenced_by_boxes.Goals as goal

pub counterparts-requires : goal.counterparts-requires
counterparts-requires g c = alike_many c.args.of.now.heading c.args.other.now.heading c.args.here.now c.args.there.now c.requires.alike

pub boxes_at-requires-clause-intervals : goal.boxes_at-requires-clause-intervals
boxes_at-requires-clause-intervals g c = intervals_of_list c.args.of.now.heading c.args.commalist.now c.requires.list

pub boxes_at-requires-2-clause-intervals : goal.boxes_at-requires-2-clause-intervals
boxes_at-requires-2-clause-intervals g c =
    let h = c.args.of.now.heading in
    let commalist = c.args.commalist.now in
    subst (λ (a : List ℕ). AreIntervals c.args.other.now.heading a) (sym (c.as_slice.ensures.value ∙ c.in_ok-commalist_there.ensures))
    (intervals_there h c.args.other.now.heading c.args.here.now c.args.there.now commalist c.requires.alike c.requires.lies c.requires.here c.requires.there (intervals_of_list h commalist c.requires.list))

pub within_points-requires-clause-right : goal.within_points-requires-clause-right
within_points-requires-clause-right g c =
    let h = c.args.of.now.heading in
    let k = c.args.other.now.heading in
    let commalist = c.args.commalist.now in
    let types =
    ap (λ (a : List ℕ). types_at k a) (c.as_slice.ensures.value ∙ c.in_ok-commalist_there.ensures)
    ∙ types_there h k c.args.here.now c.args.there.now commalist c.requires.alike c.requires.lies c.requires.here c.requires.there (intervals_of_list h commalist c.requires.list)
    ∙ sym (c.as_slice-2.ensures.value ∙ c.in_ok-types.ensures ∙ ap (λ a. types_at a commalist) (c.attributes.ensures.list ∙ c.heading.ensures.heading)) in
    All-same (λ (b : Row × List (AnyPoint × AnyPoint)). IsBox IsPointOf c.as_slice-2.result.now b.1) c.as_slice-4.result.now c.in_ok-right.right.items c.as_slice-4.ensures.value
    (subst (λ (ts : List AnyType). All (λ (b : Row × List (AnyPoint × AnyPoint)). IsBox IsPointOf ts b.1) c.in_ok-right.right.items) types c.in_ok-right.ensures.boxes)

pub returns-clause-answer : goal.returns-clause-answer
returns-clause-answer g c =
    let r = c.args.of.now in
    let s = c.args.other.now in
    let commalist = c.args.commalist.now in
    let here = c.args.here.now in
    let there = c.args.there.now in
    let commalist' = map (counterpart here there) commalist in
    let own = intervals_of_list r.heading commalist c.requires.list in
    let other = intervals_there r.heading s.heading here there commalist c.requires.alike c.requires.lies c.requires.here c.requires.there own in
    let listed = c.as_slice.ensures.value ∙ c.in_ok-commalist_there.ensures in
    let sides = ap length (c.as_slice-2.ensures.value ∙ c.in_ok-types.ensures) ∙ length-map commalist (λ i. type_of (kind_at c.attributes.result.now i)) in
    let left = (λ t. map (row_numbers number) (c.as_slice-3.ensures.value t)) ∙ c.in_ok-left.ensures.rows in
    let right =
    (λ t. map (row_numbers number) (c.as_slice-4.ensures.value t)) ∙ c.in_ok-right.ensures.rows
    ∙ (λ t. map (relabelled (part_of (inner (listed t) there))) (map (boxed (listed t)) s.rows)) in
    let told =
    reference_told r.heading s.heading here there commalist c.requires.alike c.requires.lies c.requires.here.different c.requires.there.different own other r.rows s.rows
    (rows_ascend r c.boxes_at.ensures.relation) (rows_ascend s c.boxes_at-2.ensures.relation) (relation_shaped r c.boxes_at.ensures.relation commalist own) (relation_shaped s c.boxes_at-2.ensures.relation commalist' other) in
    subst (λ b. IfOk c.within_points.result (λ kept. kept ≡ b))
    ((λ t. is_within (boxed_cmp row_cmp) (unpacked_boxes row_cmp (sides t) (left t)) (unpacked_boxes row_cmp (sides t) (right t))) ∙ told) c.within_points.ensures.answer

pub returns-clause-cost : goal.returns-clause-cost
returns-clause-cost g c =
    let r = c.args.of.now in
    let s = c.args.other.now in
    let commalist = c.args.commalist.now in
    let here = c.args.here.now in
    let there = c.args.there.now in
    let other = c.as_slice.result.now in
    let sides = ap length (c.as_slice-2.ensures.value ∙ c.in_ok-types.ensures) ∙ length-map commalist (λ i. type_of (kind_at c.attributes.result.now i)) in
    let left = (λ t. map (row_numbers number) (c.as_slice-3.ensures.value t)) ∙ c.in_ok-left.ensures.rows in
    let right = (λ t. map (row_numbers number) (c.as_slice-4.ensures.value t)) ∙ c.in_ok-right.ensures.rows in
    let many =
    sym (length-map c.as_slice-3.result.now (row_numbers number)) ∙ ap length left ∙ length-map (map (boxed commalist) r.rows) (relabelled (part_of (inner commalist here))) ∙ length-map r.rows (boxed commalist) in
    let more =
    sym (length-map c.as_slice-4.result.now (row_numbers number)) ∙ ap length right ∙ length-map (map (boxed other) s.rows) (relabelled (part_of (inner other there))) ∙ length-map s.rows (boxed other) in
    subst (λ b. c.within_points.new.steps ≤ c.args.steps.now + b) (λ t. bound (many t + more t) (sides t)) c.within_points.ensures.cost
