use Rattle.std.proofs.Common.{◌≡◌, ◌+◌, ◌≤◌, length, map, sym, ap, ◌∙◌, subst}
use Rattle.std.specs.Result.{IfOk}
use Rattle.std.proofs.lemmas.List.{length-map}
use Rattle.base_core.specs.Sets.{is_within}
use Rattle.point_core.specs.Points.{number}
use Rattle.value_core.specs.Values.{row_cmp}
use Rattle.relation_core.specs.Parts.{kind_at}
use Rattle.relation_core.proofs.FilterLemmas.{rows_ascend}
use Rattle.cell_packing.specs.Boxed.{boxed_cmp, unpacked_boxes}
use Rattle.cell_core.specs.Cells.{row_numbers}
use Rattle.cell_core.specs.Costs.{bound}
use Rattle.u_set.specs.Boxes.{type_of, boxed}
use Rattle.u_set.proofs.ComparisonLemmas.{within_rows}
use Rattle.u_set.proofs.RelationLemmas.{relation_shaped, shaped_under}
use Rattle.u_set.proofs.comparison.is_within_by_boxes.Goals as goal

pub returns-clause-answer : goal.returns-clause-answer
returns-clause-answer g c =
    let left = c.args.left.now in
    let right = c.args.right.now in
    let commalist = c.args.commalist.now in
    let sides = ap length (c.as_slice.ensures.value ∙ c.in_ok-types.ensures) ∙ length-map commalist (λ i. type_of (kind_at c.attributes.result.now i)) in
    let l = (λ t. map (row_numbers number) (c.as_slice-2.ensures.value t)) ∙ c.in_ok-l.ensures.rows in
    let r = (λ t. map (row_numbers number) (c.as_slice-3.ensures.value t)) ∙ c.in_ok-r.ensures.rows in
    let same =
    within_rows left.heading commalist c.requires.intervals left.rows right.rows (rows_ascend left c.to_boxes.ensures.relation) (rows_ascend right c.to_boxes-2.ensures.relation)
    (relation_shaped left c.to_boxes.ensures.relation commalist c.requires.intervals) (shaped_under left.heading right c.requires.heading c.to_boxes-2.ensures.relation commalist c.requires.intervals) in
    subst (λ s. IfOk c.u_subset.result (λ b. b ≡ s))
    ((λ t. is_within (boxed_cmp row_cmp) (unpacked_boxes row_cmp (sides t) (l t)) (unpacked_boxes row_cmp (sides t) (r t))) ∙ same) c.u_subset.ensures.answer

pub returns-clause-cost : goal.returns-clause-cost
returns-clause-cost g c =
    let commalist = c.args.commalist.now in
    let sides = ap length (c.as_slice.ensures.value ∙ c.in_ok-types.ensures) ∙ length-map commalist (λ i. type_of (kind_at c.attributes.result.now i)) in
    let l = (λ t. map (row_numbers number) (c.as_slice-2.ensures.value t)) ∙ c.in_ok-l.ensures.rows in
    let r = (λ t. map (row_numbers number) (c.as_slice-3.ensures.value t)) ∙ c.in_ok-r.ensures.rows in
    let many = sym (length-map c.as_slice-2.result.now (row_numbers number)) ∙ ap length l ∙ length-map c.args.left.now.rows (boxed commalist) in
    let more = sym (length-map c.as_slice-3.result.now (row_numbers number)) ∙ ap length r ∙ length-map c.args.right.now.rows (boxed commalist) in
    subst (λ b. c.u_subset.new.steps ≤ c.args.steps.now + b) (λ t. bound (many t + more t) (sides t)) c.u_subset.ensures.cost
