use Rattle.std.proofs.Common.{◌≡◌, ◌+◌, ◌<◌, ◌≤◌, ◌++◌, ℕ, List, arith, length, map, sym, ap, ◌∙◌, subst}
use Rattle.std.specs.List.{All}
use Rattle.std.proofs.lemmas.Result.{IfOk-weaker}
use Rattle.std.proofs.lemmas.List.{length-map}
use Rattle.point_core.specs.Points.{number, IsPointOf}
use Rattle.point_core.specs.declared.any_type.AnyType.{AnyType}
use Rattle.value_core.specs.Values.{Heading, row_cmp, most_rows}
use Rattle.relation_core.specs.Agreement.{common_positions}
use Rattle.relation_core.specs.Parts.{kind_at, positions_in}
use Rattle.relation_core.proofs.HeadingLemmas.{few_attributes}
use Rattle.cell_packing.specs.Boxed.{packed_boxes, unpacked_boxes}
use Rattle.cell_core.specs.Boxes.{IsBox}
use Rattle.cell_core.specs.Cells.{row_numbers}
use Rattle.cell_core.specs.Costs.{bound}
use Rattle.u_set.specs.Boxes.{type_of, types_at, boxed}
use Rattle.u_row.specs.Kept.{inner}
use Rattle.u_join.specs.Pairs.{joined_label, joined_boxes}
use Rattle.u_join.specs.Places.{positions_of_both}
use Rattle.u_join.proofs.ListedLemmas.{same_types}
use Rattle.u_join.proofs.joins.joining_boxes.Goals as goal

pub label_places-requires-clause-few : goal.label_places-requires-clause-few
label_places-requires-clause-few g c =
    let ours = ap length (c.attributes-ours.ensures.list ∙ c.heading.ensures.heading) in
    let theirs = ap length (c.attributes-theirs.ensures.list ∙ c.heading-2.ensures.heading) in
    let a = few_attributes c.args.left.now.heading c.heading.ensures.relation.headed in
    let b = few_attributes c.args.right.now.heading c.heading-2.ensures.relation.headed in
    omega (arith, ours, theirs, a, b)

pub label_places-requires-clause-there : goal.label_places-requires-clause-there
label_places-requires-clause-there g c =
    let theirs = c.attributes-theirs.ensures.list ∙ c.heading-2.ensures.heading in
    subst (λ (h : Heading). All (λ (i : ℕ). i < length h) c.args.there.now) (sym theirs) c.requires.right.within

pub joined_form-requires-clause-right : goal.joined_form-requires-clause-right
joined_form-requires-clause-right g c =
    let ours = c.attributes-ours.ensures.list ∙ c.heading.ensures.heading in
    let types = c.as_slice-3.ensures.value ∙ c.in_ok-types.ensures ∙ (λ t. types_at (ours t) c.args.here.now) in
    let same = same_types c.args.left.now.heading c.args.right.now.heading c.args.here.now c.args.there.now c.requires.same in
    subst (λ (ts : List AnyType). All (λ b. IsBox IsPointOf ts b.1) c.in_ok-r.r.items) (same ∙ sym types) c.in_ok-r.ensures.boxes

pub returns-clause-rows : goal.returns-clause-rows
returns-clause-rows g c =
    let ours = c.attributes-ours.ensures.list ∙ c.heading.ensures.heading in
    let theirs = c.attributes-theirs.ensures.list ∙ c.heading-2.ensures.heading in
    let sides = ap length (c.as_slice-3.ensures.value ∙ c.in_ok-types.ensures) ∙ length-map c.args.here.now (λ i. type_of (kind_at c.attributes-ours.result.now i)) in
    let l = c.in_ok-l.ensures.rows in
    let r = c.in_ok-r.ensures.rows in
    let here = c.as_slice.ensures.value ∙ c.in_ok-here_key.ensures ∙ (λ t. inner c.args.here.now (common_positions (ours t) (ours t) (theirs t))) in
    let there = c.as_slice-2.ensures.value ∙ c.in_ok-there_key.ensures ∙ (λ t. inner c.args.there.now (common_positions (theirs t) (ours t) (theirs t))) in
    let places = c.in_ok-places.ensures ∙ (λ t. inner (positions_of_both (length (ours t)) c.args.here.now c.args.there.now) (positions_in (ours t ++ theirs t) (c.attributes.ensures.list t))) in
    let e = c.in_ok-form.ensures.rows ∙ (λ t. packed_boxes row_cmp (sides t) (joined_boxes (here t) (there t) (joined_label (places t)) (unpacked_boxes row_cmp (sides t) (l t)) (unpacked_boxes row_cmp (sides t) (r t)))) in
    IfOk-weaker c.in_limit.result (λ v. v.items ≡ c.in_ok-form.form.items) _ (λ v same. ap (map (row_numbers number)) same ∙ e) c.in_limit.ensures.same

pub returns-clause-limit : goal.returns-clause-limit
returns-clause-limit g c =
    let ours = c.attributes-ours.ensures.list ∙ c.heading.ensures.heading in
    let theirs = c.attributes-theirs.ensures.list ∙ c.heading-2.ensures.heading in
    let sides = ap length (c.as_slice-3.ensures.value ∙ c.in_ok-types.ensures) ∙ length-map c.args.here.now (λ i. type_of (kind_at c.attributes-ours.result.now i)) in
    let l = c.in_ok-l.ensures.rows in
    let r = c.in_ok-r.ensures.rows in
    let here = c.as_slice.ensures.value ∙ c.in_ok-here_key.ensures ∙ (λ t. inner c.args.here.now (common_positions (ours t) (ours t) (theirs t))) in
    let there = c.as_slice-2.ensures.value ∙ c.in_ok-there_key.ensures ∙ (λ t. inner c.args.there.now (common_positions (theirs t) (ours t) (theirs t))) in
    let places = c.in_ok-places.ensures ∙ (λ t. inner (positions_of_both (length (ours t)) c.args.here.now c.args.there.now) (positions_in (ours t ++ theirs t) (c.attributes.ensures.list t))) in
    let e = c.in_ok-form.ensures.rows ∙ (λ t. packed_boxes row_cmp (sides t) (joined_boxes (here t) (there t) (joined_label (places t)) (unpacked_boxes row_cmp (sides t) (l t)) (unpacked_boxes row_cmp (sides t) (r t)))) in
    λ h. subst (λ n. most_rows < n) (sym (length-map c.in_ok-form.form.items (row_numbers number)) ∙ ap length e) (c.in_limit.ensures.limit h)

pub returns-clause-cost : goal.returns-clause-cost
returns-clause-cost g c =
    let sides = ap length (c.as_slice-3.ensures.value ∙ c.in_ok-types.ensures) ∙ length-map c.args.here.now (λ i. type_of (kind_at c.attributes-ours.result.now i)) in
    let l = c.in_ok-l.ensures.rows in
    let r = c.in_ok-r.ensures.rows in
    let many = sym (length-map c.in_ok-l.l.items (row_numbers number)) ∙ ap length l ∙ length-map c.args.left.now.rows (boxed c.args.here.now) in
    let more = sym (length-map c.in_ok-r.r.items (row_numbers number)) ∙ ap length r ∙ length-map c.args.right.now.rows (boxed c.args.there.now) in
    subst (λ b. c.joined_form.new.steps ≤ c.args.steps.now + b) (λ t. bound (many t + more t) (sides t)) c.joined_form.ensures.cost
