use Rattle.std.proofs.Common.{◌≡◌, ◌<◌, List, Err, length, map, sym, ap, ◌∙◌, subst}
use Rattle.std.specs.List.{All}
use Rattle.std.specs.Result.{IfOk}
use Rattle.std.proofs.lemmas.List.{length-map}
use Rattle.point_core.specs.Points.{number, IsPointOf}
use Rattle.point_core.specs.declared.any_type.AnyType.{AnyType}
use Rattle.value_core.specs.Values.{row_cmp, most_rows}
use Rattle.relation_core.specs.Agreement.{common_positions}
use Rattle.relation_core.specs.Parts.{kind_at}
use Rattle.relation_core.proofs.HeadingLemmas.{heading_ascends}
use Rattle.cell_packing.specs.Boxed.{packed_boxes, unpacked_boxes}
use Rattle.cell_core.specs.Boxes.{IsBox}
use Rattle.cell_core.specs.Cells.{row_numbers}
use Rattle.cell_core.specs.declared.boxes.CellRefuse.TheVariants.{Limit as OfLimit}
use Rattle.u_set.specs.Boxes.{type_of, types_at}
use Rattle.u_row.specs.Kept.{inner}
use Rattle.u_join.specs.Pairs.{matched_boxes}
use Rattle.u_join.specs.Shared.{left_positions, right_positions}
use Rattle.u_join.proofs.ListedLemmas.{same_types, same_keys}
use Rattle.u_join.proofs.matches.matching_boxes.Goals as goal

pub key_pairs-requires : goal.key_pairs-requires
key_pairs-requires g c =
    let ours = sym (c.attributes-ours.ensures.list ∙ c.heading.ensures.heading) in
    let theirs = sym (c.attributes-theirs.ensures.list ∙ c.heading-2.ensures.heading) in
    let up = heading_ascends c.args.left.now.heading c.heading.ensures.relation.headed in
    let up' = heading_ascends c.args.right.now.heading c.heading-2.ensures.relation.headed in
    subst (λ T. T) (λ t. length (inner c.args.here.now (common_positions (ours t) (ours t) (theirs t))) ≡ length (inner c.args.there.now (common_positions (theirs t) (ours t) (theirs t))))
    (same_keys c.args.left.now.heading c.args.right.now.heading c.args.here.now c.args.there.now c.requires.same up up' c.requires.left.within c.requires.right.within)

pub matched_in_limit-requires-clause-right : goal.matched_in_limit-requires-clause-right
matched_in_limit-requires-clause-right g c =
    let ours = c.attributes-ours.ensures.list ∙ c.heading.ensures.heading in
    let types = c.as_slice.ensures.value ∙ c.in_ok-types.ensures ∙ (λ t. types_at (ours t) c.args.here.now) in
    let same = same_types c.args.left.now.heading c.args.right.now.heading c.args.here.now c.args.there.now c.requires.same in
    subst (λ (ts : List AnyType). All (λ b. IsBox IsPointOf ts b.1) c.in_ok-r.r.items) (same ∙ sym types) c.in_ok-r.ensures.boxes

pub returns-clause-rows : goal.returns-clause-rows
returns-clause-rows g c =
    let ours = c.attributes-ours.ensures.list ∙ c.heading.ensures.heading in
    let theirs = c.attributes-theirs.ensures.list ∙ c.heading-2.ensures.heading in
    let sides = ap length (c.as_slice.ensures.value ∙ c.in_ok-types.ensures) ∙ length-map c.args.here.now (λ i. type_of (kind_at c.attributes-ours.result.now i)) in
    let l = c.in_ok-l.ensures.rows in
    let r = c.in_ok-r.ensures.rows in
    let here = ap left_positions c.as_slice-2.ensures.value ∙ c.in_ok-shared.ensures.left ∙ (λ t. inner c.args.here.now (common_positions (ours t) (ours t) (theirs t))) in
    let there = ap right_positions c.as_slice-2.ensures.value ∙ c.in_ok-shared.ensures.right ∙ (λ t. inner c.args.there.now (common_positions (theirs t) (ours t) (theirs t))) in
    subst (λ s. IfOk c.matched_in_limit.result (λ v. map (row_numbers number) v.items ≡ s))
    (λ t. packed_boxes row_cmp (sides t) (matched_boxes (here t) (there t) (unpacked_boxes row_cmp (sides t) (l t)) (unpacked_boxes row_cmp (sides t) (r t)))) c.matched_in_limit.ensures.rows

pub returns-clause-limit : goal.returns-clause-limit
returns-clause-limit g c =
    let ours = c.attributes-ours.ensures.list ∙ c.heading.ensures.heading in
    let theirs = c.attributes-theirs.ensures.list ∙ c.heading-2.ensures.heading in
    let sides = ap length (c.as_slice.ensures.value ∙ c.in_ok-types.ensures) ∙ length-map c.args.here.now (λ i. type_of (kind_at c.attributes-ours.result.now i)) in
    let l = c.in_ok-l.ensures.rows in
    let r = c.in_ok-r.ensures.rows in
    let here = ap left_positions c.as_slice-2.ensures.value ∙ c.in_ok-shared.ensures.left ∙ (λ t. inner c.args.here.now (common_positions (ours t) (ours t) (theirs t))) in
    let there = ap right_positions c.as_slice-2.ensures.value ∙ c.in_ok-shared.ensures.right ∙ (λ t. inner c.args.there.now (common_positions (theirs t) (ours t) (theirs t))) in
    subst (λ s. c.matched_in_limit.result ≡ Err OfLimit → most_rows < length s)
    (λ t. packed_boxes row_cmp (sides t) (matched_boxes (here t) (there t) (unpacked_boxes row_cmp (sides t) (l t)) (unpacked_boxes row_cmp (sides t) (r t)))) c.matched_in_limit.ensures.limit
