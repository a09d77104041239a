use Rattle.std.proofs.Common.{◌&&◌, not, ◌+◌, ◌≤◌, ◌++◌, length, arith, refl, sym, ◌∙◌}
use Rattle.std.proofs.lemmas.Int.{ints}
use Rattle.std.proofs.lemmas.List.Elements.{All-same}
use Rattle.value_core.specs.Order.{row_total, row_separates}
use Rattle.value_core.specs.Values.{row_cmp}
use Rattle.cell_core.specs.Cells.{keys_from}
use Rattle.cell_core.proofs.FormLemmas.{left_full, right_full, both_lengths, right_form, within_rows, same_rows}
use Rattle.u_set.proofs.strict.u_proper_subset.Goals as goal

pub push_keys-requires-clause-full : goal.push_keys-requires-clause-full
push_keys-requires-clause-full g c =
    All-same (λ s. 0 + length c.args.left.now ≤ length s.2) c.as_slice.result.now c.in_ok-sides.field-0.sides.items c.as_slice.ensures.value
    (left_full _ g.T.PointType.number_of g.T.PointType.IsPoint g.T.PointType.last_number (λ t. (g.met.T.PointType.each t (g.T.PointType.first_number t) (omega (arith, ints)) (g.met.T.PointType.nonempty t)).0) c.args.types.now c.in_ok-sides.field-0.sides.items c.args.left.now c.args.right.now c.in_ok-sides.ensures.rows.count c.in_ok-sides.ensures.rows.numbered c.requires.left c.requires.right)

pub push_keys-requires-2-clause-full : goal.push_keys-requires-2-clause-full
push_keys-requires-2-clause-full g c =
    All-same (λ s. length c.args.left.now + length c.args.right.now ≤ length s.2) c.as_slice-2.result.now c.in_ok-sides.field-0.sides.items c.as_slice-2.ensures.value
    (right_full _ g.T.PointType.number_of g.T.PointType.IsPoint g.T.PointType.last_number (λ t. (g.met.T.PointType.each t (g.T.PointType.first_number t) (omega (arith, ints)) (g.met.T.PointType.nonempty t)).0) c.args.types.now c.in_ok-sides.field-0.sides.items c.args.left.now c.args.right.now c.in_ok-sides.ensures.rows.count c.in_ok-sides.ensures.rows.numbered c.requires.left c.requires.right (length c.args.left.now) refl)

pub pack_arranged-requires : goal.pack_arranged-requires
pack_arranged-requires g c = record {
  sides = both_lengths _ g.T.PointType.number_of g.T.PointType.IsPoint g.T.PointType.last_number (λ t. (g.met.T.PointType.each t (g.T.PointType.first_number t) (omega (arith, ints)) (g.met.T.PointType.nonempty t)).0) c.args.types.now c.in_ok-sides.field-0.sides.items c.args.left.now c.args.right.now c.in_ok-sides.ensures.rows.count c.in_ok-sides.ensures.rows.numbered c.requires.left c.requires.right c.push_keys-2.new.out.items (c.in_ok-push_keys-2.ensures ∙ (λ i. c.in_ok-push_keys.ensures i ++ keys_from (length c.args.left.now) c.args.right.now (c.as_slice-2.ensures.value i)) ∙ (λ i. (c.new-all.ensures.items i ++ keys_from 0 c.args.left.now (c.as_slice.ensures.value i)) ++ keys_from (length c.args.left.now) c.args.right.now c.in_ok-sides.field-0.sides.items));
}

pub returns-clause-answer : goal.returns-clause-answer
returns-clause-answer g c =
    let a = c.as_slice-3.ensures.value in
    let b = c.as_slice-4.ensures.value in
    let d = c.as_slice-5.ensures.value in
    let e = c.as_slice-6.ensures.value in
    let within =
    within_rows _ g.T.PointType.number_of g.T.PointType.IsPoint g.T.PointType.last_number (λ t. (g.met.T.PointType.each t (g.T.PointType.first_number t) (omega (arith, ints)) (g.met.T.PointType.nonempty t)).0) c.args.types.now c.in_ok-sides.field-0.sides.items c.args.left.now c.args.right.now c.in_ok-sides.ensures.rows.count c.in_ok-sides.ensures.rows.numbered c.requires.left c.requires.right row_cmp row_total row_separates c.push_keys-2.new.out.items c.in_ok-all_form.all_form.items c.in_ok-all_form.ensures.rows c.in_ok-all_form.ensures.sorted
    c.in_ok-sides.field-0.right.items c.in_ok-right_form.right_form.items c.in_ok-right_form.ensures.rows (c.in_ok-push_keys-2.ensures ∙ (λ i. c.in_ok-push_keys.ensures i ++ keys_from (length c.args.left.now) c.args.right.now (c.as_slice-2.ensures.value i)) ∙ (λ i. (c.new-all.ensures.items i ++ keys_from 0 c.args.left.now (c.as_slice.ensures.value i)) ++ keys_from (length c.args.left.now) c.args.right.now c.in_ok-sides.field-0.sides.items)) (right_form _ g.T.PointType.number_of g.T.PointType.IsPoint g.T.PointType.last_number (λ t. (g.met.T.PointType.each t (g.T.PointType.first_number t) (omega (arith, ints)) (g.met.T.PointType.nonempty t)).0) c.args.types.now c.in_ok-sides.field-0.sides.items c.args.left.now c.args.right.now c.in_ok-sides.ensures.rows.count c.in_ok-sides.ensures.rows.numbered c.requires.left c.requires.right row_cmp row_total row_separates c.in_ok-sides.field-0.right.items c.in_ok-right_form.right_form.items c.in_ok-right_form.ensures.rows c.in_ok-right_form.ensures.sorted c.in_ok-sides.ensures.rows.rights) c.same_keys-within.result
    (λ t. sym a ∙ c.same_keys-within.ensures.0 t ∙ b, λ q. c.same_keys-within.ensures.1 (a ∙ q ∙ sym b)) in
    let same =
    same_rows _ g.T.PointType.number_of g.T.PointType.IsPoint g.T.PointType.last_number (λ t. (g.met.T.PointType.each t (g.T.PointType.first_number t) (omega (arith, ints)) (g.met.T.PointType.nonempty t)).0) c.args.types.now c.in_ok-sides.field-0.sides.items c.args.left.now c.args.right.now c.in_ok-sides.ensures.rows.count c.in_ok-sides.ensures.rows.numbered c.requires.left c.requires.right row_cmp row_total row_separates c.in_ok-sides.field-0.left.items c.in_ok-left_form.left_form.items c.in_ok-left_form.ensures.rows c.in_ok-left_form.ensures.sorted
    c.in_ok-sides.field-0.right.items c.in_ok-right_form.right_form.items c.in_ok-right_form.ensures.rows c.in_ok-sides.ensures.rows.lefts (right_form _ g.T.PointType.number_of g.T.PointType.IsPoint g.T.PointType.last_number (λ t. (g.met.T.PointType.each t (g.T.PointType.first_number t) (omega (arith, ints)) (g.met.T.PointType.nonempty t)).0) c.args.types.now c.in_ok-sides.field-0.sides.items c.args.left.now c.args.right.now c.in_ok-sides.ensures.rows.count c.in_ok-sides.ensures.rows.numbered c.requires.left c.requires.right row_cmp row_total row_separates c.in_ok-sides.field-0.right.items c.in_ok-right_form.right_form.items c.in_ok-right_form.ensures.rows c.in_ok-right_form.ensures.sorted c.in_ok-sides.ensures.rows.rights) c.same_keys-same.result
    (λ t. sym d ∙ c.same_keys-same.ensures.0 t ∙ e, λ q. c.same_keys-same.ensures.1 (d ∙ q ∙ sym e)) in
    c.first_alone.ensures ∙ (λ t. within t && not (same t))
