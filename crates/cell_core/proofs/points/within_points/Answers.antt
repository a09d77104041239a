use Rattle.std.proofs.Common.{◌+◌, ◌≤◌, ◌++◌, length, arith, refl, sym, ◌∙◌}
use Rattle.std.proofs.lemmas.Int.{ints}
use Rattle.std.proofs.lemmas.List.Elements.{All-same}
use Rattle.cell_core.specs.Cells.{keys_from}
use Rattle.cell_core.proofs.FormLemmas.{left_full, right_full, both_lengths, right_lengths, right_form, within_rows}
use Rattle.cell_core.proofs.points.within_points.Goals as goal

pub push_keys-requires-clause-full : goal.push_keys-requires-clause-full
push_keys-requires-clause-full g c =
    All-same (λ s. 0 + length c.args.left.now ≤ length s.2) c.as_slice.result.now c.in_ok-sides.sides.items c.as_slice.ensures.value
    (left_full g.row.P.Denot g.T.PointType.number_of g.T.PointType.IsPoint g.T.PointType.last_number (λ t. (g.met.T.PointType.each t (g.T.PointType.first_number t) (omega (arith, ints)) (g.met.T.PointType.nonempty t)).0) c.args.types.now c.in_ok-sides.sides.items c.args.left.now c.args.right.now c.in_ok-sides.ensures.length c.in_ok-sides.ensures.sides c.requires.left c.requires.right)

pub push_keys-requires-2-clause-full : goal.push_keys-requires-2-clause-full
push_keys-requires-2-clause-full g c =
    All-same (λ s. length c.args.left.now + length c.args.right.now ≤ length s.2) c.as_slice-2.result.now c.in_ok-sides.sides.items c.as_slice-2.ensures.value
    (right_full g.row.P.Denot g.T.PointType.number_of g.T.PointType.IsPoint g.T.PointType.last_number (λ t. (g.met.T.PointType.each t (g.T.PointType.first_number t) (omega (arith, ints)) (g.met.T.PointType.nonempty t)).0) c.args.types.now c.in_ok-sides.sides.items c.args.left.now c.args.right.now c.in_ok-sides.ensures.length c.in_ok-sides.ensures.sides c.requires.left c.requires.right (length c.args.left.now) refl)

pub push_keys-requires-3-clause-full : goal.push_keys-requires-3-clause-full
push_keys-requires-3-clause-full g c =
    All-same (λ s. length c.args.left.now + length c.args.right.now ≤ length s.2) c.as_slice-3.result.now c.in_ok-sides.sides.items c.as_slice-3.ensures.value
    (right_full g.row.P.Denot g.T.PointType.number_of g.T.PointType.IsPoint g.T.PointType.last_number (λ t. (g.met.T.PointType.each t (g.T.PointType.first_number t) (omega (arith, ints)) (g.met.T.PointType.nonempty t)).0) c.args.types.now c.in_ok-sides.sides.items c.args.left.now c.args.right.now c.in_ok-sides.ensures.length c.in_ok-sides.ensures.sides c.requires.left c.requires.right (length c.args.left.now) refl)

pub pack_arranged-requires : goal.pack_arranged-requires
pack_arranged-requires g c = record {
  sides = both_lengths g.row.P.Denot g.T.PointType.number_of g.T.PointType.IsPoint g.T.PointType.last_number (λ t. (g.met.T.PointType.each t (g.T.PointType.first_number t) (omega (arith, ints)) (g.met.T.PointType.nonempty t)).0) c.args.types.now c.in_ok-sides.sides.items c.args.left.now c.args.right.now c.in_ok-sides.ensures.length c.in_ok-sides.ensures.sides c.requires.left c.requires.right
      c.push_keys-2.new.out.items (c.in_ok-push_keys-2.ensures ∙ (λ i. c.in_ok-push_keys.ensures i ++ keys_from (length c.args.left.now) c.args.right.now (c.as_slice-2.ensures.value i))
      ∙ (λ i. (c.new-all.ensures.items i ++ keys_from 0 c.args.left.now (c.as_slice.ensures.value i)) ++ keys_from (length c.args.left.now) c.args.right.now c.in_ok-sides.sides.items));
}

pub pack_arranged-requires-2 : goal.pack_arranged-requires-2
pack_arranged-requires-2 g c = record {
  sides = right_lengths g.row.P.Denot g.T.PointType.number_of g.T.PointType.IsPoint g.T.PointType.last_number (λ t. (g.met.T.PointType.each t (g.T.PointType.first_number t) (omega (arith, ints)) (g.met.T.PointType.nonempty t)).0) c.args.types.now c.in_ok-sides.sides.items c.args.left.now c.args.right.now c.in_ok-sides.ensures.length c.in_ok-sides.ensures.sides c.requires.left c.requires.right
      c.push_keys-3.new.out.items (c.in_ok-push_keys-3.ensures ∙ (λ i. c.new-own.ensures.items i ++ keys_from (length c.args.left.now) c.args.right.now (c.as_slice-3.ensures.value i)));
}

pub returns-clause-answer : goal.returns-clause-answer
returns-clause-answer g c =
    let a = c.as_slice-4.ensures.value in
    let b = c.as_slice-5.ensures.value in
    within_rows g.row.P.Denot g.T.PointType.number_of g.T.PointType.IsPoint g.T.PointType.last_number (λ t. (g.met.T.PointType.each t (g.T.PointType.first_number t) (omega (arith, ints)) (g.met.T.PointType.nonempty t)).0) c.args.types.now c.in_ok-sides.sides.items c.args.left.now c.args.right.now c.in_ok-sides.ensures.length c.in_ok-sides.ensures.sides c.requires.left c.requires.right
    g.P.Label.order g.met.P.Label.total g.met.P.Label.separates c.push_keys-2.new.out.items c.in_ok-all_form.all_form.items c.in_ok-all_form.ensures.rows c.in_ok-all_form.ensures.sorted
    c.push_keys-3.new.out.items c.in_ok-right_form.right_form.items c.in_ok-right_form.ensures.rows (c.in_ok-push_keys-2.ensures ∙ (λ i. c.in_ok-push_keys.ensures i ++ keys_from (length c.args.left.now) c.args.right.now (c.as_slice-2.ensures.value i))
    ∙ (λ i. (c.new-all.ensures.items i ++ keys_from 0 c.args.left.now (c.as_slice.ensures.value i)) ++ keys_from (length c.args.left.now) c.args.right.now c.in_ok-sides.sides.items))
    (right_form g.row.P.Denot g.T.PointType.number_of g.T.PointType.IsPoint g.T.PointType.last_number (λ t. (g.met.T.PointType.each t (g.T.PointType.first_number t) (omega (arith, ints)) (g.met.T.PointType.nonempty t)).0) c.args.types.now c.in_ok-sides.sides.items c.args.left.now c.args.right.now c.in_ok-sides.ensures.length c.in_ok-sides.ensures.sides c.requires.left c.requires.right
    g.P.Label.order g.met.P.Label.total g.met.P.Label.separates c.push_keys-3.new.out.items c.in_ok-right_form.right_form.items c.in_ok-right_form.ensures.rows c.in_ok-right_form.ensures.sorted
    (c.in_ok-push_keys-3.ensures ∙ (λ i. c.new-own.ensures.items i ++ keys_from (length c.args.left.now) c.args.right.now (c.as_slice-3.ensures.value i)))) c.same_keys.result
    (λ t. sym a ∙ c.same_keys.ensures.0 t ∙ b, λ q. c.same_keys.ensures.1 (a ∙ q ∙ sym b))
