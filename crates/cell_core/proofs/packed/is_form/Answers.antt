use Rattle.std.proofs.Common.{◌+◌, ◌≤◌, ◌++◌, [], length, arith, sym, ◌∙◌}
use Rattle.std.proofs.lemmas.Int.{ints}
use Rattle.std.proofs.lemmas.List.Elements.{All-same}
use Rattle.cell_core.specs.Boxes.{IsBox}
use Rattle.cell_core.specs.Cells.{keys_from}
use Rattle.cell_core.proofs.FormLemmas.{left_full, left_lengths, is_packed_answer}
use Rattle.cell_core.proofs.packed.is_form.Goals as goal

pub push_keys-requires-clause-full : goal.push_keys-requires-clause-full
push_keys-requires-clause-full g c =
    All-same (λ s. 0 + length c.args.rows.now ≤ length s.2) c.as_slice-2.result.now c.in_ok-sides.sides.items c.as_slice-2.ensures.value
    (left_full g.row.P.Denot g.T.PointType.number_of g.T.PointType.IsPoint g.T.PointType.last_number (λ t. (g.met.T.PointType.each t (g.T.PointType.first_number t) (omega (arith, ints)) (g.met.T.PointType.nonempty t)).0) c.args.types.now c.in_ok-sides.sides.items c.args.rows.now c.as_slice.result.now c.in_ok-sides.ensures.length c.in_ok-sides.ensures.sides c.requires.rows (All-same (λ r. IsBox g.T.PointType.IsPoint c.args.types.now r.1) c.as_slice.result.now [] (c.as_slice.ensures.value ∙ c.new-none.ensures.items) (λ k d l. absurd (omega arith))))

pub push_keys-requires-2-clause-full : goal.push_keys-requires-2-clause-full
push_keys-requires-2-clause-full g c =
    All-same (λ s. 0 + length c.args.rows.now ≤ length s.2) c.as_slice-3.result.now c.in_ok-sides.sides.items c.as_slice-3.ensures.value
    (left_full g.row.P.Denot g.T.PointType.number_of g.T.PointType.IsPoint g.T.PointType.last_number (λ t. (g.met.T.PointType.each t (g.T.PointType.first_number t) (omega (arith, ints)) (g.met.T.PointType.nonempty t)).0) c.args.types.now c.in_ok-sides.sides.items c.args.rows.now c.as_slice.result.now c.in_ok-sides.ensures.length c.in_ok-sides.ensures.sides c.requires.rows (All-same (λ r. IsBox g.T.PointType.IsPoint c.args.types.now r.1) c.as_slice.result.now [] (c.as_slice.ensures.value ∙ c.new-none.ensures.items) (λ k d l. absurd (omega arith))))

pub pack_rows-requires : goal.pack_rows-requires
pack_rows-requires g c = record {
  sides = left_lengths g.row.P.Denot g.T.PointType.number_of g.T.PointType.IsPoint g.T.PointType.last_number (λ t. (g.met.T.PointType.each t (g.T.PointType.first_number t) (omega (arith, ints)) (g.met.T.PointType.nonempty t)).0) c.args.types.now c.in_ok-sides.sides.items c.args.rows.now c.as_slice.result.now c.in_ok-sides.ensures.length c.in_ok-sides.ensures.sides c.requires.rows (All-same (λ r. IsBox g.T.PointType.IsPoint c.args.types.now r.1) c.as_slice.result.now [] (c.as_slice.ensures.value ∙ c.new-none.ensures.items) (λ k d l. absurd (omega arith)))
      c.push_keys.new.out.items (c.in_ok-push_keys.ensures ∙ (λ i. c.new-own.ensures.items i ++ keys_from 0 c.args.rows.now (c.as_slice-2.ensures.value i)));
}

pub returns-clause-answer : goal.returns-clause-answer
returns-clause-answer g c =
    let a = c.as_slice-4.ensures.value in
    let b = c.as_slice-5.ensures.value in
    is_packed_answer g.row.P.Denot g.T.PointType.number_of g.T.PointType.IsPoint g.T.PointType.last_number (λ t. (g.met.T.PointType.each t (g.T.PointType.first_number t) (omega (arith, ints)) (g.met.T.PointType.nonempty t)).0) c.args.types.now c.in_ok-sides.sides.items c.args.rows.now c.as_slice.result.now c.in_ok-sides.ensures.length c.in_ok-sides.ensures.sides c.requires.rows (All-same (λ r. IsBox g.T.PointType.IsPoint c.args.types.now r.1) c.as_slice.result.now [] (c.as_slice.ensures.value ∙ c.new-none.ensures.items) (λ k d l. absurd (omega arith))) g.P.Label.order g.met.P.Label.total g.met.P.Label.separates c.push_keys.new.out.items c.in_ok-form.form.items c.in_ok-form.ensures.rows c.in_ok-form.ensures.sorted
    (c.in_ok-push_keys.ensures ∙ (λ i. c.new-own.ensures.items i ++ keys_from 0 c.args.rows.now (c.as_slice-2.ensures.value i)))
    c.push_keys-2.new.out.items c.in_ok-set.set.items (c.in_ok-push_keys-2.ensures ∙ (λ i. c.new-list.ensures.items i ++ keys_from 0 c.args.rows.now (c.as_slice-3.ensures.value i))) c.in_ok-set.ensures c.same_keys.result
    (λ t. sym a ∙ c.same_keys.ensures.0 t ∙ b, λ q. c.same_keys.ensures.1 (a ∙ q ∙ sym b))
