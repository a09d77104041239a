use Rattle.std.proofs.Common.{◌+◌, ◌<◌, ◌≤◌, ◌++◌, [], ℕ, map, length, get_or, arith, subst, sym, ap, ◌∙◌}
use Rattle.std.proofs.lemmas.Int.{ints}
use Rattle.std.proofs.lemmas.List.Elements.{All-same}
use Rattle.cell_core.specs.Boxes.{IsBox}
use Rattle.cell_core.specs.Cells.{keys_from, grids_of, grid_row}
use Rattle.cell_core.specs.Numbering.{IsGrid}
use Rattle.cell_core.proofs.Calls.{side_grid}
use Rattle.cell_core.proofs.Gather.{numbered_same}
use Rattle.cell_core.proofs.FormLemmas.{left_full, left_lengths, left_form, left_cells}
use Rattle.cell_core.proofs.packing.packed_rows.Goals as goal

pub numbered-requires-clause-left : goal.numbered-requires-clause-left
numbered-requires-clause-left g c = All-same (λ r. IsBox g.T.PointType.IsPoint c.args.types.now r.1) c.as_slice.result.now c.args.rows.items c.as_slice.ensures.value c.requires

pub push_moved_keys-requires-clause-full : goal.push_moved_keys-requires-clause-full
push_moved_keys-requires-clause-full g c =
    All-same (λ s. 0 + length c.args.rows.items ≤ length s.2) c.as_slice-3.result.now c.in_ok-sides.sides.items c.as_slice-3.ensures.value
    (left_full g.row.P.Denot g.T.PointType.number_of g.T.PointType.IsPoint g.T.PointType.last_number (λ t. (g.met.T.PointType.each t (g.T.PointType.first_number t) (omega (arith, ints)) (g.met.T.PointType.nonempty t)).0) c.args.types.now c.in_ok-sides.sides.items c.args.rows.items c.new-none.result.items c.in_ok-sides.ensures.length (numbered_same g.T.PointType.number_of g.T.PointType.IsPoint g.T.PointType.last_number c.args.types.now c.as_slice.result.now c.args.rows.items c.as_slice-2.result.now c.new-none.result.items c.in_ok-sides.sides.items c.as_slice.ensures.value c.as_slice-2.ensures.value c.in_ok-sides.ensures.sides) c.requires (All-same (λ r. IsBox g.T.PointType.IsPoint c.args.types.now r.1) c.new-none.result.items [] c.new-none.ensures.items (λ k d l. absurd (omega arith))))

pub pack_arranged-requires : goal.pack_arranged-requires
pack_arranged-requires g c = record {
  sides = left_lengths g.row.P.Denot g.T.PointType.number_of g.T.PointType.IsPoint g.T.PointType.last_number (λ t. (g.met.T.PointType.each t (g.T.PointType.first_number t) (omega (arith, ints)) (g.met.T.PointType.nonempty t)).0) c.args.types.now c.in_ok-sides.sides.items c.args.rows.items c.new-none.result.items c.in_ok-sides.ensures.length (numbered_same g.T.PointType.number_of g.T.PointType.IsPoint g.T.PointType.last_number c.args.types.now c.as_slice.result.now c.args.rows.items c.as_slice-2.result.now c.new-none.result.items c.in_ok-sides.sides.items c.as_slice.ensures.value c.as_slice-2.ensures.value c.in_ok-sides.ensures.sides) c.requires (All-same (λ r. IsBox g.T.PointType.IsPoint c.args.types.now r.1) c.new-none.result.items [] c.new-none.ensures.items (λ k d l. absurd (omega arith)))
      c.push_moved_keys.new.out.items (c.in_ok-push_moved_keys.ensures ∙ (λ i. c.new-own.ensures.items i ++ keys_from 0 c.args.rows.items (c.as_slice-3.ensures.value i)));
}

pub back-requires-clause-grids : goal.back-requires-clause-grids
back-requires-clause-grids g c = λ j t e h.
    let p = (g.met.T.PointType.each t (g.T.PointType.first_number t) (omega (arith, ints)) (g.met.T.PointType.nonempty t)).0 in
    subst (λ ss. IsGrid g.T.PointType.number_of (g.T.PointType.IsPoint (get_or c.args.types.now j t)) (g.T.PointType.last_number (get_or c.args.types.now j t)) (get_or ss j e)) (sym c.as_slice-4.ensures.value)
    (side_grid g.T.PointType.number_of (g.T.PointType.IsPoint (get_or c.args.types.now j t)) (g.T.PointType.last_number (get_or c.args.types.now j t)) _ (get_or c.in_ok-sides.sides.items j e) (c.in_ok-sides.ensures.sides j t (p, p) e h))

pub back-requires-clause-within : goal.back-requires-clause-within
back-requires-clause-within g c = λ x m s e h.
    subst (λ ss. ((get_or {A = ℕ × ℕ} x.1 s (0, 0)).0 < (get_or {A = ℕ × ℕ} x.1 s (0, 0)).1) × ((get_or {A = ℕ × ℕ} x.1 s (0, 0)).1 ≤ length (get_or ss s e).0)) (sym c.as_slice-4.ensures.value)
    (left_cells g.row.P.Denot g.T.PointType.number_of g.T.PointType.IsPoint g.T.PointType.last_number (λ t. (g.met.T.PointType.each t (g.T.PointType.first_number t) (omega (arith, ints)) (g.met.T.PointType.nonempty t)).0) c.args.types.now c.in_ok-sides.sides.items c.args.rows.items c.new-none.result.items c.in_ok-sides.ensures.length (numbered_same g.T.PointType.number_of g.T.PointType.IsPoint g.T.PointType.last_number c.args.types.now c.as_slice.result.now c.args.rows.items c.as_slice-2.result.now c.new-none.result.items c.in_ok-sides.sides.items c.as_slice.ensures.value c.as_slice-2.ensures.value c.in_ok-sides.ensures.sides) c.requires (All-same (λ r. IsBox g.T.PointType.IsPoint c.args.types.now r.1) c.new-none.result.items [] c.new-none.ensures.items (λ k d l. absurd (omega arith))) g.P.Label.order g.met.P.Label.total g.met.P.Label.separates c.push_moved_keys.new.out.items c.in_ok-form.form.items c.in_ok-form.ensures.rows c.in_ok-form.ensures.sorted
    (c.in_ok-push_moved_keys.ensures ∙ (λ i. c.new-own.ensures.items i ++ keys_from 0 c.args.rows.items (c.as_slice-3.ensures.value i))) x m s e h)

pub returns-clause-rows : goal.returns-clause-rows
returns-clause-rows g c =
    c.in_ok-answer.ensures.rows ∙ ap (λ ss. map (grid_row (grids_of g.T.PointType.number_of g.T.PointType.last_number c.args.types.now ss)) c.in_ok-form.form.items) c.as_slice-4.ensures.value
    ∙ left_form g.row.P.Denot g.T.PointType.number_of g.T.PointType.IsPoint g.T.PointType.last_number (λ t. (g.met.T.PointType.each t (g.T.PointType.first_number t) (omega (arith, ints)) (g.met.T.PointType.nonempty t)).0) c.args.types.now c.in_ok-sides.sides.items c.args.rows.items c.new-none.result.items c.in_ok-sides.ensures.length (numbered_same g.T.PointType.number_of g.T.PointType.IsPoint g.T.PointType.last_number c.args.types.now c.as_slice.result.now c.args.rows.items c.as_slice-2.result.now c.new-none.result.items c.in_ok-sides.sides.items c.as_slice.ensures.value c.as_slice-2.ensures.value c.in_ok-sides.ensures.sides) c.requires (All-same (λ r. IsBox g.T.PointType.IsPoint c.args.types.now r.1) c.new-none.result.items [] c.new-none.ensures.items (λ k d l. absurd (omega arith))) g.P.Label.order g.met.P.Label.total g.met.P.Label.separates c.push_moved_keys.new.out.items c.in_ok-form.form.items c.in_ok-form.ensures.rows c.in_ok-form.ensures.sorted
    (c.in_ok-push_moved_keys.ensures ∙ (λ i. c.new-own.ensures.items i ++ keys_from 0 c.args.rows.items (c.as_slice-3.ensures.value i)))
