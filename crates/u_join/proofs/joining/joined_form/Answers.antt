use Rattle.std.proofs.Common.{◌≡◌, ◌<◌, ◌≤◌, ℕ, map, length, get_or, arith, subst, sym, ap, ◌∙◌}
use Rattle.std.proofs.lemmas.Int.{ints}
use Rattle.std.proofs.lemmas.List.Elements.{All-same, All-map}
use Rattle.relation_core.specs.Agreement.{part_of}
use Rattle.cell_core.specs.Cells.{grids_of, grid_row}
use Rattle.cell_core.specs.Numbering.{IsGrid}
use Rattle.u_set.proofs.KernelLemmas.{grids}
use Rattle.u_join.specs.KeyedCellBox.{keyed}
use Rattle.u_join.proofs.CellLemmas.{joined_within, joined_form}
use Rattle.u_join.proofs.joining.joined_form.Goals as goal

pub join-requires-clause-left : goal.join-requires-clause-left
join-requires-clause-left g c =
    All-same (λ x. length x.2 ≡ length c.args.types.now) c.in_ok-lefts.lefts.items (map (keyed (part_of c.args.keys.here.now)) c.in_ok-fewer_left.fewer_left.items) c.in_ok-lefts.ensures
    (All-map (λ x. length x.2 ≡ length c.args.types.now) (keyed (part_of c.args.keys.here.now)) c.in_ok-fewer_left.fewer_left.items c.in_ok-fewer_left.ensures.sides)

pub join-requires-clause-right : goal.join-requires-clause-right
join-requires-clause-right g c =
    All-same (λ x. length x.2 ≡ length c.args.types.now) c.in_ok-rights.rights.items (map (keyed (part_of c.args.keys.there.now)) c.in_ok-fewer_right.fewer_right.items) c.in_ok-rights.ensures
    (All-map (λ x. length x.2 ≡ length c.args.types.now) (keyed (part_of c.args.keys.there.now)) c.in_ok-fewer_right.fewer_right.items c.in_ok-fewer_right.ensures.sides)

pub back-requires-clause-cells : goal.back-requires-clause-cells
back-requires-clause-cells g c = λ x m. ((c.in_ok-form.ensures.rows x).0 m).0

pub back-requires-clause-grids : goal.back-requires-clause-grids
back-requires-clause-grids g c = λ j t e h.
    subst (λ ss. IsGrid g.T.PointType.number_of (g.T.PointType.IsPoint (get_or c.args.types.now j t)) (g.T.PointType.last_number (get_or c.args.types.now j t)) (get_or ss j e)) (sym c.as_slice.ensures.value)
    (grids g.T.PointType.number_of g.T.PointType.IsPoint g.T.PointType.last_number (λ t. (g.met.T.PointType.each t (g.T.PointType.first_number t) (omega (arith, ints)) (g.met.T.PointType.nonempty t)).0) c.args.types.now c.args.left.items c.args.right.items c.in_ok-sides.field-0.sides.items c.in_ok-sides.field-0.left.items c.in_ok-sides.field-0.right.items c.in_ok-sides.ensures.rows j t e h)

pub back-requires-clause-within : goal.back-requires-clause-within
back-requires-clause-within g c = λ x m s e h.
    subst (λ ss. ((get_or {A = ℕ × ℕ} x.1 s (0, 0)).0 < (get_or {A = ℕ × ℕ} x.1 s (0, 0)).1) × ((get_or {A = ℕ × ℕ} x.1 s (0, 0)).1 ≤ length (get_or ss s e).0)) (sym c.as_slice.ensures.value)
    (joined_within g.T.PointType.number_of g.T.PointType.IsPoint g.T.PointType.last_number (λ t. (g.met.T.PointType.each t (g.T.PointType.first_number t) (omega (arith, ints)) (g.met.T.PointType.nonempty t)).0) c.args.types.now c.args.left.items c.args.right.items c.in_ok-sides.field-0.sides.items c.in_ok-sides.field-0.left.items c.in_ok-sides.field-0.right.items c.in_ok-sides.ensures.rows c.args.keys.here.now c.args.keys.there.now c.in_ok-fewer_left.fewer_left.items c.in_ok-fewer_left.ensures.rows c.in_ok-lefts.lefts.items c.in_ok-lefts.ensures c.in_ok-form.form.items
    (g.O.PairRule.means c.args.rule.now) c.in_ok-fewer_right.fewer_right.items c.in_ok-fewer_right.ensures.rows c.in_ok-rights.rights.items c.in_ok-rights.ensures c.in_ok-form.ensures.cover x m s e h)

pub returns-clause-rows : goal.returns-clause-rows
returns-clause-rows g c =
    c.in_ok-answer.ensures.rows ∙ ap (λ ss. map (grid_row (grids_of g.T.PointType.number_of g.T.PointType.last_number c.args.types.now ss)) c.in_ok-form.form.items) c.as_slice.ensures.value
    ∙ joined_form g.T.PointType.number_of g.T.PointType.IsPoint g.T.PointType.last_number (λ t. (g.met.T.PointType.each t (g.T.PointType.first_number t) (omega (arith, ints)) (g.met.T.PointType.nonempty t)).0) c.args.types.now c.args.left.items c.args.right.items c.in_ok-sides.field-0.sides.items c.in_ok-sides.field-0.left.items c.in_ok-sides.field-0.right.items c.in_ok-sides.ensures.rows c.args.keys.here.now c.args.keys.there.now c.in_ok-fewer_left.fewer_left.items c.in_ok-fewer_left.ensures.rows c.in_ok-lefts.lefts.items c.in_ok-lefts.ensures c.in_ok-form.form.items
    (g.O.PairRule.means c.args.rule.now) c.in_ok-fewer_right.fewer_right.items c.in_ok-fewer_right.ensures.rows c.in_ok-rights.rights.items c.in_ok-rights.ensures c.in_ok-form.ensures.cover c.in_ok-form.ensures.sorted
