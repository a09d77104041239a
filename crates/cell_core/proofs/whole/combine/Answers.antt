use Rattle.std.proofs.Common.{◌≡◌, ◌<◌, ◌≤◌, ◌+◌, ℕ, map, length, get_or, arith, subst, sym, ap, ◌∙◌}
use Rattle.std.proofs.lemmas.List.{length-map}
use Rattle.cell_sweep.specs.Rows.{AreRows, own_numbers}
use Rattle.cell_core.specs.Numbering.{IsGrid}
use Rattle.cell_core.specs.Cells.{boxes_of, IsPackedForm, grids_of, grid_row, row_numbers}
use Rattle.cell_core.proofs.BackLemmas.{boxes_length, boxes_ends, rows_down}
use Rattle.cell_core.proofs.CombinedLemmas.{combined_packed}
use Rattle.cell_core.proofs.whole.combine.Goals as goal

pub find_rows-requires-clause-left : goal.find_rows-requires-clause-left
find_rows-requires-clause-left g c = boxes_length g.T.PointType.IsPoint c.args.types.now c.args.left.now c.requires.left

pub find_rows-requires-clause-right : goal.find_rows-requires-clause-right
find_rows-requires-clause-right g c = boxes_length g.T.PointType.IsPoint c.args.types.now c.args.right.now c.requires.right

pub find_rows-requires-clause-left_points : goal.find_rows-requires-clause-left_points
find_rows-requires-clause-left_points g c = boxes_ends g.T.PointType.IsPoint c.args.types.now c.args.left.now c.requires.left

pub find_rows-requires-clause-right_points : goal.find_rows-requires-clause-right_points
find_rows-requires-clause-right_points g c = boxes_ends g.T.PointType.IsPoint c.args.types.now c.args.right.now c.requires.right

pub find_rows-requires-clause-can : goal.find_rows-requires-clause-can
find_rows-requires-clause-can g c = λ a b h k.
    let n : ℕ = length c.args.left.now in
    let m : ℕ = length c.args.right.now in
    let e : n ≡ n + 0 = omega arith in
    c.requires.can a (own_numbers n b) h (rows_down n 0 m b (subst (λ z. AreRows z (n + m) b) e k))

pub back-requires-clause-grids : goal.back-requires-clause-grids
back-requires-clause-grids g c = λ j t e h.
    let s = c.as_slice.ensures.value in
    subst (λ ss. IsGrid g.T.PointType.number_of (g.T.PointType.IsPoint (get_or c.args.types.now j t)) (g.T.PointType.last_number (get_or c.args.types.now j t)) (get_or ss j e)) (sym s) (c.in_ok-sides.ensures.grids j t e h)

pub back-requires-clause-within : goal.back-requires-clause-within
back-requires-clause-within g c = λ x m s e h.
    subst (λ ss. ((get_or {A = ℕ × ℕ} x.1 s (0, 0)).0 < (get_or {A = ℕ × ℕ} x.1 s (0, 0)).1) × ((get_or {A = ℕ × ℕ} x.1 s (0, 0)).1 ≤ length (get_or ss s e).0)) (sym c.as_slice.ensures.value) (c.in_ok-sides.ensures.cells x m s e h)

pub returns-clause-rows : goal.returns-clause-rows
returns-clause-rows g c =
    let n = g.T.PointType.number_of in
    let high = g.T.PointType.last_number in
    let rows = c.in_ok-sides.field-0.rows.items in
    let same : map (row_numbers n) c.in_ok-answer.answer.items ≡ map (grid_row (grids_of n high c.args.types.now c.in_ok-sides.field-0.sides.items)) rows =
    c.in_ok-answer.ensures.rows ∙ ap (λ ss. map (grid_row (grids_of n high c.args.types.now ss)) rows) c.as_slice.ensures.value in
    subst (IsPackedForm g.O.Out.Label.order (length c.args.types.now) (g.O.CellOp.means c.args.op.now) (boxes_of n c.args.left.now) (boxes_of n c.args.right.now)) (sym same) c.in_ok-sides.ensures.form

pub returns-clause-few : goal.returns-clause-few
returns-clause-few g c =
    let n = g.T.PointType.number_of in
    let rows = c.in_ok-sides.field-0.rows.items in
    let answer = c.in_ok-answer.answer.items in
    let back = grid_row (grids_of n g.T.PointType.last_number c.args.types.now c.as_slice.result.now) in
    let l : length answer ≡ length rows = sym (length-map answer (row_numbers n)) ∙ ap length c.in_ok-answer.ensures.rows ∙ length-map rows back in
    omega arith

pub returns-clause-packed : goal.returns-clause-packed
returns-clause-packed g c = λ r have same.
    let n = g.T.PointType.number_of in
    let high = g.T.PointType.last_number in
    let rows = c.in_ok-sides.field-0.rows.items in
    let back : map (row_numbers n) c.in_ok-answer.answer.items ≡ map (grid_row (grids_of n high c.args.types.now c.in_ok-sides.field-0.sides.items)) rows =
    c.in_ok-answer.ensures.rows ∙ ap (λ ss. map (grid_row (grids_of n high c.args.types.now ss)) rows) c.as_slice.ensures.value in
    back ∙ combined_packed g.O.Out.Label.order g.met.O.Out.Label.total g.met.O.Out.Label.separates (length c.args.types.now) (g.O.CellOp.means c.args.op.now) (boxes_of n c.args.left.now) (boxes_of n c.args.right.now)
    (map (grid_row (grids_of n high c.args.types.now c.in_ok-sides.field-0.sides.items)) rows) c.in_ok-sides.ensures.form r have same
