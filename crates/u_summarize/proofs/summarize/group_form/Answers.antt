use Rattle.std.proofs.Common.{◌≡◌, ◌↔◌, ◌<◌, ◌≤◌, ℕ, List, map, length, get_or, arith, subst, sym, ap, ◌∙◌}
use Rattle.std.proofs.lemmas.Int.{ints}
use Rattle.std.proofs.lemmas.List.Elements.{All-same}
use Rattle.value_core.specs.Order.{row_total, row_separates}
use Rattle.value_core.specs.Values.{Row, row_cmp}
use Rattle.cell_packing.specs.Covering.{Among}
use Rattle.point_core.specs.LeastFault.{IsLeast}
use Rattle.cell_sweep.specs.PackedRows.{HasRow}
use Rattle.cell_sweep.specs.Rows.{AreRows}
use Rattle.cell_sweep.proofs.Turns.{least_iff}
use Rattle.cell_boxes.specs.Common.{EndsBy}
use Rattle.cell_boxes.specs.Rows.{PlainCellBox}
use Rattle.cell_core.specs.Cells.{grids_of, grid_row, row_numbers}
use Rattle.cell_core.specs.Numbering.{IsGrid}
use Rattle.u_set.proofs.KernelLemmas.{grids, packed_within, packed_is, boxes_have}
use Rattle.u_summarize.specs.Asked.{InCellGroup, HasCellFault}
use Rattle.u_summarize.specs.Groups.{HasGroupFault, IsGroupForm}
use Rattle.u_summarize.proofs.PointGroups.{many_cells, parts_on, places, faults, packed_groups}
use Rattle.u_summarize.proofs.summarize.group_form.Goals as goal

pub given_at_cells-requires-clause-sides : goal.given_at_cells-requires-clause-sides
given_at_cells-requires-clause-sides g c =
    All-same (λ (x : PlainCellBox Row). length x.1 ≡ length c.args.types.now) c.as_slice-2.result.now c.in_ok-sides.field-0.left.items c.as_slice-2.ensures.value c.in_ok-sides.ensures.left_sides

pub given_at_cells-requires-clause-can : goal.given_at_cells-requires-clause-can
given_at_cells-requires-clause-can g c = λ a n r.
    let many = ap length c.as_slice-2.ensures.value ∙ many_cells g.T.PointType.number_of g.T.PointType.IsPoint g.T.PointType.last_number (λ t. (g.met.T.PointType.each t (g.T.PointType.first_number t) (omega (arith, ints)) (g.met.T.PointType.nonempty t)).0) c.args.types.now c.args.rows.now c.as_slice.result.now c.in_ok-sides.field-0.sides.items c.in_ok-sides.field-0.left.items c.in_ok-sides.field-0.right.items c.in_ok-sides.ensures.rows in
    c.requires.can a n (subst (λ m. AreRows 0 m a) many r)

pub back-requires-clause-cells : goal.back-requires-clause-cells
back-requires-clause-cells g c = λ x m. ((c.in_ok-form.ensures.rows x).0 m).0

pub back-requires-clause-grids : goal.back-requires-clause-grids
back-requires-clause-grids g c = λ j t e h.
    subst (λ ss. IsGrid g.T.PointType.number_of (g.T.PointType.IsPoint (get_or c.args.types.now j t)) (g.T.PointType.last_number (get_or c.args.types.now j t)) (get_or ss j e)) (sym c.as_slice-3.ensures.value)
    (grids g.T.PointType.number_of g.T.PointType.IsPoint g.T.PointType.last_number (λ t. (g.met.T.PointType.each t (g.T.PointType.first_number t) (omega (arith, ints)) (g.met.T.PointType.nonempty t)).0) c.args.types.now c.args.rows.now c.as_slice.result.now c.in_ok-sides.field-0.sides.items c.in_ok-sides.field-0.left.items c.in_ok-sides.field-0.right.items c.in_ok-sides.ensures.rows j t e h)

pub back-requires-clause-within : goal.back-requires-clause-within
back-requires-clause-within g c = λ x m s e h.
    let k = length c.args.types.now in
    let f = g.G.GroupRule.means c.args.rule.now in
    let by = c.args.by.now in
    let parts = c.in_ok-parts.parts.items in
    let el = c.as_slice-2.ensures.value in
    let ends : (z : PlainCellBox Row) → Among z parts → (x : PlainCellBox Row) × Among x c.in_ok-sides.field-0.left.items × EndsBy x.1 z.1 = subst (λ (xs : List (PlainCellBox Row)). (z : PlainCellBox Row) → Among z parts → (x : PlainCellBox Row) × Among x xs × EndsBy x.1 z.1) el c.in_ok-parts.ensures.ends in
    let at : (l : Row) (place : List ℕ) → length place ≡ k → HasRow parts l place ↔ InCellGroup f by c.in_ok-sides.field-0.left.items l place = subst (λ (xs : List (PlainCellBox Row)). (l : Row) (place : List ℕ) → length place ≡ k → HasRow parts l place ↔ InCellGroup f by xs l place) el c.in_ok-parts.ensures.places in
    let on = parts_on g.T.PointType.number_of g.T.PointType.IsPoint g.T.PointType.last_number (λ t. (g.met.T.PointType.each t (g.T.PointType.first_number t) (omega (arith, ints)) (g.met.T.PointType.nonempty t)).0) c.args.types.now c.args.rows.now c.as_slice.result.now c.in_ok-sides.field-0.sides.items c.in_ok-sides.field-0.left.items c.in_ok-sides.field-0.right.items c.in_ok-sides.ensures.rows f by parts c.in_ok-parts.ensures.lengths ends at in
    subst (λ ss. ((get_or {A = ℕ × ℕ} x.1 s (0, 0)).0 < (get_or {A = ℕ × ℕ} x.1 s (0, 0)).1) × ((get_or {A = ℕ × ℕ} x.1 s (0, 0)).1 ≤ length (get_or ss s e).0)) (sym c.as_slice-3.ensures.value)
    (packed_within g.T.PointType.number_of g.T.PointType.IsPoint g.T.PointType.last_number (λ t. (g.met.T.PointType.each t (g.T.PointType.first_number t) (omega (arith, ints)) (g.met.T.PointType.nonempty t)).0) c.args.types.now c.args.rows.now c.as_slice.result.now c.in_ok-sides.field-0.sides.items c.in_ok-sides.field-0.left.items c.in_ok-sides.field-0.right.items c.in_ok-sides.ensures.rows parts c.in_ok-form.form.items on c.in_ok-form.ensures.rows x m s e h)

pub returns-clause-rows : goal.returns-clause-rows
returns-clause-rows g c =
    let k = length c.args.types.now in
    let f = g.G.GroupRule.means c.args.rule.now in
    let by = c.args.by.now in
    let parts = c.in_ok-parts.parts.items in
    let el = c.as_slice-2.ensures.value in
    let ends : (z : PlainCellBox Row) → Among z parts → (x : PlainCellBox Row) × Among x c.in_ok-sides.field-0.left.items × EndsBy x.1 z.1 = subst (λ (xs : List (PlainCellBox Row)). (z : PlainCellBox Row) → Among z parts → (x : PlainCellBox Row) × Among x xs × EndsBy x.1 z.1) el c.in_ok-parts.ensures.ends in
    let at : (l : Row) (place : List ℕ) → length place ≡ k → HasRow parts l place ↔ InCellGroup f by c.in_ok-sides.field-0.left.items l place = subst (λ (xs : List (PlainCellBox Row)). (l : Row) (place : List ℕ) → length place ≡ k → HasRow parts l place ↔ InCellGroup f by xs l place) el c.in_ok-parts.ensures.places in
    let on = parts_on g.T.PointType.number_of g.T.PointType.IsPoint g.T.PointType.last_number (λ t. (g.met.T.PointType.each t (g.T.PointType.first_number t) (omega (arith, ints)) (g.met.T.PointType.nonempty t)).0) c.args.types.now c.args.rows.now c.as_slice.result.now c.in_ok-sides.field-0.sides.items c.in_ok-sides.field-0.left.items c.in_ok-sides.field-0.right.items c.in_ok-sides.ensures.rows f by parts c.in_ok-parts.ensures.lengths ends at in
    let n = g.T.PointType.number_of in
    let e = c.in_ok-answer.ensures.rows ∙ ap (λ ss. map (grid_row (grids_of n g.T.PointType.last_number c.args.types.now ss)) c.in_ok-form.form.items) c.as_slice-3.ensures.value
    ∙ packed_is g.T.PointType.number_of g.T.PointType.IsPoint g.T.PointType.last_number (λ t. (g.met.T.PointType.each t (g.T.PointType.first_number t) (omega (arith, ints)) (g.met.T.PointType.nonempty t)).0) c.args.types.now c.args.rows.now c.as_slice.result.now c.in_ok-sides.field-0.sides.items c.in_ok-sides.field-0.left.items c.in_ok-sides.field-0.right.items c.in_ok-sides.ensures.rows parts c.in_ok-form.form.items on c.in_ok-form.ensures.rows row_cmp row_total row_separates c.in_ok-form.ensures.sorted in
    subst (IsGroupForm row_cmp k f by (map (row_numbers n) c.args.rows.now)) (sym e)
    (packed_groups row_cmp row_total row_separates k f by (map (row_numbers n) c.args.rows.now) (map (grid_row (grids_of n g.T.PointType.last_number c.args.types.now c.in_ok-sides.field-0.sides.items)) parts)
    (boxes_have g.T.PointType.number_of g.T.PointType.IsPoint g.T.PointType.last_number (λ t. (g.met.T.PointType.each t (g.T.PointType.first_number t) (omega (arith, ints)) (g.met.T.PointType.nonempty t)).0) c.args.types.now c.args.rows.now c.as_slice.result.now c.in_ok-sides.field-0.sides.items c.in_ok-sides.field-0.left.items c.in_ok-sides.field-0.right.items c.in_ok-sides.ensures.rows parts on) (places g.T.PointType.number_of g.T.PointType.IsPoint g.T.PointType.last_number (λ t. (g.met.T.PointType.each t (g.T.PointType.first_number t) (omega (arith, ints)) (g.met.T.PointType.nonempty t)).0) c.args.types.now c.args.rows.now c.as_slice.result.now c.in_ok-sides.field-0.sides.items c.in_ok-sides.field-0.left.items c.in_ok-sides.field-0.right.items c.in_ok-sides.ensures.rows f by parts c.in_ok-parts.ensures.lengths ends at))

pub returns-clause-least : goal.returns-clause-least
returns-clause-least g c =
    let k = length c.args.types.now in
    let f = g.G.GroupRule.means c.args.rule.now in
    let by = c.args.by.now in
    let ls = c.in_ok-sides.field-0.left.items in
    least_iff (HasCellFault k f by ls) (HasGroupFault f by (map (row_numbers g.T.PointType.number_of) c.args.rows.now)) c.in_ok-parts.least (faults g.T.PointType.number_of g.T.PointType.IsPoint g.T.PointType.last_number (λ t. (g.met.T.PointType.each t (g.T.PointType.first_number t) (omega (arith, ints)) (g.met.T.PointType.nonempty t)).0) c.args.types.now c.args.rows.now c.as_slice.result.now c.in_ok-sides.field-0.sides.items c.in_ok-sides.field-0.left.items c.in_ok-sides.field-0.right.items c.in_ok-sides.ensures.rows f by)
    (subst (λ (xs : List (PlainCellBox Row)). IsLeast (HasCellFault k f by xs) c.in_ok-parts.least) c.as_slice-2.ensures.value c.in_ok-parts.ensures.least)
