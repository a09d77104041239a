use Rattle.std.proofs.Common.{◌≡◌, ℕ, List, [], ap, subst, sym, ◌∙◌, ◌<◌, length, get_or}
use Rattle.cell_core.specs.Cells.{box_numbers, grids_of, grid_box}
use Rattle.cell_core.proofs.BackLemmas.{box_back, is_box}
use Rattle.cell_core.proofs.whole.row_of_cells.Goals as goal

pub sides_of_cells-requires-clause-some : goal.sides_of_cells-requires-clause-some
sides_of_cells-requires-clause-some g c =
    let e : c.as_slice.result.now ≡ c.args.row.1 = c.as_slice.ensures.value ∙ ap (λ (x : g.row.P.Denot × List (ℕ × ℕ)). x.1) c.row.view_is in
    λ j l. subst (λ (ys : List (ℕ × ℕ)). (get_or {A = ℕ × ℕ} ys j (0, 0)).0 < (get_or {A = ℕ × ℕ} ys j (0, 0)).1) (sym e) (c.requires.within j ([], [], []) l).0

pub returns-clause-row : goal.returns-clause-row
returns-clause-row g c =
    let n = g.T.PointType.number_of in
    let high = g.T.PointType.last_number in
    let cells = c.as_slice.result.now in
    let label : c.row.inside.label ≡ c.args.row.0 = ap (λ (x : g.row.P.Denot × List (ℕ × ℕ)). x.0) c.row.view_is in
    let e : cells ≡ c.args.row.1 = c.as_slice.ensures.value ∙ ap (λ (x : g.row.P.Denot × List (ℕ × ℕ)). x.1) c.row.view_is in
    let box = box_back n high c.args.types.now c.args.sides.now cells c.in_ok-list.list c.requires.sides (ap length e ∙ c.requires.cells) c.in_ok-list.ensures.length c.in_ok-list.ensures.numbers in
    let same : box_numbers n c.in_ok-list.list ≡ grid_box (grids_of n high c.args.types.now c.args.sides.now) c.args.row.1 = box ∙ ap (grid_box (grids_of n high c.args.types.now c.args.sides.now)) e in
    λ i. (label i, same i)

pub returns-clause-sides : goal.returns-clause-sides
returns-clause-sides g c = is_box g.T.PointType.IsPoint c.args.types.now c.in_ok-list.list c.in_ok-list.ensures.length c.in_ok-list.ensures.points
