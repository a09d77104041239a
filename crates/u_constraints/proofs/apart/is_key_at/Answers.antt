use Rattle.std.proofs.Common.{ℕ, ◌<◌, ◌≡◌, ◌↔◌, List, length, map, arith, sym, ap, ◌∙◌, subst}
use Rattle.std.specs.Bool.{IsTrue}
use Rattle.std.specs.List.{All}
use Rattle.std.proofs.lemmas.Int.{ints}
use Rattle.std.proofs.lemmas.List.Elements.{All-same, All-map}
use Rattle.value_core.specs.Order.{row_total, row_separates}
use Rattle.value_core.specs.Values.{Row, row_cmp}
use Rattle.relation_core.specs.Agreement.{part_of}
use Rattle.cell_packing.proofs.AmongLemmas.{all_from_members}
use Rattle.cell_boxes.specs.Apartness.{AreApart}
use Rattle.cell_boxes.specs.Common.{HaveCells}
use Rattle.cell_boxes.specs.Rows.{PlainCellBox}
use Rattle.cell_core.specs.Cells.{row_numbers}
use Rattle.u_set.proofs.ApartLemmas.{if_ok}
use Rattle.u_row.specs.Labels.{relabelled}
use Rattle.u_constraints.specs.Places.{IsKeyAt}
use Rattle.u_constraints.proofs.PlacedKeyLemmas.{form_lengths, form_cells, form_labels, told_apart}
use Rattle.u_constraints.proofs.apart.is_key_at.Goals as goal

pub cells_of_parts-requires : goal.cells_of_parts-requires
cells_of_parts-requires g c =
    All-same (λ (x : PlainCellBox Row). All (λ (i : ℕ). i < length x.0) c.args.positions.now) c.as_slice-2.result.now c.in_ok-form.form.items c.as_slice-2.ensures.value
    (form_labels g.T.PointType.number_of g.T.PointType.IsPoint g.T.PointType.last_number (λ t. (g.met.T.PointType.each t (g.T.PointType.first_number t) (omega (arith, ints)) (g.met.T.PointType.nonempty t)).0) c.args.types.now c.args.boxes.now c.as_slice.result.now c.in_ok-left.field-0.sides.items c.in_ok-left.field-0.left.items c.in_ok-left.field-0.right.items c.in_ok-left.ensures.rows row_cmp row_total row_separates c.in_ok-form.form.items c.in_ok-form.ensures.rows c.in_ok-form.ensures.sorted (λ (l : Row). All (λ (i : ℕ). i < length l) c.args.positions.now) c.requires.within)

pub are_apart-requires-clause-sides : goal.are_apart-requires-clause-sides
are_apart-requires-clause-sides g c =
    let k = length c.args.types.now in
    let f = part_of c.args.positions.now in
    let form = all_from_members (λ (x : PlainCellBox Row). length x.1 ≡ k) c.in_ok-form.form.items (form_lengths g.T.PointType.number_of g.T.PointType.IsPoint g.T.PointType.last_number (λ t. (g.met.T.PointType.each t (g.T.PointType.first_number t) (omega (arith, ints)) (g.met.T.PointType.nonempty t)).0) c.args.types.now c.args.boxes.now c.as_slice.result.now c.in_ok-left.field-0.sides.items c.in_ok-left.field-0.left.items c.in_ok-left.field-0.right.items c.in_ok-left.ensures.rows row_cmp row_total row_separates c.in_ok-form.form.items c.in_ok-form.ensures.rows c.in_ok-form.ensures.sorted) in
    All-same (λ (x : PlainCellBox Row). length x.1 ≡ k) c.in_ok-parts.parts.items (map (relabelled f) c.in_ok-form.form.items) (c.in_ok-parts.ensures ∙ ap (map (relabelled f)) c.as_slice-2.ensures.value)
    (All-map (λ (x : PlainCellBox Row). length x.1 ≡ k) (relabelled f) c.in_ok-form.form.items form)

pub are_apart-requires-clause-cells : goal.are_apart-requires-clause-cells
are_apart-requires-clause-cells g c =
    let f = part_of c.args.positions.now in
    let form = all_from_members (λ (x : PlainCellBox Row). HaveCells x.1) c.in_ok-form.form.items (form_cells g.T.PointType.number_of g.T.PointType.IsPoint g.T.PointType.last_number (λ t. (g.met.T.PointType.each t (g.T.PointType.first_number t) (omega (arith, ints)) (g.met.T.PointType.nonempty t)).0) c.args.types.now c.args.boxes.now c.as_slice.result.now c.in_ok-left.field-0.sides.items c.in_ok-left.field-0.left.items c.in_ok-left.field-0.right.items c.in_ok-left.ensures.rows row_cmp row_total row_separates c.in_ok-form.form.items c.in_ok-form.ensures.rows c.in_ok-form.ensures.sorted) in
    All-same (λ (x : PlainCellBox Row). HaveCells x.1) c.in_ok-parts.parts.items (map (relabelled f) c.in_ok-form.form.items) (c.in_ok-parts.ensures ∙ ap (map (relabelled f)) c.as_slice-2.ensures.value)
    (All-map (λ (x : PlainCellBox Row). HaveCells x.1) (relabelled f) c.in_ok-form.form.items form)

pub returns-clause-answer : goal.returns-clause-answer
returns-clause-answer g c =
    let k = length c.args.types.now in
    let f = part_of c.args.positions.now in
    let same = c.in_ok-parts.ensures ∙ ap (map (relabelled f)) c.as_slice-2.ensures.value in
    let told = told_apart g.T.PointType.number_of g.T.PointType.IsPoint g.T.PointType.last_number (λ t. (g.met.T.PointType.each t (g.T.PointType.first_number t) (omega (arith, ints)) (g.met.T.PointType.nonempty t)).0) c.args.types.now c.args.boxes.now c.as_slice.result.now c.in_ok-left.field-0.sides.items c.in_ok-left.field-0.left.items c.in_ok-left.field-0.right.items c.in_ok-left.ensures.rows row_cmp row_total row_separates c.in_ok-form.form.items c.in_ok-form.ensures.rows c.in_ok-form.ensures.sorted f row_cmp row_total row_separates in
    if_ok (λ b. IsTrue b ↔ AreApart row_cmp k c.in_ok-parts.parts.items) (λ b. IsTrue b ↔ IsKeyAt c.args.positions.now (map (row_numbers g.T.PointType.number_of) c.args.boxes.now)) (λ b h. (
      λ t. told.0 (subst (λ (rows : List (PlainCellBox Row)). AreApart row_cmp k rows) same (h.0 t)),
      λ a. h.1 (subst (λ (rows : List (PlainCellBox Row)). AreApart row_cmp k rows) (sym same) (told.1 a)),
    )) c.are_apart.result c.are_apart.ensures
