use Rattle.std.proofs.Common.{◌≡◌, ℕ, suc, ◌+◌, ◌*◌, ◌<◌, ◌≤◌, ◌↔◌, ◌⊎◌, List, [], map, length, get_or, arith, subst, sym, ap, ◌∙◌, Some, None}
use Rattle.std.proofs.lemmas.Int.{ints}
use Rattle.std.specs.List.{All}
use Rattle.std.proofs.lemmas.List.Elements.{All-same, All-map}
use Rattle.cell_packing.specs.Covering.{Among}
use Rattle.cell_packing.specs.Live.{IsSliceRow, IsSomewhere}
use Rattle.point_core.specs.LeastFault.{IsLeast}
use Rattle.cell_sweep.specs.Rows.{sides_of, AreRows, GivesLabel, GivesFault}
use Rattle.cell_core.specs.Cells.{rows_from, cells_at}
use Rattle.cell_sweep.specs.Rows.{volume}
use Rattle.cell_core.proofs.StepLemmas.{sides_bound, whole_bound, volume_within, counts_within, length_rows_from}
use Rattle.cell_core.proofs.Assembly.{form, least}
use Rattle.cell_core.proofs.Calls.{are_rows, full_cells, few_cells, box_length, box_cells, row_cells, side_grid}
use Rattle.cell_core.proofs.whole.find_rows.Goals as goal

pub cell_boxes-requires : goal.cell_boxes-requires
cell_boxes-requires g c =
    All-same (λ s. length c.args.left.now + length c.args.right.now ≤ length s.2) c.as_slice-2.result.now c.in_ok-sides.sides.items c.as_slice-2.ensures.value
    (full_cells g.T.PointType.number_of g.T.PointType.IsPoint g.T.PointType.last_number (λ t. (g.met.T.PointType.each t (g.T.PointType.first_number t) (omega (arith, ints)) (g.met.T.PointType.nonempty t)).0) c.args.types.now c.in_ok-sides.sides.items c.args.left.now c.args.right.now c.in_ok-sides.ensures.length c.in_ok-sides.ensures.sides)

pub slices-requires-clause-few : goal.slices-requires-clause-few
slices-requires-clause-few g c =
    let e = c.as_slice-3.ensures.value ∙ c.in_ok-counts.ensures ∙ ap (map (λ s. length s.0)) c.as_slice.ensures.value in
    All-same (λ m. m < 9223372036854775808) c.as_slice-3.result.now (map (λ s. length s.0) c.in_ok-sides.sides.items) e
    (All-map (λ m. m < 9223372036854775808) (λ s. length s.0) c.in_ok-sides.sides.items (few_cells g.T.PointType.number_of g.T.PointType.IsPoint g.T.PointType.last_number (λ t. (g.met.T.PointType.each t (g.T.PointType.first_number t) (omega (arith, ints)) (g.met.T.PointType.nonempty t)).0) c.args.types.now c.in_ok-sides.sides.items c.args.left.now c.args.right.now c.in_ok-sides.ensures.length c.in_ok-sides.ensures.sides 9223372036854775808 (omega arith)))

pub slices-requires-clause-split : goal.slices-requires-clause-split
slices-requires-clause-split g c =
    let e = ap length c.as_slice-4.ensures.value ∙ c.in_ok-boxes.ensures.length in
    omega arith

pub slices-requires-clause-left : goal.slices-requires-clause-left
slices-requires-clause-left g c = subst (AreRows 0 (length c.args.left.now)) (sym (c.as_slice-5.ensures.value ∙ c.in_ok-l.ensures)) (are_rows 0 (length c.args.left.now) (length c.args.left.now) (omega arith))

pub slices-requires-clause-right : goal.slices-requires-clause-right
slices-requires-clause-right g c =
    let e = ap length c.as_slice-4.ensures.value ∙ c.in_ok-boxes.ensures.length in
    subst (AreRows (length c.args.left.now) (length c.as_slice-4.result.now)) (sym (c.as_slice-6.ensures.value ∙ c.in_ok-r.ensures)) (are_rows (length c.args.left.now) (length c.args.right.now) (length c.as_slice-4.result.now) (omega arith))

pub slices-requires-clause-boxes : goal.slices-requires-clause-boxes
slices-requires-clause-boxes g c =
    box_length g.T.PointType.number_of g.T.PointType.IsPoint g.T.PointType.last_number (λ t. (g.met.T.PointType.each t (g.T.PointType.first_number t) (omega (arith, ints)) (g.met.T.PointType.nonempty t)).0) c.args.types.now c.in_ok-sides.sides.items c.args.left.now c.args.right.now c.in_ok-sides.ensures.length c.in_ok-sides.ensures.sides c.as_slice-4.result.now c.as_slice-3.result.now (ap length c.as_slice-4.ensures.value ∙ c.in_ok-boxes.ensures.length) (λ r h. ap (λ bs. get_or (sides_of bs) r []) c.as_slice-4.ensures.value ∙ c.in_ok-boxes.ensures.boxes r h ∙ ap (map (cells_at r)) c.as_slice-2.ensures.value) (c.as_slice-3.ensures.value ∙ c.in_ok-counts.ensures ∙ ap (map (λ s. length s.0)) c.as_slice.ensures.value)

pub slices-requires-clause-cells : goal.slices-requires-clause-cells
slices-requires-clause-cells g c =
    box_cells g.T.PointType.number_of g.T.PointType.IsPoint g.T.PointType.last_number (λ t. (g.met.T.PointType.each t (g.T.PointType.first_number t) (omega (arith, ints)) (g.met.T.PointType.nonempty t)).0) c.args.types.now c.in_ok-sides.sides.items c.args.left.now c.args.right.now c.in_ok-sides.ensures.length c.in_ok-sides.ensures.sides c.as_slice-4.result.now c.as_slice-3.result.now (ap length c.as_slice-4.ensures.value ∙ c.in_ok-boxes.ensures.length) (λ r h. ap (λ bs. get_or (sides_of bs) r []) c.as_slice-4.ensures.value ∙ c.in_ok-boxes.ensures.boxes r h ∙ ap (map (cells_at r)) c.as_slice-2.ensures.value) (c.as_slice-3.ensures.value ∙ c.in_ok-counts.ensures ∙ ap (map (λ s. length s.0)) c.as_slice.ensures.value)

pub slices-requires-clause-can : goal.slices-requires-clause-can
slices-requires-clause-can g c = λ a b h k.
    let e = ap length c.as_slice-4.ensures.value ∙ c.in_ok-boxes.ensures.length in
    c.requires.can a b h (subst (λ m. AreRows (length c.args.left.now) m b) e k)

pub returns-clause-length : goal.returns-clause-length
returns-clause-length g c = c.in_ok-sides.ensures.length

pub returns-clause-form : goal.returns-clause-form
returns-clause-form g c =
    let f = GivesLabel (g.O.CellOp.means c.args.op.now) (length c.args.left.now) in
    let b = sides_of c.as_slice-4.result.now in
    let el = c.as_slice-5.ensures.value ∙ c.in_ok-l.ensures in
    let er = c.as_slice-6.ensures.value ∙ c.in_ok-r.ensures in
    let rows : (x : g.row.O-Out.Denot × List (ℕ × ℕ)) → Among x c.in_ok-rows.rows.items ↔ (length x.1 ≡ length c.args.types.now) × IsSliceRow (length c.args.types.now) f b (rows_from 0 (length c.args.left.now)) (rows_from (length c.args.left.now) (length c.args.right.now)) x.0 x.1 = λ x.
    subst (λ l. Among x c.in_ok-rows.rows.items ↔ (length x.1 ≡ length c.args.types.now) × IsSliceRow (length c.args.types.now) f b l (rows_from (length c.args.left.now) (length c.args.right.now)) x.0 x.1) el
    (subst (λ r. Among x c.in_ok-rows.rows.items ↔ (length x.1 ≡ length c.args.types.now) × IsSliceRow (length c.args.types.now) f b c.as_slice-5.result.now r x.0 x.1) er (c.in_ok-rows.ensures.rows x)) in
    form g.T.PointType.number_of g.T.PointType.IsPoint g.T.PointType.last_number (λ t. (g.met.T.PointType.each t (g.T.PointType.first_number t) (omega (arith, ints)) (g.met.T.PointType.nonempty t)).0) c.args.types.now c.in_ok-sides.sides.items c.args.left.now c.args.right.now b c.in_ok-sides.ensures.length c.in_ok-sides.ensures.sides c.requires.left c.requires.right (λ r h. ap (λ bs. get_or (sides_of bs) r []) c.as_slice-4.ensures.value ∙ c.in_ok-boxes.ensures.boxes r h ∙ ap (map (cells_at r)) c.as_slice-2.ensures.value) g.O.Out.Label.order (g.O.CellOp.means c.args.op.now) c.in_ok-rows.rows.items rows c.in_ok-rows.ensures.sorted

pub returns-clause-least : goal.returns-clause-least
returns-clause-least g c =
    let f = GivesFault (g.O.CellOp.means c.args.op.now) (length c.args.left.now) in
    let b = sides_of c.as_slice-4.result.now in
    let el = c.as_slice-5.ensures.value ∙ c.in_ok-l.ensures in
    let er = c.as_slice-6.ensures.value ∙ c.in_ok-r.ensures in
    let s : IsLeast (λ e. (None ≡ Some e) ⊎ IsSomewhere (length c.args.types.now) f b (rows_from 0 (length c.args.left.now)) (rows_from (length c.args.left.now) (length c.args.right.now)) e) c.slices.new.least =
    subst (λ l. IsLeast (λ e. (None ≡ Some e) ⊎ IsSomewhere (length c.args.types.now) f b l (rows_from (length c.args.left.now) (length c.args.right.now)) e) c.slices.new.least) el
    (subst (λ r. IsLeast (λ e. (None ≡ Some e) ⊎ IsSomewhere (length c.args.types.now) f b c.as_slice-5.result.now r e) c.slices.new.least) er c.in_ok-rows.ensures.least) in
    least g.T.PointType.number_of g.T.PointType.IsPoint g.T.PointType.last_number (λ t. (g.met.T.PointType.each t (g.T.PointType.first_number t) (omega (arith, ints)) (g.met.T.PointType.nonempty t)).0) c.args.types.now c.in_ok-sides.sides.items c.args.left.now c.args.right.now b c.in_ok-sides.ensures.length c.in_ok-sides.ensures.sides c.requires.left c.requires.right (λ r h. ap (λ bs. get_or (sides_of bs) r []) c.as_slice-4.ensures.value ∙ c.in_ok-boxes.ensures.boxes r h ∙ ap (map (cells_at r)) c.as_slice-2.ensures.value) (g.O.CellOp.means c.args.op.now) c.slices.new.least s

pub returns-clause-cells : goal.returns-clause-cells
returns-clause-cells g c = λ x m s e l.
    let f = GivesLabel (g.O.CellOp.means c.args.op.now) (length c.args.left.now) in
    let b = sides_of c.as_slice-4.result.now in
    let el = c.as_slice-5.ensures.value ∙ c.in_ok-l.ensures in
    let er = c.as_slice-6.ensures.value ∙ c.in_ok-r.ensures in
    let rows : (x : g.row.O-Out.Denot × List (ℕ × ℕ)) → Among x c.in_ok-rows.rows.items ↔ (length x.1 ≡ length c.args.types.now) × IsSliceRow (length c.args.types.now) f b (rows_from 0 (length c.args.left.now)) (rows_from (length c.args.left.now) (length c.args.right.now)) x.0 x.1 = λ x.
    subst (λ l. Among x c.in_ok-rows.rows.items ↔ (length x.1 ≡ length c.args.types.now) × IsSliceRow (length c.args.types.now) f b l (rows_from (length c.args.left.now) (length c.args.right.now)) x.0 x.1) el
    (subst (λ r. Among x c.in_ok-rows.rows.items ↔ (length x.1 ≡ length c.args.types.now) × IsSliceRow (length c.args.types.now) f b c.as_slice-5.result.now r x.0 x.1) er (c.in_ok-rows.ensures.rows x)) in
    row_cells g.T.PointType.number_of g.T.PointType.IsPoint g.T.PointType.last_number (λ t. (g.met.T.PointType.each t (g.T.PointType.first_number t) (omega (arith, ints)) (g.met.T.PointType.nonempty t)).0) c.args.types.now c.in_ok-sides.sides.items c.args.left.now c.args.right.now c.in_ok-sides.ensures.length c.in_ok-sides.ensures.sides b (λ r h. ap (λ bs. get_or (sides_of bs) r []) c.as_slice-4.ensures.value ∙ c.in_ok-boxes.ensures.boxes r h ∙ ap (map (cells_at r)) c.as_slice-2.ensures.value) f x.0 x.1 ((rows x).0 m).1 s e l

pub returns-clause-grids : goal.returns-clause-grids
returns-clause-grids g c = λ j t e h.
    let p = (g.met.T.PointType.each t (g.T.PointType.first_number t) (omega (arith, ints)) (g.met.T.PointType.nonempty t)).0 in
    side_grid g.T.PointType.number_of (g.T.PointType.IsPoint (get_or c.args.types.now j t)) (g.T.PointType.last_number (get_or c.args.types.now j t)) _ (get_or c.in_ok-sides.sides.items j e) (c.in_ok-sides.ensures.sides j t (p, p) e h)

pub returns-clause-lengths : goal.returns-clause-lengths
returns-clause-lengths g c = λ x m.
    let f = GivesLabel (g.O.CellOp.means c.args.op.now) (length c.args.left.now) in
    let b = sides_of c.as_slice-4.result.now in
    let el = c.as_slice-5.ensures.value ∙ c.in_ok-l.ensures in
    let er = c.as_slice-6.ensures.value ∙ c.in_ok-r.ensures in
    let rows : (x : g.row.O-Out.Denot × List (ℕ × ℕ)) → Among x c.in_ok-rows.rows.items ↔ (length x.1 ≡ length c.args.types.now) × IsSliceRow (length c.args.types.now) f b (rows_from 0 (length c.args.left.now)) (rows_from (length c.args.left.now) (length c.args.right.now)) x.0 x.1 = λ x.
    subst (λ l. Among x c.in_ok-rows.rows.items ↔ (length x.1 ≡ length c.args.types.now) × IsSliceRow (length c.args.types.now) f b l (rows_from (length c.args.left.now) (length c.args.right.now)) x.0 x.1) el
    (subst (λ r. Among x c.in_ok-rows.rows.items ↔ (length x.1 ≡ length c.args.types.now) × IsSliceRow (length c.args.types.now) f b c.as_slice-5.result.now r x.0 x.1) er (c.in_ok-rows.ensures.rows x)) in
    ((rows x).0 m).0

pub returns-in_err-sides-clause-cost : goal.returns-in_err-sides-clause-cost
returns-in_err-sides-clause-cost g c = sides_bound (length c.args.left.now + length c.args.right.now) (length c.args.types.now) c.args.steps.now c.all_sides.new.steps c.in_err-sides.ensures.cost

pub returns-in_err-counts-clause-cost : goal.returns-in_err-counts-clause-cost
returns-in_err-counts-clause-cost g c = sides_bound (length c.args.left.now + length c.args.right.now) (length c.args.types.now) c.args.steps.now c.all_sides.new.steps c.in_ok-sides.ensures.cost

pub returns-in_err-boxes-clause-cost : goal.returns-in_err-boxes-clause-cost
returns-in_err-boxes-clause-cost g c = sides_bound (length c.args.left.now + length c.args.right.now) (length c.args.types.now) c.args.steps.now c.all_sides.new.steps c.in_ok-sides.ensures.cost

pub returns-in_err-l-clause-cost : goal.returns-in_err-l-clause-cost
returns-in_err-l-clause-cost g c = sides_bound (length c.args.left.now + length c.args.right.now) (length c.args.types.now) c.args.steps.now c.all_sides.new.steps c.in_ok-sides.ensures.cost

pub returns-in_err-r-clause-cost : goal.returns-in_err-r-clause-cost
returns-in_err-r-clause-cost g c = sides_bound (length c.args.left.now + length c.args.right.now) (length c.args.types.now) c.args.steps.now c.all_sides.new.steps c.in_ok-sides.ensures.cost

pub returns-in_err-rows-clause-cost : goal.returns-in_err-rows-clause-cost
returns-in_err-rows-clause-cost g c =
    let n : ℕ = length c.args.left.now + length c.args.right.now in
    let counts = c.as_slice-3.result.now in
    let e = c.as_slice-3.ensures.value ∙ c.in_ok-counts.ensures ∙ ap (map (λ s. length s.0)) c.as_slice.ensures.value in
    let few : All (λ m. m < suc (2 * n)) counts =
    All-same (λ m. m < suc (2 * n)) counts (map (λ s. length s.0) c.in_ok-sides.sides.items) e
    (All-map (λ m. m < suc (2 * n)) (λ s. length s.0) c.in_ok-sides.sides.items (few_cells g.T.PointType.number_of g.T.PointType.IsPoint g.T.PointType.last_number (λ t. (g.met.T.PointType.each t (g.T.PointType.first_number t) (omega (arith, ints)) (g.met.T.PointType.nonempty t)).0) c.args.types.now c.in_ok-sides.sides.items c.args.left.now c.args.right.now c.in_ok-sides.ensures.length c.in_ok-sides.ensures.sides (suc (2 * n)) (omega arith))) in
    let left : length c.as_slice-5.result.now ≡ length c.args.left.now = ap length (c.as_slice-5.ensures.value ∙ c.in_ok-l.ensures) ∙ length_rows_from 0 (length c.args.left.now) in
    let right : length c.as_slice-6.result.now ≡ length c.args.right.now = ap length (c.as_slice-6.ensures.value ∙ c.in_ok-r.ensures) ∙ length_rows_from (length c.args.left.now) (length c.args.right.now) in
    whole_bound n (length c.args.types.now) c.args.steps.now c.all_sides.new.steps c.slices.new.steps (volume (length c.args.types.now) counts) c.in_ok-sides.ensures.cost c.in_err-rows.ensures.cost
    (λ z. c.in_err-rows.ensures.idle (omega arith) (omega arith)) (volume_within (2 * n) (length c.args.types.now) counts (counts_within (2 * n) counts few))

pub returns-clause-cost : goal.returns-clause-cost
returns-clause-cost g c =
    let n : ℕ = length c.args.left.now + length c.args.right.now in
    let counts = c.as_slice-3.result.now in
    let e = c.as_slice-3.ensures.value ∙ c.in_ok-counts.ensures ∙ ap (map (λ s. length s.0)) c.as_slice.ensures.value in
    let few : All (λ m. m < suc (2 * n)) counts =
    All-same (λ m. m < suc (2 * n)) counts (map (λ s. length s.0) c.in_ok-sides.sides.items) e
    (All-map (λ m. m < suc (2 * n)) (λ s. length s.0) c.in_ok-sides.sides.items (few_cells g.T.PointType.number_of g.T.PointType.IsPoint g.T.PointType.last_number (λ t. (g.met.T.PointType.each t (g.T.PointType.first_number t) (omega (arith, ints)) (g.met.T.PointType.nonempty t)).0) c.args.types.now c.in_ok-sides.sides.items c.args.left.now c.args.right.now c.in_ok-sides.ensures.length c.in_ok-sides.ensures.sides (suc (2 * n)) (omega arith))) in
    let left : length c.as_slice-5.result.now ≡ length c.args.left.now = ap length (c.as_slice-5.ensures.value ∙ c.in_ok-l.ensures) ∙ length_rows_from 0 (length c.args.left.now) in
    let right : length c.as_slice-6.result.now ≡ length c.args.right.now = ap length (c.as_slice-6.ensures.value ∙ c.in_ok-r.ensures) ∙ length_rows_from (length c.args.left.now) (length c.args.right.now) in
    whole_bound n (length c.args.types.now) c.args.steps.now c.all_sides.new.steps c.slices.new.steps (volume (length c.args.types.now) counts) c.in_ok-sides.ensures.cost c.in_ok-rows.ensures.cost
    (λ z. c.in_ok-rows.ensures.idle (omega arith) (omega arith)) (volume_within (2 * n) (length c.args.types.now) counts (counts_within (2 * n) counts few))
