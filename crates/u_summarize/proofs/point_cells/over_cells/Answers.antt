use Rattle.std.proofs.Common.{◌≡◌, rules, ◌++◌, ◌∷◌, [], map, length, subst, sym, ap, ◌∙◌}
use Rattle.std.proofs.lemmas.Iterator.Adapters.{YieldsList-from_vec}
use Rattle.std.proofs.lemmas.Iterator.Consumers.{YieldsList-turn}
use Rattle.std.proofs.lemmas.List.Elements.{All-same, All-push}
use Rattle.cell_core.specs.Boxes.{IsBox}
use Rattle.cell_core.specs.Cells.{box_numbers, grid_row, row_numbers}
use Rattle.cell_core.proofs.BackLemmas.{map_push}
use Rattle.value_core.specs.Values.{Row}
use Rattle.cell_boxes.specs.Rows.{PlainCellBox}
use Rattle.cell_boxes.proofs.RowLemmas.{row_all}
use Rattle.u_summarize.specs.PointCells.{LiesIn, counted_from}
use Rattle.u_summarize.proofs.point_cells.over_cells.Goals as goal

pub cells_of-requires-clause-sides : goal.cells_of-requires-clause-sides
cells_of-requires-clause-sides g c =
    let xs = c.args.rows.items in
    let t = YieldsList-turn (YieldsList-from_vec {s = c.into_iter-row-iterator.result} xs (search rules) (search rules)) c.loop-row.yielded c.loop-row.row-iterator c.loop-row.yielded_by c.next.result c.next.new.self c.in-Some.row c.in-Some.is c.next.ensures.steps in
    subst (IsBox g.T.PointType.IsPoint (c.args.t.now ∷ [])) (sym (ap (λ x. x.1) c.row.view_is))
    (row_all (λ b. IsBox g.T.PointType.IsPoint (c.args.t.now ∷ []) b.1) xs c.requires.boxes (length c.loop-row.yielded) c.in-Some.row (t.0, sym t.1))

pub cells_of-requires-clause-within : goal.cells_of-requires-clause-within
cells_of-requires-clause-within g c =
    let xs = c.args.rows.items in
    let n = g.T.PointType.number_of in
    let t = YieldsList-turn (YieldsList-from_vec {s = c.into_iter-row-iterator.result} xs (search rules) (search rules)) c.loop-row.yielded c.loop-row.row-iterator c.loop-row.yielded_by c.next.result c.next.new.self c.in-Some.row c.in-Some.is c.next.ensures.steps in
    subst (λ s. LiesIn c.args.all (box_numbers n s)) (sym (ap (λ x. x.1) c.row.view_is))
    (row_all (λ b. LiesIn c.args.all (box_numbers n b.1)) xs c.requires.within (length c.loop-row.yielded) c.in-Some.row (t.0, sym t.1))

pub loop-row-preserved : goal.loop-row-preserved
loop-row-preserved g c =
    let n = g.T.PointType.number_of in
    let push = c.in_ok-push.ensures.items in
    let out = c.loop-row.out.items in
    let made : PlainCellBox Row = (c.row.inside.label, c.in_ok-cells.cells.items) in
    let label = ap (λ x. x.0) c.row.view_is in
    let box = c.in_ok-cells.ensures.numbers ∙ ap (λ x. box_numbers n x.1) c.row.view_is in
    record {
      can = tt;
      ends = tt;
      rows = ap (map (grid_row (counted_from c.args.all.0))) push ∙ map_push (grid_row (counted_from c.args.all.0)) (row_numbers n) out c.loop-row.yielded made c.in-Some.row c.loop-row.invariant.rows (λ t. (label t, box t));
      one = All-same (λ x. length x.1 ≡ 1) c.push.new.self.items (out ++ made ∷ []) push (All-push (λ x. length x.1 ≡ 1) out made c.loop-row.invariant.one c.in_ok-cells.ensures.one);
    }
