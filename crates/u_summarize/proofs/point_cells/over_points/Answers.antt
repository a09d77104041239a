use Rattle.std.proofs.Common.{◌≡◌, ◌≤ℤ◌, pos, ◌+ℤ◌, rules, map, length, get_or, sym}
use Rattle.std.proofs.lemmas.Iterator.Adapters.{YieldsList-from_vec}
use Rattle.std.proofs.lemmas.Iterator.Consumers.{YieldsList-turn}
use Rattle.cell_packing.specs.Packed.{no_cells}
use Rattle.cell_core.specs.Cells.{grid_row, row_numbers}
use Rattle.cell_boxes.proofs.RowLemmas.{row_all}
use Rattle.u_summarize.specs.PointCells.{counted_from}
use Rattle.u_summarize.proofs.PointCellLemmas.{more_boxes}
use Rattle.u_summarize.proofs.point_cells.over_points.Goals as goal

pub push_box-requires-clause-one : goal.push_box-requires-clause-one
push_box-requires-clause-one g c =
    let xs = c.args.rows.items in
    let t = YieldsList-turn (YieldsList-from_vec {s = c.into_iter-row-iterator.result} xs (search rules) (search rules)) c.loop-row.yielded c.loop-row.row-iterator c.loop-row.yielded_by c.next.result c.next.new.self c.in-Some.row c.in-Some.is c.next.ensures.steps in
    row_all (λ x. length x.1 ≡ 1) xs c.requires.one (length c.loop-row.yielded) c.in-Some.row (t.0, sym t.1)

pub push_box-requires-clause-within : goal.push_box-requires-clause-within
push_box-requires-clause-within g c =
    let xs = c.args.rows.items in
    let t = YieldsList-turn (YieldsList-from_vec {s = c.into_iter-row-iterator.result} xs (search rules) (search rules)) c.loop-row.yielded c.loop-row.row-iterator c.loop-row.yielded_by c.next.result c.next.new.self c.in-Some.row c.in-Some.is c.next.ensures.steps in
    row_all (λ x. (c.args.all.0 +ℤ pos (get_or x.1 0 no_cells).1) ≤ℤ (c.args.all.1 +ℤ pos 1)) xs c.requires.within (length c.loop-row.yielded) c.in-Some.row (t.0, sym t.1)

pub loop-row-preserved : goal.loop-row-preserved
loop-row-preserved g c =
    let n = g.T.PointType.number_of in
    record {
      can = tt;
      ends = tt;
      rows = more_boxes (grid_row (counted_from c.args.all.0)) c.loop-row.yielded c.in-Some.row (map (row_numbers n) c.loop-row.out.items) (map (row_numbers n) c.push_box.new.out.items) c.loop-row.invariant.rows c.in_ok-push_box.ensures.rows;
      boxes = c.in_ok-push_box.ensures.boxes c.loop-row.invariant.boxes;
    }
