use Rattle.std.proofs.Common.{rules, ◌++◌, ◌∷◌, [], map, length, subst, sym, ap, ◌∙◌}
use Rattle.std.proofs.lemmas.Iterator.Adapters.{YieldsList-from_vec}
use Rattle.std.proofs.lemmas.Iterator.Consumers.{YieldsList-turn}
use Rattle.std.proofs.lemmas.List.Elements.{All-same, All-push}
use Rattle.cell_packing.specs.Covering.{Among}
use Rattle.cell_core.specs.Boxes.{IsBox}
use Rattle.cell_core.specs.Cells.{grids_of, grid_row, row_numbers}
use Rattle.cell_core.proofs.BackLemmas.{among_get, map_push}
use Rattle.cell_core.proofs.whole.back.Goals as goal

pub row_of_cells-requires-clause-cells : goal.row_of_cells-requires-clause-cells
row_of_cells-requires-clause-cells g c =
    let xs = c.args.rows.items in
    let t = YieldsList-turn (YieldsList-from_vec {s = c.into_iter-row-iterator.result} xs (search rules) (search rules)) c.loop-row.yielded c.loop-row.row-iterator c.loop-row.yielded_by c.next.result c.next.new.self c.in-Some.row c.in-Some.is c.next.ensures.steps in
    c.requires.cells c.in-Some.row (subst (λ x. Among x xs) (sym t.1) (among_get xs (length c.loop-row.yielded) c.in-Some.row t.0))

pub row_of_cells-requires-clause-within : goal.row_of_cells-requires-clause-within
row_of_cells-requires-clause-within g c =
    let xs = c.args.rows.items in
    let t = YieldsList-turn (YieldsList-from_vec {s = c.into_iter-row-iterator.result} xs (search rules) (search rules)) c.loop-row.yielded c.loop-row.row-iterator c.loop-row.yielded_by c.next.result c.next.new.self c.in-Some.row c.in-Some.is c.next.ensures.steps in
    c.requires.within c.in-Some.row (subst (λ x. Among x xs) (sym t.1) (among_get xs (length c.loop-row.yielded) c.in-Some.row t.0))

pub loop-row-preserved : goal.loop-row-preserved
loop-row-preserved g c =
    let n = g.T.PointType.number_of in
    let push = c.in_ok-push.ensures.items in
    let out = c.loop-row.out.items in
    record {
      can = tt;
      ends = tt;
      rows = ap (map (row_numbers n)) push ∙ map_push (row_numbers n) (grid_row (grids_of n g.T.PointType.last_number c.args.types.now c.args.sides.now)) out c.loop-row.yielded c.in_ok-x.x c.in-Some.row c.loop-row.invariant.rows c.in_ok-x.ensures.row;
      boxes = All-same (λ x. IsBox g.T.PointType.IsPoint c.args.types.now x.1) c.push.new.self.items (out ++ c.in_ok-x.x ∷ []) push (All-push (λ x. IsBox g.T.PointType.IsPoint c.args.types.now x.1) out c.in_ok-x.x c.loop-row.invariant.boxes c.in_ok-x.ensures.sides);
    }
