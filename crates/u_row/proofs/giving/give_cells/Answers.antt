use Rattle.std.proofs.Common.{◌≡◌, ◌⊎◌, ◌++◌, ◌∷◌, List, [], Err, Some, length, rules, refl, map, inl, inr, sym, ap, ◌∙◌, subst}
use Rattle.std.proofs.lemmas.Iterator.Adapters.{YieldsList-from_vec}
use Rattle.std.proofs.lemmas.Iterator.Consumers.{YieldsList-turn, YieldsList-end}
use Rattle.std.proofs.lemmas.List.{map-id}
use Rattle.interval_core.specs.Members.{Span}
use Rattle.cell_packing.specs.Covering.{Among}
use Rattle.cell_packing.specs.Packed.{firsts}
use Rattle.cell_packing.proofs.AmongLemmas.{among_append}
use Rattle.point_core.specs.LeastFault.{IsLeast}
use Rattle.cell_core.specs.Boxes.{IsBox}
use Rattle.cell_core.specs.Cells.{box_numbers, boxes_of, row_numbers}
use Rattle.cell_core.proofs.BackLemmas.{among_get}
use Rattle.u_row.specs.Rules.{labelled}
use Rattle.u_row.proofs.GivingLemmas.{rows_step, least_step, boxes_step}
use Rattle.u_row.proofs.giving.give_cells.Goals as goal

pub give_cell-requires-clause-cell : goal.give_cell-requires-clause-cell
give_cell-requires-clause-cell g c =
    let xs = c.args.cells.items in
    let t = YieldsList-turn (YieldsList-from_vec {s = c.into_iter-cell-iterator.result} xs (search rules) (search rules)) c.loop-cell.yielded c.loop-cell.cell-iterator c.loop-cell.yielded_by c.next.result c.next.new.self c.in-Some.cell c.in-Some.is c.next.ensures.steps in
    c.requires.cells c.in-Some.cell (subst (λ x. Among x xs) (sym t.1) (among_get xs (length c.loop-cell.yielded) c.in-Some.cell t.0))

pub give_cell-requires-clause-points : goal.give_cell-requires-clause-points
give_cell-requires-clause-points g c =
    let xs = c.args.cells.items in
    let t = YieldsList-turn (YieldsList-from_vec {s = c.into_iter-cell-iterator.result} xs (search rules) (search rules)) c.loop-cell.yielded c.loop-cell.cell-iterator c.loop-cell.yielded_by c.next.result c.next.new.self c.in-Some.cell c.in-Some.is c.next.ensures.steps in
    c.requires.points c.in-Some.cell (subst (λ x. Among x xs) (sym t.1) (among_get xs (length c.loop-cell.yielded) c.in-Some.cell t.0))

pub loop-cell-preserved : goal.loop-cell-preserved
loop-cell-preserved g c =
    let n = g.T.PointType.number_of in
    let f = g.R.RowRule.means c.args.rule.now c.args.row in
    let cells = c.loop-cell.yielded in
    let cell = c.in-Some.cell in
    record {
      can = tt;
      ends = tt;
      rows = rows_step n cells cell f c.args.out.now.items c.loop-cell.out.items c.give_cell.new.out.items c.in_ok-give_cell.ensures.boxes c.loop-cell.invariant.rows;
      least = least_step n cells cell f c.args.least.now c.loop-cell.least c.give_cell.new.least c.loop-cell.invariant.least c.in_ok-give_cell.ensures.least;
      boxes = λ types have old.
          boxes_step (IsBox g.T.PointType.IsPoint types) c.loop-cell.out.items c.give_cell.new.out.items (f (firsts (box_numbers n cell))) cell c.in_ok-give_cell.ensures.boxes
          (have cell ((among_append cell cells (cell ∷ [])).1 (inr (inl refl))))
          (c.loop-cell.invariant.boxes types (λ s m. have s ((among_append s cells (cell ∷ [])).1 (inl m))) old);
    }

pub returns-clause-rows : goal.returns-clause-rows
returns-clause-rows g c =
    let n = g.T.PointType.number_of in
    let f = g.R.RowRule.means c.args.rule.now c.args.row in
    let t = YieldsList-end (YieldsList-from_vec {s = c.into_iter-cell-iterator.result} c.args.cells.items (search rules) (search rules)) c.loop-cell.yielded c.loop-cell.cell-iterator c.loop-cell.yielded_by c.next.result c.next.new.self c.in-None.is c.next.ensures.steps in
    c.loop-cell.invariant.rows ∙ ap (λ xs. map (row_numbers n) c.args.out.now.items ++ labelled f (boxes_of n xs)) (sym (map-id c.loop-cell.yielded) ∙ t.0)

pub returns-clause-least : goal.returns-clause-least
returns-clause-least g c =
    let f = g.R.RowRule.means c.args.rule.now c.args.row in
    let t = YieldsList-end (YieldsList-from_vec {s = c.into_iter-cell-iterator.result} c.args.cells.items (search rules) (search rules)) c.loop-cell.yielded c.loop-cell.cell-iterator c.loop-cell.yielded_by c.next.result c.next.new.self c.in-None.is c.next.ensures.steps in
    subst (λ xs. IsLeast (λ e. (c.args.least.now ≡ Some e) ⊎ ((x : List Span) × Among x (boxes_of g.T.PointType.number_of xs) × (f (firsts x) ≡ Err e))) c.loop-cell.least)
    (sym (map-id c.loop-cell.yielded) ∙ t.0) c.loop-cell.invariant.least

pub returns-clause-boxes : goal.returns-clause-boxes
returns-clause-boxes g c = λ types have old.
    let t = YieldsList-end (YieldsList-from_vec {s = c.into_iter-cell-iterator.result} c.args.cells.items (search rules) (search rules)) c.loop-cell.yielded c.loop-cell.cell-iterator c.loop-cell.yielded_by c.next.result c.next.new.self c.in-None.is c.next.ensures.steps in
    c.loop-cell.invariant.boxes types (λ s m. have s (subst (λ xs. Among s xs) (sym (map-id c.loop-cell.yielded) ∙ t.0) m)) old
