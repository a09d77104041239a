use Rattle.point_core.specs.Points.{number}
use Rattle.scalar_core.specs.Expressions.{read}
use Rattle.cell_core.specs.Cells.{box_numbers}
use Rattle.eval_using.proofs.InPlaceLemmas.{own_interval, left_grid_points, left_least}
use Rattle.eval_using.proofs.in_place.keep_row.Goals as goal

pub returns-clause-places : goal.returns-clause-places
returns-clause-places c =
    let w = c.requires.can in
    let at = c.args.asked.at in
    let row = c.args.row.now in
    let e = read c.args.asked.c.now in
    let own = own_interval w.0 at e row w.1 in
    let old = c.args.out.now.items in
    left_grid_points at row own.0 own.1 e (box_numbers number c.in_ok-runs.runs.items) c.in_ok-runs.ensures.runs old c.push_rows.new.out.items
    c.in_ok-push_rows.ensures.rows

pub returns-clause-least : goal.returns-clause-least
returns-clause-least c =
    let w = c.requires.can in
    let e = read c.args.asked.c.now in
    let own = own_interval w.0 c.args.asked.at e c.args.row.now w.1 in
    left_least c.args.asked.at c.args.row.now own.0 own.1 e c.args.least.now c.runs_left.new.least c.in_ok-runs.ensures.least
