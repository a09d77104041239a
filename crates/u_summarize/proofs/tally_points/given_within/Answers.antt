use Rattle.std.proofs.Common.{◌↔◌, map, sym, subst}
use Rattle.std.proofs.lemmas.List.Elements.{All-map}
use Rattle.cell_sweep.proofs.Turns.{least_iff}
use Rattle.cell_packing.specs.Boxed.{InBoxes}
use Rattle.cell_core.specs.Cells.{row_numbers}
use Rattle.u_summarize.specs.Asked.{HasCellFault}
use Rattle.u_summarize.specs.Groups.{HasGroupFault, InGroupRule}
use Rattle.u_summarize.specs.PointCells.{LiesIn}
use Rattle.u_summarize.proofs.PointCellLemmas.{cells_count, cells_labels, places, faults, ends_low}
use Rattle.u_summarize.proofs.tally_points.given_within.Goals as goal

pub given_at_cells-requires-clause-takes : goal.given_at_cells-requires-clause-takes
given_at_cells-requires-clause-takes g c =
    subst (λ m. g.G.GroupTally.Takes c.args.rule.now m) (sym (cells_count c.args.all.0 g.T.PointType.number_of c.in_ok-cells.cells.items c.args.rows.items c.in_ok-cells.ensures.rows)) c.requires.takes

pub given_at_cells-requires-clause-fits : goal.given_at_cells-requires-clause-fits
given_at_cells-requires-clause-fits g c =
    subst (λ ls. g.G.GroupTally.Fits c.args.rule.now c.args.by.now ls) (sym (cells_labels c.args.all.0 g.T.PointType.number_of c.in_ok-cells.cells.items c.args.rows.items c.in_ok-cells.ensures.rows)) c.requires.fits

pub over_points-requires-clause-within : goal.over_points-requires-clause-within
over_points-requires-clause-within g c =
    let n = g.T.PointType.number_of in
    ends_low c.args.all.0 c.in_ok-cells.cells.items c.in_ok-cells.ensures.one (map (row_numbers n) c.args.rows.items) c.in_ok-cells.ensures.rows c.args.all
    (All-map (λ b. LiesIn c.args.all b.1) (row_numbers n) c.args.rows.items c.requires.within) c.in_ok-parts.parts.items c.in_ok-parts.ensures.ends

pub returns-clause-places : goal.returns-clause-places
returns-clause-places g c =
    let n = g.T.PointType.number_of in
    let f = g.G.GroupTally.means c.args.rule.now in
    let by = c.args.by.now in
    λ l place. subst (λ bs. InBoxes bs l place ↔ InGroupRule f by (map (row_numbers n) c.args.rows.items) l place) (sym c.in_ok-boxes.ensures.rows)
    (places c.args.all.0 c.in_ok-cells.cells.items c.in_ok-cells.ensures.one (map (row_numbers n) c.args.rows.items) c.in_ok-cells.ensures.rows c.in_ok-parts.parts.items c.in_ok-parts.ensures.lengths f by c.in_ok-parts.ensures.places l place)

pub returns-clause-least : goal.returns-clause-least
returns-clause-least g c =
    let n = g.T.PointType.number_of in
    let f = g.G.GroupTally.means c.args.rule.now in
    let by = c.args.by.now in
    let cells = c.in_ok-cells.cells.items in
    let numbers = map (row_numbers n) c.args.rows.items in
    least_iff (HasCellFault 1 f by cells) (HasGroupFault f by numbers) c.in_ok-parts.least (faults c.args.all.0 cells c.in_ok-cells.ensures.one numbers c.in_ok-cells.ensures.rows f by) c.in_ok-parts.ensures.least
