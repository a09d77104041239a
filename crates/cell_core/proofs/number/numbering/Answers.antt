use Rattle.std.proofs.Common.{length, refl}
use Rattle.cell_core.proofs.OneSide.{points_listed, grid_points_listed}
use Rattle.cell_core.proofs.number.numbering.Goals as goal

pub side_by_ends-requires-clause-points : goal.side_by_ends-requires-clause-points
side_by_ends-requires-clause-points g c =
    points_listed g.T.PointType.number_of (g.T.PointType.IsPoint c.args.t.now) (g.T.PointType.last_number c.args.t.now) c.args.spans.now (length c.args.spans.now) c.in_ok-list.list.items c.in_ok-list.ensures.ends

pub side_by_ends-requires-clause-grid_points : goal.side_by_ends-requires-clause-grid_points
side_by_ends-requires-clause-grid_points g c =
    grid_points_listed g.T.PointType.number_of (g.T.PointType.IsPoint c.args.t.now) (g.T.PointType.last_number c.args.t.now) c.args.spans.now (length c.args.spans.now) c.in_ok-list.list.items refl c.in_ok-list.ensures.ends

pub side_by_ends-requires-clause-count : goal.side_by_ends-requires-clause-count
side_by_ends-requires-clause-count g c = c.in_ok-list.ensures.ends.count

pub returns-clause-side : goal.returns-clause-side
returns-clause-side g c = c.in_ok-side.ensures.side c.args.spans.now refl c.in_ok-list.ensures.ends
