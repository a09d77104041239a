use Rattle.std.proofs.Common.{◌+◌, ◌*◌, ◌++◌, length, map}
use Rattle.cell_core.specs.Cells.{side_of}
use Rattle.cell_core.proofs.Gather.{by_first, length_rows}
use Rattle.cell_core.proofs.OneSide.{points_listed, grid_points_listed}
use Rattle.cell_core.proofs.row_sides.row_side.Goals as goal

pub side_by_ends-requires-clause-points : goal.side_by_ends-requires-clause-points
side_by_ends-requires-clause-points g c = λ i x h.
    let spans = map (side_of c.args.side (x.0, x.0)) (map (λ r. r.1) c.args.left.now ++ map (λ r. r.1) c.args.right.now) in
    points_listed g.T.PointType.number_of (g.T.PointType.IsPoint c.args.t.now) (g.T.PointType.last_number c.args.t.now) spans (length c.args.left.now + length c.args.right.now) c.in_ok-list.list.items (c.in_ok-list.ensures.ends (x.0, x.0)) i x h

pub side_by_ends-requires-clause-grid_points : goal.side_by_ends-requires-clause-grid_points
side_by_ends-requires-clause-grid_points g c = λ i x h.
    let spans = map (side_of c.args.side (x.0, x.0)) (map (λ r. r.1) c.args.left.now ++ map (λ r. r.1) c.args.right.now) in
    grid_points_listed g.T.PointType.number_of (g.T.PointType.IsPoint c.args.t.now) (g.T.PointType.last_number c.args.t.now) spans (length c.args.left.now + length c.args.right.now) c.in_ok-list.list.items (length_rows c.args.side (x.0, x.0) c.args.left.now c.args.right.now) (c.in_ok-list.ensures.ends (x.0, x.0)) i x h

pub side_by_ends-requires-clause-count : goal.side_by_ends-requires-clause-count
side_by_ends-requires-clause-count g c = by_first c.in_ok-list.list.items (2 * (length c.args.left.now + length c.args.right.now)) (λ d. (c.in_ok-list.ensures.ends d).count)

pub returns-clause-side : goal.returns-clause-side
returns-clause-side g c = λ d.
    c.in_ok-v.ensures.side (map (side_of c.args.side d) (map (λ r. r.1) c.args.left.now ++ map (λ r. r.1) c.args.right.now)) (length_rows c.args.side d c.args.left.now c.args.right.now) (c.in_ok-list.ensures.ends d)
