use Rattle.cell_boxes.proofs.SharedLemmas.{left_below, shared_grid_points, shared_sides, shared_ends}
use Rattle.cell_boxes.proofs.sharing.shared.Goals as goal

pub with_left_labels-requires : goal.with_left_labels-requires
with_left_labels-requires g c = left_below g.P.Label.order g.met.P.Label.total g.met.P.Label.separates c.args.left.now c.args.right.now c.args.sides c.requires.left c.requires.right c.in_ok-meetings.meetings.items c.in_ok-meetings.ensures.members c.args.labels.now c.requires.labels

pub returns-clause-grid_points : goal.returns-clause-grid_points
returns-clause-grid_points g c = shared_grid_points g.P.Label.order g.met.P.Label.total g.met.P.Label.separates c.args.left.now c.args.right.now c.args.sides c.requires.left c.requires.right c.in_ok-meetings.meetings.items c.in_ok-meetings.ensures.members c.args.labels.now c.in_ok-out.out.items c.in_ok-out.ensures

pub returns-clause-lengths : goal.returns-clause-lengths
returns-clause-lengths g c = shared_sides g.P.Label.order g.met.P.Label.total g.met.P.Label.separates c.args.left.now c.args.right.now c.args.sides c.requires.left c.requires.right c.in_ok-meetings.meetings.items c.in_ok-meetings.ensures.members c.args.labels.now c.in_ok-out.out.items c.in_ok-out.ensures

pub returns-clause-ends : goal.returns-clause-ends
returns-clause-ends g c = shared_ends g.P.Label.order g.met.P.Label.total g.met.P.Label.separates c.args.left.now c.args.right.now c.args.sides c.requires.left c.requires.right c.in_ok-meetings.meetings.items c.in_ok-meetings.ensures.members c.args.labels.now c.in_ok-out.out.items c.in_ok-out.ensures
