use Rattle.cell_boxes.proofs.JoinLemmas.{left_below, right_below, pair_grid_points, pair_sides, pair_ends}
use Rattle.cell_boxes.proofs.joining.joined.Goals as goal

pub with_pair_labels-requires-clause-left : goal.with_pair_labels-requires-clause-left
with_pair_labels-requires-clause-left g c = left_below g.K.Label.order g.met.K.Label.total g.met.K.Label.separates c.args.left.now c.args.right.now c.args.sides c.requires.left c.requires.right c.in_ok-meetings.meetings.items c.in_ok-meetings.ensures.members c.args.lefts.now c.requires.lefts

pub with_pair_labels-requires-clause-right : goal.with_pair_labels-requires-clause-right
with_pair_labels-requires-clause-right g c = right_below g.K.Label.order g.met.K.Label.total g.met.K.Label.separates c.args.left.now c.args.right.now c.args.sides c.requires.left c.requires.right c.in_ok-meetings.meetings.items c.in_ok-meetings.ensures.members c.args.rights.now c.requires.rights

pub returns-clause-grid_points : goal.returns-clause-grid_points
returns-clause-grid_points g c = pair_grid_points g.K.Label.order g.met.K.Label.total g.met.K.Label.separates c.args.left.now c.args.right.now c.args.sides c.requires.left c.requires.right c.in_ok-meetings.meetings.items c.in_ok-meetings.ensures.members
    (g.O.PairRule.means c.args.rule.now) c.args.lefts.now c.args.rights.now c.in_ok-out.out.items c.in_ok-out.ensures

pub returns-clause-lengths : goal.returns-clause-lengths
returns-clause-lengths g c = pair_sides g.K.Label.order g.met.K.Label.total g.met.K.Label.separates c.args.left.now c.args.right.now c.args.sides c.requires.left c.requires.right c.in_ok-meetings.meetings.items c.in_ok-meetings.ensures.members
    (g.O.PairRule.means c.args.rule.now) c.args.lefts.now c.args.rights.now c.in_ok-out.out.items c.in_ok-out.ensures

pub returns-clause-ends : goal.returns-clause-ends
returns-clause-ends g c = pair_ends g.K.Label.order g.met.K.Label.total g.met.K.Label.separates c.args.left.now c.args.right.now c.args.sides c.requires.left c.requires.right c.in_ok-meetings.meetings.items c.in_ok-meetings.ensures.members
    (g.O.PairRule.means c.args.rule.now) c.args.lefts.now c.args.rights.now c.in_ok-out.out.items c.in_ok-out.ensures
