use Rattle.cell_boxes.specs.Meetings.{IsPair}
use Rattle.cell_boxes.proofs.OperatorLemmas.{packed_rows, cover_of}
use Rattle.cell_boxes.proofs.joining.packed_joined.Goals as goal

pub returns-clause-rows : goal.returns-clause-rows
returns-clause-rows g c = packed_rows c.args.sides (IsPair (g.O.PairRule.means c.args.rule.now) c.args.left.now c.args.lefts.now c.args.right.now c.args.rights.now) c.in_ok-parts.parts.items c.in_ok-out.out.items c.in_ok-parts.ensures.grid_points c.in_ok-out.ensures.rows

pub returns-clause-cover : goal.returns-clause-cover
returns-clause-cover g c = cover_of c.args.sides (IsPair (g.O.PairRule.means c.args.rule.now) c.args.left.now c.args.lefts.now c.args.right.now c.args.rights.now) c.args.left.now c.in_ok-parts.parts.items c.in_ok-out.out.items c.in_ok-parts.ensures.lengths c.in_ok-parts.ensures.ends c.in_ok-parts.ensures.grid_points c.in_ok-out.ensures.rows
