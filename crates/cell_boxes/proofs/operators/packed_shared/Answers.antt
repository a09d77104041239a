use Rattle.cell_boxes.specs.Meetings.{IsShared}
use Rattle.cell_boxes.proofs.OperatorLemmas.{packed_rows, cover_of}
use Rattle.cell_boxes.proofs.operators.packed_shared.Goals as goal

pub returns-clause-rows : goal.returns-clause-rows
returns-clause-rows g c = packed_rows c.args.sides (IsShared c.args.left.now c.args.labels.now c.args.right.now) c.in_ok-parts.parts.items c.in_ok-out.out.items c.in_ok-parts.ensures.grid_points c.in_ok-out.ensures.rows

pub returns-clause-cover : goal.returns-clause-cover
returns-clause-cover g c = cover_of c.args.sides (IsShared c.args.left.now c.args.labels.now c.args.right.now) c.args.left.now c.in_ok-parts.parts.items c.in_ok-out.out.items c.in_ok-parts.ensures.lengths c.in_ok-parts.ensures.ends c.in_ok-parts.ensures.grid_points c.in_ok-out.ensures.rows
