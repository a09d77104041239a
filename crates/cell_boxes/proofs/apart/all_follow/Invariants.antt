use Rattle.cell_boxes.specs.Apartness.{AllFollow}
use Rattle.cell_boxes.proofs.apart.all_follow.Given as goal

abbrev pub invariant-loop-i : goal.invariant-loop-i
invariant-loop-i g l = AllFollow g.P.Label.order l.i l.rows
