use Rattle.std.proofs.Common.{◌≡◌, ◌++◌, drop}
use Rattle.u_set.specs.Boxes.{others_from, others}
use Rattle.eval_using.proofs.spots.others_of.Given as goal

abbrev pub invariant-loop-i : goal.invariant-loop-i
invariant-loop-i l = l.kept.items ++ others_from l.i l.commalist (drop l.i l.list) ≡ others l.commalist l.list
