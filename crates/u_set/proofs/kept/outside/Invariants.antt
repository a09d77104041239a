use Rattle.std.proofs.Common.{◌≡◌, ◌++◌, drop}
use Rattle.u_set.specs.Apart.{outside_from, outside}
use Rattle.u_set.proofs.kept.outside.Given as goal

abbrev pub invariant-loop-i : goal.invariant-loop-i
invariant-loop-i l = l.list.items ++ outside_from l.i l.commalist (drop l.i l.heading) ≡ outside l.commalist l.heading
