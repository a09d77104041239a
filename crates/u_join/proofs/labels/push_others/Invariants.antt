use Rattle.std.proofs.Common.{◌≡◌, ◌++◌, map, drop}
use Rattle.value_core.specs.Plain.{plain}
use Rattle.u_set.specs.Boxes.{others_from, others}
use Rattle.u_join.proofs.labels.push_others.Given as goal

abbrev pub invariant-loop-i : goal.invariant-loop-i
invariant-loop-i l = map plain l.list.items ++ others_from l.i l.positions (map plain (drop l.i l.values)) ≡ map plain l.fn.list.items ++ others l.positions (map plain l.values)
