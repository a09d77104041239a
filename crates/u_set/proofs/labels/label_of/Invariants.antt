use Rattle.std.proofs.Common.{◌≡◌, ◌++◌, map, drop}
use Rattle.value_core.specs.Plain.{plain}
use Rattle.u_set.specs.Boxes.{others_from, others}
use Rattle.u_set.proofs.labels.label_of.Given as goal

abbrev pub invariant-loop-i : goal.invariant-loop-i
invariant-loop-i l = map plain l.label.items ++ others_from l.i l.commalist (map plain (drop l.i l.values)) ≡ others l.commalist (map plain l.values)
