use Rattle.std.proofs.Common.{◌≡◌, take, map}
use Rattle.value_core.specs.Plain.{plain}
use Rattle.relation_core.specs.Agreement.{part_of}
use Rattle.u_set.proofs.labels.part_of_label.Given as goal

abbrev pub invariant-loop-position : goal.invariant-loop-position
invariant-loop-position l = map plain l.values.items ≡ part_of (take l.position-index l.positions) (map plain l.all)
