use Rattle.std.proofs.Common.{take}
use Rattle.assign_core.specs.Differences.{AreFound}
use Rattle.assign_core.proofs.differences.only_place.Given as goal

abbrev pub invariant-loop-at : goal.invariant-loop-at
invariant-loop-at l = AreFound l.found (take l.at l.changes)
