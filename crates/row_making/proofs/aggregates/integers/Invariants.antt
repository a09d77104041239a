use Rattle.std.proofs.Common.{◌≡◌, map, take}
use Rattle.value_core.specs.Plain.{plain}
use Rattle.scalar_core.specs.Operations.{number_of}
use Rattle.row_making.proofs.aggregates.integers.Given as goal

abbrev pub invariant-loop-value : goal.invariant-loop-value
invariant-loop-value l = l.list.items ≡ map number_of (map plain (take l.value-index l.values))
