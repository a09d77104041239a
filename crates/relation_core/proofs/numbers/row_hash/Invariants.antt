use Rattle.std.proofs.Common.{◌≡◌, map, take}
use Rattle.value_core.specs.Plain.{plain}
use Rattle.relation_core.specs.Hashes.{row_hash}
use Rattle.relation_core.proofs.numbers.row_hash.Given as goal

abbrev pub invariant-loop-value : goal.invariant-loop-value
invariant-loop-value l = l.hash ≡ row_hash (map plain (take l.value-index l.values))
