use Rattle.std.proofs.Common.{◌≡◌, map, take}
use Rattle.relation_core.specs.Hashes.{row_hash}
use Rattle.u_constraints.proofs.pass.key_hashes.Given as goal

abbrev pub invariant-loop-key : goal.invariant-loop-key
invariant-loop-key l = l.list.items ≡ map row_hash (take l.key-index l.keys)
