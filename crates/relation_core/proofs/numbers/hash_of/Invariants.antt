use Rattle.std.proofs.Common.{◌≡◌, take}
use Rattle.relation_core.specs.Hashes.{hash_of}
use Rattle.relation_core.proofs.numbers.hash_of.Given as goal

abbrev pub invariant-loop-position : goal.invariant-loop-position
invariant-loop-position l = l.hash ≡ hash_of (take l.position-index l.positions) l.row
