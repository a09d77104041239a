use Rattle.std.proofs.Common.{◌≡◌, ℕ, take}
use Rattle.std.specs.Prelude.{fold}
use Rattle.relation_core.specs.Hashes.{mixed}
use Rattle.relation_core.proofs.numbers.bytes_hash.Given as goal

abbrev pub invariant-loop-byte : goal.invariant-loop-byte
invariant-loop-byte l = l.hash ≡ fold (λ (hash : ℕ) (byte : ℕ). mixed hash byte) 0 (take l.byte-index l.bytes)
