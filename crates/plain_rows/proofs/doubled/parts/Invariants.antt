use Rattle.std.proofs.Common.{length}
use Rattle.std.specs.String.{string_bytes}
use Rattle.plain_rows.proofs.DoubledLemmas.{TextSoFar}
use Rattle.plain_rows.proofs.doubled.parts.Given as goal

abbrev pub invariant-parts : goal.invariant-parts
invariant-parts l = TextSoFar l.body (string_bytes l.written) l.rest

abbrev pub decreases-parts : goal.decreases-parts
decreases-parts l = length l.rest
