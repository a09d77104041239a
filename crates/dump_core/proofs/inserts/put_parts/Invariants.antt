use Rattle.std.proofs.Common.{length}
use Rattle.dump_core.proofs.InsertLemmas.{PartsLeft}
use Rattle.dump_core.proofs.inserts.put_parts.Given as goal

abbrev pub invariant-part : goal.invariant-part
invariant-part l = PartsLeft l.types l.name l.value l.size l.fn.draft l.draft l.rest

abbrev pub decreases-part : goal.decreases-part
decreases-part l = length l.rest
