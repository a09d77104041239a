use Rattle.std.proofs.Common.{map, length}
use Rattle.value_core.specs.Plain.{plain}
use Rattle.plain_rows.proofs.MoreLemmas.{SoFar}
use Rattle.plain_rows.proofs.tuples.more_values.Given as goal

abbrev pub invariant-columns : goal.invariant-columns
invariant-columns l = SoFar l.fn.types l.fn.columns l.left l.text (plain l.fn.first) (map plain l.values.items) l.rest

abbrev pub decreases-columns : goal.decreases-columns
decreases-columns l = length l.left
