-- The second test tells the whole once the first has passed.
use Rattle.std.proofs.Common.{arith}
use Rattle.std.proofs.lemmas.Int.{ints}
use Rattle.interval_core.proofs.comparisons.do_merge.Goals as goal

pub returns-then-is_at_most_next : goal.returns-then-is_at_most_next
returns-then-is_at_most_next c = (
  λ h. let a = c.is_at_most_next.ensures.0 c.if-is_at_most_next.true in let b = c.is_at_most_next-then-is_at_most_next.ensures.0 h in (omega (arith, ints), omega (arith, ints)),
  λ h. let b = h.1 in c.is_at_most_next-then-is_at_most_next.ensures.1 (omega (arith, ints)),
)
