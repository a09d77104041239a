-- A member is not before the begin and not after the end.
use Rattle.std.proofs.Common.{arith}
use Rattle.std.proofs.lemmas.Int.{ints}
use Rattle.interval_core.proofs.selector.numbers_of.Goals as goal

pub returns-then-begin-end-clause-within : goal.returns-then-begin-end-clause-within
returns-then-begin-end-clause-within c =
    let from = rw c.in_ok-begin.ensures.ok_part at c.first_member.ensures.from in
    let to = rw c.in_ok-end.ensures.ok_part at c.last_member.ensures.to in
    (omega (arith, ints), omega (arith, ints), omega (arith, ints))
