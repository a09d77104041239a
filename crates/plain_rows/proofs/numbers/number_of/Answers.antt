use Rattle.std.proofs.Common.{arith}
use Rattle.plain_rows.proofs.NumberLemmas.{number-step}
use Rattle.plain_rows.proofs.numbers.number_of.Goals as goal

pub loop-digit-preserved : goal.loop-digit-preserved
loop-digit-preserved c = number-step c.args.digits.now c.loop-digit.digit-index c.loop-digit.number c.with_digit-number.result (omega arith) c.loop-digit.invariant c.with_digit-number.ensures
