use Rattle.std.proofs.Common.{arith}
use Rattle.utd_syntax.proofs.DigitLemmas.{too-great}
use Rattle.utd_syntax.proofs.literals.number_up_to.Goals as goal

pub returns-then-value-from : goal.returns-then-value-from
returns-then-value-from c =
    let great = too-great c.args.most c.loop-digit.value c.args.digits.now c.loop-digit.digit-index c.loop-digit-test.true c.loop-digit.invariant.0 (omega arith) in
    rw great
