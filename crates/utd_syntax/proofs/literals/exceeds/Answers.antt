use Rattle.utd_syntax.specs.Literals.{value_of}
use Rattle.utd_syntax.proofs.DigitLemmas.{none-where-exceeds}
use Rattle.utd_syntax.proofs.literals.exceeds.Goals as goal

pub returns : goal.returns
returns c = none-where-exceeds c.args.most (value_of c.args.digits.now) c.number_up_to.result c.is_none.result c.is_none.ensures c.number_up_to.ensures
