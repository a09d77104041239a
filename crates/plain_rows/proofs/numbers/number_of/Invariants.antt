use Rattle.std.proofs.Common.{◌≡◌, take}
use Rattle.utd_syntax.specs.Literals.{value_of}
use Rattle.plain_rows.proofs.numbers.number_of.Given as goal

abbrev pub invariant-loop-digit : goal.invariant-loop-digit
invariant-loop-digit l = l.number ≡ value_of (take l.digit-index l.digits)
