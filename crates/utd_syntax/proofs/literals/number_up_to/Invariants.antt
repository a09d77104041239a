use Rattle.std.proofs.Common.{◌≡◌, ◌≤◌, drop}
use Rattle.utd_syntax.specs.Literals.{value_after, value_of}
use Rattle.utd_syntax.proofs.literals.number_up_to.Given as goal

abbrev pub invariant-loop-digit : goal.invariant-loop-digit
invariant-loop-digit l = (value_after l.value (drop l.digit-index l.digits) ≡ value_of l.digits) × (l.value ≤ l.most)
