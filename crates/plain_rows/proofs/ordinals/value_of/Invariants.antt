use Rattle.std.proofs.Common.{◌≡◌, drop}
use Rattle.std.specs.Str.{bytes_eq}
use Rattle.scalar_typing.specs.Names.{first_from}
use Rattle.plain_rows.proofs.ordinals.value_of.Given as goal

abbrev pub invariant-loop-at : goal.invariant-loop-at
invariant-loop-at l = first_from (λ v. bytes_eq v l.name) l.at (drop l.at l.fn.values) ≡ first_from (λ v. bytes_eq v l.name) 0 l.fn.values
