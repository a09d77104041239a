use Rattle.std.proofs.Common.{◌≡◌, drop}
use Rattle.std.specs.Str.{bytes_eq}
use Rattle.value_core.specs.declared.list.OrdinalNames.{OrdinalNames}
use Rattle.scalar_typing.specs.Names.{first_from}
use Rattle.plain_rows.proofs.ordinals.ordinal_of.Given as goal

abbrev pub invariant-loop-at : goal.invariant-loop-at
invariant-loop-at l = first_from (λ (o : OrdinalNames). bytes_eq o.name l.name) l.at (drop l.at l.fn.types) ≡ first_from (λ (o : OrdinalNames). bytes_eq o.name l.name) 0 l.fn.types
