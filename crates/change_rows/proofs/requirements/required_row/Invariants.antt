use Rattle.std.proofs.Common.{map, take}
use Rattle.value_core.specs.Plain.{plain}
use Rattle.scalar_core.specs.Expressions.{read}
use Rattle.change_rows.specs.Requirements.{AreRequired}
use Rattle.change_rows.proofs.requirements.required_row.Given as goal

abbrev pub invariant-loop-position : goal.invariant-loop-position
invariant-loop-position l = AreRequired (read l.g) (take l.position-index l.positions) (map plain l.values.items)
