use Rattle.std.specs.List.{All}
use Rattle.assign_core.specs.Hashed.{IsHashesOf}
use Rattle.assign_core.proofs.filling.fill_value.Given as goal

abbrev pub invariant-loop-constraint : goal.invariant-loop-constraint
invariant-loop-constraint l = All (IsHashesOf l.value.heading l.value.rows) l.hashes.items
