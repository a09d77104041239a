use Rattle.std.proofs.Common.{◌≡◌, take}
use Rattle.relation_core.specs.Operators.{subtracted}
use Rattle.relation_core.proofs.growth.rows_absent.Given as goal

abbrev pub invariant-loop-row : goal.invariant-loop-row
invariant-loop-row l = l.rows.items ≡ subtracted (take l.row-index l.given) l.many.rows
