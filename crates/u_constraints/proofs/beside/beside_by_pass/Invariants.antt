use Rattle.std.proofs.Common.{◌≡◌, take}
use Rattle.u_constraints.specs.Beside.{beside_with_keys}
use Rattle.u_constraints.proofs.beside.beside_by_pass.Given as goal

abbrev pub invariant-loop-row : goal.invariant-loop-row
invariant-loop-row l = l.rows.items ≡ beside_with_keys l.side.label.now l.side.at l.hull l.keys (take l.row-index l.given)
