use Rattle.std.proofs.Common.{◌≡◌, take}
use Rattle.u_constraints.specs.Beside.{beside_with_keys}
use Rattle.u_constraints.proofs.beside.beside_by_hashes.Given as goal

abbrev pub invariant-loop-i : goal.invariant-loop-i
invariant-loop-i l = l.rows.items ≡ beside_with_keys l.hashes.positions l.at l.hull l.keys (take l.i l.given)
