use Rattle.std.proofs.Common.{◌≡◌, take}
use Rattle.u_constraints.specs.Near.{with_keys}
use Rattle.u_constraints.proofs.pass.rows_by_hashes.Given as goal

abbrev pub invariant-loop-at : goal.invariant-loop-at
invariant-loop-at l = l.rows.items ≡ with_keys l.hashes.positions l.keys (take l.at l.given)
