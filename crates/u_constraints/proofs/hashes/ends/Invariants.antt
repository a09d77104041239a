use Rattle.std.proofs.Common.{◌≡◌, map, take}
use Rattle.u_constraints.specs.Hashes.{end_hash}
use Rattle.u_constraints.proofs.hashes.ends.Given as goal

abbrev pub invariant-loop-row : goal.invariant-loop-row
invariant-loop-row l = l.out.items ≡ map (end_hash l.positions l.at) (take l.row-index l.rows)
