use Rattle.std.proofs.Common.{◌≡◌, map, take}
use Rattle.u_constraints.specs.Hashes.{begin_hash}
use Rattle.u_constraints.proofs.hashes.begins.Given as goal

abbrev pub invariant-loop-row : goal.invariant-loop-row
invariant-loop-row l = l.out.items ≡ map (begin_hash l.positions l.at l.touching) (take l.row-index l.rows)
