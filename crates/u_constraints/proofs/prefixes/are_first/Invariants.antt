use Rattle.std.proofs.Common.{◌≡◌, drop}
use Rattle.u_constraints.specs.Prefixes.{counts_from}
use Rattle.u_constraints.proofs.prefixes.are_first.Given as goal

-- the positions that are left go on as all do
abbrev pub invariant-loop-at : goal.invariant-loop-at
invariant-loop-at l = counts_from l.at (drop l.at l.positions) ≡ counts_from 0 l.positions
