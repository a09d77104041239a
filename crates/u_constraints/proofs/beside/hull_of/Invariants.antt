use Rattle.std.proofs.Common.{take}
use Rattle.std.specs.List.{All}
use Rattle.u_constraints.specs.Beside.{LiesWithin}
use Rattle.u_constraints.proofs.beside.hull_of.Given as goal

-- the rows so far lie within
abbrev pub invariant-loop-row : goal.invariant-loop-row
invariant-loop-row l = All (LiesWithin l.at l.hull) (take l.row-index l.rows)
