use Rattle.std.proofs.Common.{◌≡◌, ◌++◌, take}
use Rattle.std.specs.List.{filter}
use Rattle.u_set.specs.Apart.{span_in}
use Rattle.u_constraints.specs.Beside.{are_beside}
use Rattle.u_constraints.proofs.beside.add_beside.Given as goal

abbrev pub invariant-loop-row : goal.invariant-loop-row
invariant-loop-row l = l.rows.items ≡ l.fn.rows.items ++ filter (λ x. are_beside (span_in l.at x) l.hull) (take l.row-index l.more)
