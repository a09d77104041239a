use Rattle.std.proofs.Common.{ℕ, List}
use Rattle.std.specs.List.{All}
use Rattle.u_constraints.specs.Covers.{IsRun}
use Rattle.u_constraints.proofs.runs.marked_runs.Given as goal

-- what is in the list is a run under any label
abbrev pub invariant-loop-row : goal.invariant-loop-row
invariant-loop-row l = (label : List ℕ) → All (λ r. IsRun label l.side.at l.rows r.row.now r.begin r.end) l.list.items
