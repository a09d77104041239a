use Rattle.std.proofs.Common.{ℕ, List}
use Rattle.std.specs.List.{All}
use Rattle.value_core.specs.Values.{Row}
use Rattle.u_constraints.specs.Covers.{IsRun}
use Rattle.u_constraints.proofs.runs.joined.Given as goal

-- what is done is a run, and so is the one in hand
abbrev pub invariant-loop-next : goal.invariant-loop-next
invariant-loop-next l = (at : ℕ) (rows : List Row) → All (λ r. IsRun l.label at rows r.row.now r.begin r.end) l.runs
    → All (λ r. IsRun l.label at rows r.row.now r.begin r.end) l.done.items × IsRun l.label at rows l.run.row.now l.run.begin l.run.end
