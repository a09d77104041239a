use Rattle.std.proofs.Common.{ℕ, List, take}
use Rattle.std.specs.List.{All}
use Rattle.value_core.specs.Values.{Row}
use Rattle.relation_core.specs.Agreement.{part_of}
use Rattle.u_set.specs.Apart.{span_in}
use Rattle.u_constraints.specs.Covers.{IsCovered, IsRun}
use Rattle.u_constraints.proofs.runs.are_in_runs.Given as goal

-- the rows so far are covered
abbrev pub invariant-loop-row : goal.invariant-loop-row
invariant-loop-row l = (at : ℕ) (others : List Row) → All (λ r. IsRun l.theirs at others r.row.now r.begin r.end) l.runs
    → All (λ x. IsCovered l.theirs at others (part_of l.own.label.now x) (span_in l.own.at x)) (take l.row-index l.rows)
