use Rattle.std.specs.List.{IsFirstBest}
use Rattle.std.proofs.Common.{map}
use Rattle.value_core.specs.Plain.{plain}
use Rattle.u_summary.specs.Summaries.{is_before}
use Rattle.u_summary.proofs.extremes.greatest.Given as goal

abbrev pub invariant-loop-at : goal.invariant-loop-at
invariant-loop-at l = IsFirstBest (λ v w. is_before w v) (map plain l.values) l.at l.best
