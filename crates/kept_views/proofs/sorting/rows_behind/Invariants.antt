use Rattle.std.proofs.Common.{◌≡◌, take, map}
use Rattle.value_core.specs.Values.{Row}
use Rattle.kept_views.proofs.sorting.rows_behind.Given as goal

abbrev pub invariant-loop-entry : goal.invariant-loop-entry
invariant-loop-entry l = l.rows.items ≡ map (λ (entry : Row × Row). entry.1) (take l.entry-index l.entries)
