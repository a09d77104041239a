use Rattle.std.proofs.Common.{◌≡◌, take}
use Rattle.std.specs.List.{filter, flat_map}
use Rattle.u_constraints.specs.Prefixes.{begins_with}
use Rattle.u_constraints.proofs.search.rows_with_prefixes.Given as goal

abbrev pub invariant-loop-values : goal.invariant-loop-values
invariant-loop-values l = l.rows.items ≡ flat_map (λ values. filter (begins_with values) l.r.rows) (take l.values-index l.list)
