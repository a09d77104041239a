use Rattle.std.proofs.Common.{◌≡◌, take}
use Rattle.std.specs.List.{filter, flat_map}
use Rattle.u_set.specs.Apart.{span_in}
use Rattle.u_constraints.specs.Beside.{are_beside}
use Rattle.u_constraints.specs.Prefixes.{begins_with}
use Rattle.u_constraints.proofs.beside.beside_in_front.Given as goal

abbrev pub invariant-loop-values : goal.invariant-loop-values
invariant-loop-values l = l.rows.items ≡ filter (λ x. are_beside (span_in l.at x) l.hull) (flat_map (λ values. filter (begins_with values) l.r.rows) (take l.values-index l.list))
