use Rattle.std.proofs.Common.{◌≡◌, true, take}
use Rattle.std.specs.List.{list_all, list_any}
use Rattle.u_constraints.specs.Prefixes.{begins_with}
use Rattle.u_constraints.proofs.search.are_prefixes.Given as goal

-- the lists so far are all found
abbrev pub invariant-loop-values : goal.invariant-loop-values
invariant-loop-values l = list_all (λ values. list_any (begins_with values) l.rows) (take l.values-index l.list) ≡ true
