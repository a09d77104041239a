use Rattle.std.proofs.Common.{◌≡◌, map, drop}
use Rattle.tree_core.specs.Relvars.{read_relvars}
use Rattle.assign_core.specs.Leanings.{affected, affected_from}
use Rattle.assign_core.proofs.rules.affected.Given as goal

abbrev pub invariant-loop-at : goal.invariant-loop-at
invariant-loop-at l =
    affected_from l.ready l.at (map (λ n. n.now) l.names.items) (drop l.at (read_relvars l.relvars).relvars) ≡ affected l.ready (read_relvars l.relvars).relvars
