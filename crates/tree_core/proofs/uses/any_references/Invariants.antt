use Rattle.std.proofs.Common.{◌≡◌, drop, map}
use Rattle.std.specs.List.{list_any}
use Rattle.tree_core.specs.Uses.{is_one_of, references_any}
use Rattle.tree_core.proofs.uses.any_references.Given as goal

abbrev pub invariant-loop-constraint : goal.invariant-loop-constraint
invariant-loop-constraint l =
    list_any (references_any (is_one_of (map (λ n. n.now) l.names))) (drop l.constraint-index l.constraints)
    ≡ list_any (references_any (is_one_of (map (λ n. n.now) l.names))) l.constraints
