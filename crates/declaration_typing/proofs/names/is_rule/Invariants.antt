use Rattle.std.proofs.Common.{◌≡◌, map}
use Rattle.std.specs.List.{list_any}
use Rattle.std.specs.Str.{bytes_eq}
use Rattle.tree_core.specs.Relvars.{read_rule}
use Rattle.tree_core.specs.Trees.{Test}
use Rattle.value_core.specs.Values.{Name}
use Rattle.declaration_typing.proofs.names.is_rule.Given as goal

abbrev pub invariant-loop-other : goal.invariant-loop-other
invariant-loop-other l =
    (goal.iterator-loop-other).can_next l.other-iterator ×
    (goal.iterator-loop-other).is_finite l.other-iterator ×
    (list_any (λ (r : Name × Test). bytes_eq l.name r.0) (map read_rule l.other-iterator) ≡ list_any (λ (r : Name × Test). bytes_eq l.name r.0) (map read_rule l.relvars.rules.entries))
