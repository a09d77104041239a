use denote.Ref.{Bor}
use Rattle.std.proofs.Common.{◌≡◌, drop, map}
use Rattle.value_core.specs.Values.{Name}
use Rattle.tree_core.specs.Uses.{is_one_of}
use Rattle.tree_core.proofs.uses.is_one_of.Given as goal

abbrev pub invariant-loop-other : goal.invariant-loop-other
invariant-loop-other l = is_one_of (map (λ n. n.now) (drop l.other-index l.names)) l.name ≡ is_one_of (map (λ n. n.now) l.names) l.name
