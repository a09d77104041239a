use Rattle.std.proofs.Common.{◌≡◌, ℕ, take, map}
use Rattle.value_core.specs.Values.{Row}
use Rattle.relation_core.proofs.keys.numbers_with.Given as goal

abbrev pub invariant-loop-entry : goal.invariant-loop-entry
invariant-loop-entry l = l.numbers.items ≡ map (λ (entry : Row × ℕ). entry.1) (take l.entry-index l.entries)
