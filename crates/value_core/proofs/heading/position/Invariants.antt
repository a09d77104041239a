use Rattle.std.proofs.Common.{◌≡◌, ◌+◌, drop}
use Rattle.value_core.specs.Headings.{position_of}
use Rattle.value_core.proofs.heading.position.Given as goal

abbrev pub invariant-loop-at : goal.invariant-loop-at
invariant-loop-at l = position_of l.list l.name ≡ l.at + position_of (drop l.at l.list) l.name
