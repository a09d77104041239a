use Rattle.std.proofs.Common.{◌≡◌, take, drop}
use Rattle.value_core.specs.Headings.{repeat_after, first_repeat}
use Rattle.value_core.proofs.heading.first_repeat.Given as goal

abbrev pub invariant-loop-at : goal.invariant-loop-at
invariant-loop-at l = repeat_after (take l.at l.list) l.at (drop l.at l.list) ≡ first_repeat l.list
