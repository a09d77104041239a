use Rattle.std.proofs.Common.{◌≡◌, take}
use Rattle.log_times.proofs.headings.copies.Given as goal

abbrev pub invariant-loop-attribute : goal.invariant-loop-attribute
invariant-loop-attribute l = l.list.items ≡ take l.attribute-index l.attributes
