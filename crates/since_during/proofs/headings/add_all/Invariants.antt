use Rattle.std.proofs.Common.{◌≡◌, ◌++◌, take}
use Rattle.since_during.proofs.headings.add_all.Given as goal

abbrev pub invariant-loop-attribute : goal.invariant-loop-attribute
invariant-loop-attribute l = l.list.items ≡ l.fn.list.items ++ take l.attribute-index l.attributes
