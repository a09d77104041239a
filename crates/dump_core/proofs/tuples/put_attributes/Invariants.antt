use Rattle.std.proofs.Common.{◌≡◌, ◌++◌, map, take}
use Rattle.value_core.specs.Plain.{plain}
use Rattle.dump_core.specs.Inserts.{listed, attribute_scripts}
use Rattle.dump_core.proofs.tuples.put_attributes.Given as goal

abbrev pub invariant-loop-at : goal.invariant-loop-at
invariant-loop-at l = l.out.items ≡ l.fn.out.items ++ listed (take l.at (attribute_scripts l.types l.attributes (map plain l.values)))
