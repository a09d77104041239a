use Rattle.std.proofs.Common.{◌≡◌, ◌++◌, map, take}
use Rattle.dump_core.specs.Inserts.{listed, tuple_script}
use Rattle.dump_core.proofs.tuples.put_tuples.Given as goal

abbrev pub invariant-loop-at : goal.invariant-loop-at
invariant-loop-at l = l.out.items ≡ l.fn.out.items ++ listed (take l.at (map (tuple_script l.types l.attributes) l.rows))
