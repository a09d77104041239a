use Rattle.std.proofs.Common.{◌≡◌, ◌<◌, ◌++◌}
use Rattle.utd_gen.specs.Script.{tuples_text}
use Rattle.utd_gen.proofs.script.put_tuples.Given as goal

abbrev pub invariant-loop-number : goal.invariant-loop-number
invariant-loop-number l = (l.begin < l.number) × (l.out.items ≡ l.fn.out.items ++ tuples_text l.begin l.number)
