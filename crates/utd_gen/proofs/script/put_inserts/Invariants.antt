use Rattle.std.proofs.Common.{◌≡◌, ◌++◌}
use Rattle.std.specs.List.{flat_map, range_with_len}
use Rattle.utd_gen.specs.Script.{thousand_line}
use Rattle.utd_gen.proofs.script.put_inserts.Given as goal

abbrev pub invariant-loop-thousand : goal.invariant-loop-thousand
invariant-loop-thousand l = l.out.items ≡ l.fn.out.items ++ flat_map (thousand_line l.n) (range_with_len 0 l.thousand)
