use Rattle.std.proofs.Common.{◌≡◌, ◌++◌, take}
use Rattle.utd_print.specs.Tables.{quotes_doubled}
use Rattle.utd_print.proofs.values.put_doubled.Given as goal

abbrev pub invariant-loop-byte : goal.invariant-loop-byte
invariant-loop-byte l = l.out.items ≡ l.fn.out.items ++ quotes_doubled (take l.byte-index l.text)
