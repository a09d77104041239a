use Rattle.std.proofs.Common.{◌≡◌, ◌++◌, take}
use Rattle.log_times.specs.Turns.{lost}
use Rattle.log_times.proofs.lists.add_lost.Given as goal

abbrev pub invariant-loop-row : goal.invariant-loop-row
invariant-loop-row l = l.list.items ≡ l.fn.list.items ++ lost l.side l.gone (take l.row-index l.rows)
