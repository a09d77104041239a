use Rattle.std.proofs.Common.{◌≡◌, ◌++◌, take}
use Rattle.log_times.specs.Turns.{begun}
use Rattle.log_times.proofs.lists.add_begun.Given as goal

abbrev pub invariant-loop-row : goal.invariant-loop-row
invariant-loop-row l = l.list.items ≡ l.fn.list.items ++ begun l.side l.number (take l.row-index l.rows)
