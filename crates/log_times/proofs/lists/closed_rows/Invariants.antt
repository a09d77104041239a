use Rattle.std.proofs.Common.{◌≡◌, take}
use Rattle.log_times.specs.Logs.{closed}
use Rattle.log_times.proofs.lists.closed_rows.Given as goal

abbrev pub invariant-loop-row : goal.invariant-loop-row
invariant-loop-row l = l.list.items ≡ closed l.side l.number (take l.row-index l.rows)
