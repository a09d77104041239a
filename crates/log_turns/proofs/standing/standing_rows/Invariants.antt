use Rattle.std.proofs.Common.{◌≡◌, map, filter, take}
use Rattle.log_times.specs.Logs.{unstamped, is_standing}
use Rattle.log_turns.proofs.standing.standing_rows.Given as goal

abbrev pub invariant-loop-row : goal.invariant-loop-row
invariant-loop-row l = l.list.items ≡ map (unstamped l.side) (filter (is_standing l.side) (take l.row-index l.rows))
