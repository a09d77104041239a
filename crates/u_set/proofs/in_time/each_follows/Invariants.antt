use Rattle.std.proofs.Common.{◌<◌, ℕ, suc, get_or}
use Rattle.value_core.specs.Values.{Row}
use Rattle.u_set.specs.Apart.{FollowsIn}
use Rattle.u_set.proofs.in_time.each_follows.Given as goal

abbrev pub invariant-loop-i : goal.invariant-loop-i
invariant-loop-i l = (j : ℕ) (d : Row) → suc j < l.i → FollowsIn l.key l.label l.at (get_or l.rows j d) (get_or l.rows (suc j) d)
