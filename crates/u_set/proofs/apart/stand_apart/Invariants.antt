use Rattle.std.proofs.Common.{◌<◌, ℕ, suc, map, get_or}
use Rattle.value_core.specs.Values.{Row}
use Rattle.u_set.specs.Apart.{IsBeyond}
use Rattle.u_set.proofs.apart.stand_apart.Given as goal

abbrev pub invariant-loop-i : goal.invariant-loop-i
invariant-loop-i l = (j : ℕ) (d : Row) → suc j < l.i → IsBeyond l.label l.at l.gap (get_or (map (λ r. r.row.now) l.rows) j d) (get_or (map (λ r. r.row.now) l.rows) (suc j) d)
