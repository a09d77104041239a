use Rattle.std.proofs.Common.{◌<◌, ℕ, suc, get_or}
use Rattle.value_core.specs.Values.{Row}
use Rattle.u_set.specs.Apart.{IsBeyond}
use Rattle.u_set.specs.declared.apart.Gap.TheVariants.{One}
use Rattle.u_set.proofs.coalescing.stand_apart.Given as goal

abbrev pub invariant-loop-i : goal.invariant-loop-i
invariant-loop-i l = (j : ℕ) (d : Row) → suc j < l.i → IsBeyond l.label l.at One (get_or l.rows j d) (get_or l.rows (suc j) d)
