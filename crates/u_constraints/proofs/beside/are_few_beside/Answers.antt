use Rattle.std.proofs.Common.{sym, subst}
use Rattle.value_core.specs.Values.{Row}
use Rattle.u_set.specs.Apart.{HasInterval}
use Rattle.u_constraints.proofs.beside.are_few_beside.Goals as goal

pub is_beside-requires : goal.is_beside-requires
is_beside-requires c = subst (λ (x : Row). HasInterval c.args.at x) (sym c.row-item.is) (c.requires c.loop-row.row-index c.row-item.result c.loop-row-test.true)
