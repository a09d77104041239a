use Rattle.std.proofs.Common.{subst, sym}
use Rattle.u_set.specs.Apart.{HasInterval}
use Rattle.u_join.proofs.standing.standing_rows.Goals as goal

pub with_ends-requires : goal.with_ends-requires
with_ends-requires c = subst (HasInterval c.args.at) (sym c.row-item.is) (c.requires c.loop-row.row-index c.row-item.result c.loop-row-test.true)
