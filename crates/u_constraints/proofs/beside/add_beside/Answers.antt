use Rattle.std.proofs.Common.{sym, subst}
use Rattle.value_core.specs.Values.{Row}
use Rattle.u_set.specs.Apart.{span_in, HasInterval}
use Rattle.u_constraints.specs.Beside.{are_beside}
use Rattle.u_constraints.proofs.FrontLemmas.{pushed_more}
use Rattle.u_constraints.proofs.beside.add_beside.Goals as goal

pub is_beside-requires : goal.is_beside-requires
is_beside-requires c = subst (λ (x : Row). HasInterval c.args.at x) (sym c.row-item.is) (c.requires c.loop-row.row-index c.row-item.result c.loop-row-test.true)

pub loop-row-preserved : goal.loop-row-preserved
loop-row-preserved c =
    pushed_more (λ x. are_beside (span_in c.args.at x) c.args.hull) c.args.rows.now.items c.args.more.now c.loop-row.row-index c.row-item.result c.is_beside.result c.loop-row.rows.items c.keep.new.rows.items
    c.loop-row-test.true c.row-item.is c.is_beside.ensures c.loop-row.invariant c.in_ok-keep.ensures
