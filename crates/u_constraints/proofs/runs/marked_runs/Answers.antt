use Rattle.std.proofs.Common.{sym, subst}
use Rattle.value_core.specs.Values.{Row}
use Rattle.u_set.specs.Apart.{HasInterval}
use Rattle.u_constraints.proofs.CoverLemmas.{among_at}
use Rattle.u_constraints.proofs.runs.marked_runs.Goals as goal

pub add_marked-requires : goal.add_marked-requires
add_marked-requires c =
    subst (λ (x : Row). HasInterval c.args.side.at x) (sym c.row-item.is) (c.requires c.loop-row.row-index c.row-item.result c.loop-row-test.true)

pub loop-row-preserved : goal.loop-row-preserved
loop-row-preserved c label =
    c.in_ok-add_marked.ensures label c.args.rows.now (among_at c.args.rows.now c.loop-row.row-index c.row-item.result c.row-item.is c.loop-row-test.true) (c.loop-row.invariant label)
