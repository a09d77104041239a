use Rattle.std.proofs.Common.{sym, subst}
use Rattle.value_core.specs.Values.{Row}
use Rattle.relation_core.proofs.HashLemmas.{row_long}
use Rattle.u_set.specs.Apart.{HasInterval}
use Rattle.u_constraints.proofs.CoverLemmas.{spans_held}
use Rattle.u_constraints.proofs.HullLemmas.{kept_more}
use Rattle.u_constraints.proofs.beside.beside_by_pass.Goals as goal

pub keep_beside-requires-clause-interval : goal.keep_beside-requires-clause-interval
keep_beside-requires-clause-interval c =
    let spans = spans_held c.args.many.now c.rows-given.ensures.relation c.args.side.at c.requires.interval c.rows-given.result.now c.rows-given.ensures.rows in
    subst (λ (x : Row). HasInterval c.args.side.at x) (sym c.row-item.is) (spans c.loop-row.row-index c.row-item.result c.loop-row-test.true)

pub keep_beside-requires-clause-within : goal.keep_beside-requires-clause-within
keep_beside-requires-clause-within c =
    row_long c.args.many.now c.rows-given.result.now c.loop-row.row-index c.row-item.result c.args.side.label.now c.rows-given.ensures.relation c.rows-given.ensures.rows c.loop-row-test.true c.row-item.is c.requires.within

pub loop-row-preserved : goal.loop-row-preserved
loop-row-preserved c =
    kept_more c.args.side.label.now c.args.side.at c.args.hull c.args.keys.now c.rows-given.result.now c.loop-row.row-index c.loop-row-test.true c.loop-row.rows.items c.keep_beside.new.rows.items c.loop-row.invariant
    c.row-item.result c.row-item.is c.in_ok-keep_beside.ensures
