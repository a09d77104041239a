use Rattle.log_turns.proofs.StandingLemmas.{one_more}
use Rattle.log_turns.proofs.standing.standing_rows.Goals as goal

pub loop-row-preserved : goal.loop-row-preserved
loop-row-preserved c =
    one_more c.args.side c.args.rows.now c.loop-row.list.items c.add_standing.new.list.items c.loop-row.row-index c.row-item.result c.loop-row-test.true c.row-item.is c.loop-row.invariant c.in_ok-add_standing.ensures
