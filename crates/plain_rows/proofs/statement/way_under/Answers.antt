use Rattle.plain_rows.proofs.HeadLemmas.{listing}
use Rattle.plain_rows.proofs.statement.way_under.Goals as goal

pub returns-in-Ok : goal.returns-in-Ok
returns-in-Ok c = listing _ _ c.args.list.now c.in-Ok.ensures.checked c.in-Ok.ensures.positions
