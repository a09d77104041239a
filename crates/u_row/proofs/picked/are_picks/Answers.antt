use Rattle.u_row.proofs.PickLemmas.{tried_none}
use Rattle.u_row.proofs.picked.are_picks.Goals as goal

pub loop-at-init : goal.loop-at-init
loop-at-init c = tried_none c.args.positions.now c.args.count 0
