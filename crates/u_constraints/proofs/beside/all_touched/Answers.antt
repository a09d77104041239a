use Rattle.u_constraints.proofs.HullLemmas.{touched_beside}
use Rattle.u_constraints.proofs.beside.all_touched.Goals as goal

pub returns : goal.returns
returns c =
    (c.in_ok-touched.ensures.rows.0, touched_beside c.args.side.label.now c.args.side.at c.args.few.now.rows c.args.many.now.rows c.in_ok-touched.touched.rows c.in_ok-touched.ensures.rows.1)
