use Rattle.plain_rows.proofs.IntervalLemmas.{integer-point, integer-fits}
use Rattle.plain_rows.proofs.points.integer_point.Goals as goal

pub returns-clause-begins : goal.returns-clause-begins
returns-clause-begins c types = integer-point _ _ _ _ (integer-fits c.args.text.now c.in_ok-n.n c.in_ok-n.rest.now c.in_ok-n.ensures) c.in_ok-n.ensures
