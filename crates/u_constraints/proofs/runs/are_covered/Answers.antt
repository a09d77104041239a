use Rattle.u_constraints.proofs.CoverLemmas.{spans_held}
use Rattle.u_constraints.proofs.runs.are_covered.Goals as goal

pub sought_runs-requires : goal.sought_runs-requires
sought_runs-requires c = spans_held c.args.other.now c.rows-others.ensures.relation c.args.theirs.at c.requires.theirs c.rows-others.result.now c.rows-others.ensures.rows

pub are_in_runs-requires-clause-intervals : goal.are_in_runs-requires-clause-intervals
are_in_runs-requires-clause-intervals c = spans_held c.args.of.now c.rows-rows.ensures.relation c.args.own.at c.requires.own c.rows-rows.result.now c.rows-rows.ensures.rows
