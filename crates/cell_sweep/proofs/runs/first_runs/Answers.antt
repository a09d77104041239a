use Rattle.cell_sweep.proofs.TwoSidesLemmas.{runs_rows, runs_sorted}
use Rattle.cell_sweep.proofs.runs.first_runs.Goals as goal

pub returns-clause-rows : goal.returns-clause-rows
returns-clause-rows c = runs_rows c.args.boxes.now c.args.live.now c.requires.sides c.requires.rows c.in_ok-runs.runs.items c.in_ok-runs.ensures.apart c.in_ok-runs.ensures.covers

pub returns-clause-sorted : goal.returns-clause-sorted
returns-clause-sorted c = runs_sorted c.args.boxes.now c.args.live.now c.requires.sides c.requires.rows c.in_ok-runs.runs.items c.in_ok-runs.ensures.apart c.in_ok-runs.ensures.covers
