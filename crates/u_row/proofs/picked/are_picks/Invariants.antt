use Rattle.u_row.proofs.PickLemmas.{AreTried}
use Rattle.u_row.proofs.picked.are_picks.Given as goal

abbrev pub invariant-loop-at : goal.invariant-loop-at
invariant-loop-at l = AreTried l.positions l.count l.least l.at
