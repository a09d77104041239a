use Rattle.u_row.proofs.PickLemmas.{ArePicked}
use Rattle.u_row.proofs.picked.picked.Given as goal

abbrev pub invariant-loop-at : goal.invariant-loop-at
invariant-loop-at l = ArePicked l.positions l.fn.values.items l.values.items l.at
