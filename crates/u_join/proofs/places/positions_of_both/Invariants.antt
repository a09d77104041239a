use Rattle.std.proofs.Common.{◌≡◌, take}
use Rattle.u_join.specs.Places.{positions_of_both}
use Rattle.u_join.proofs.places.positions_of_both.Given as goal

abbrev pub invariant-loop-i : goal.invariant-loop-i
invariant-loop-i l = l.list.items ≡ positions_of_both l.size l.here (take l.i-index l.there)
