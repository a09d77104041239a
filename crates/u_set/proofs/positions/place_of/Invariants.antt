use Rattle.std.proofs.Common.{◌≡◌, ◌+◌, drop}
use Rattle.u_set.specs.Boxes.{place_of}
use Rattle.u_set.proofs.positions.place_of.Given as goal

abbrev pub invariant-loop-at : goal.invariant-loop-at
invariant-loop-at l = place_of l.commalist l.i ≡ l.at + place_of (drop l.at l.commalist) l.i
