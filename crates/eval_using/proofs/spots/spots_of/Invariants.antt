use Rattle.std.proofs.Common.{◌≤◌, take, length}
use Rattle.eval_using.specs.Spots.{AreSpots}
use Rattle.eval_using.proofs.spots.spots_of.Given as goal

abbrev pub invariant-loop-i : goal.invariant-loop-i
invariant-loop-i l = record {
  within : l.i ≤ length l.places;
  are : AreSpots l.many l.part (take l.i l.places) l.spots.items;
}
