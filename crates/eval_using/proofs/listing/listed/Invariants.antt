use Rattle.std.proofs.Common.{◌≡◌, take}
use Rattle.eval_using.specs.Using.{listed}
use Rattle.eval_using.proofs.listing.listed.Given as goal

abbrev pub invariant-loop-i : goal.invariant-loop-i
invariant-loop-i l = l.positions.items ≡ listed l.heading (take l.i-index l.commalist) l.from
