use Rattle.std.proofs.Common.{◌≡◌, ◌++◌, map, take}
use Rattle.cell_boxes.specs.Meetings.{turned}
use Rattle.u_join.proofs.sweeping.push_turned.Given as goal

abbrev pub invariant-loop-p : goal.invariant-loop-p
invariant-loop-p l = l.out.items ≡ l.fn.out.items ++ map turned (take l.p-index l.pairs)
