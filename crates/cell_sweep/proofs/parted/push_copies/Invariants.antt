use Rattle.std.proofs.Common.{◌≡◌, ◌++◌, take, map}
use Rattle.cell_packing.specs.Live.{box}
use Rattle.cell_sweep.specs.Rows.{sides_of}
use Rattle.cell_sweep.proofs.parted.push_copies.Given as goal

abbrev pub invariant-loop-r : goal.invariant-loop-r
invariant-loop-r g l = l.out.items ≡ l.fn.out.items ++ map (λ r. (l.label, box (sides_of l.boxes) r)) (take l.r-index l.live)
