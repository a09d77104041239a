use Rattle.std.proofs.Common.{◌≡◌, take, flat_map}
use Rattle.cell_sweep.specs.PackedRows.{cuts_of}
use Rattle.cell_sweep.specs.Rows.{sides_of}
use Rattle.cell_sweep.proofs.cuts.ends_at.Given as goal

abbrev pub invariant-loop-r : goal.invariant-loop-r
invariant-loop-r l = l.out.items ≡ flat_map (cuts_of (sides_of l.boxes) l.side) (take l.r-index l.live)
