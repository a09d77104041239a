use Rattle.std.proofs.Common.{◌≡◌, take}
use Rattle.cell_sweep.specs.Rows.{own_numbers}
use Rattle.cell_sweep.proofs.inward.own_numbers.Given as goal

abbrev pub invariant-loop-r : goal.invariant-loop-r
invariant-loop-r l = l.out.items ≡ own_numbers l.by (take l.r-index l.rows)
