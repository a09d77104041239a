use Rattle.std.proofs.Common.{◌≡◌, ◌++◌, take}
use Rattle.cell_core.specs.Cells.{keys_from}
use Rattle.cell_core.proofs.keys.push_keys.Given as goal

abbrev pub invariant-loop-r : goal.invariant-loop-r
invariant-loop-r g l = l.out.items ≡ l.fn.out.items ++ keys_from l.first (take l.r l.rows) l.sides
