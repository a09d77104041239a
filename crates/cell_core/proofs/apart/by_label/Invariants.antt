use Rattle.std.proofs.Common.{◌≡◌, map, take}
use Rattle.cell_core.proofs.apart.by_label.Given as goal

abbrev pub invariant-loop-row : goal.invariant-loop-row
invariant-loop-row g l = map (λ r. r.now) l.list.items ≡ take l.row-index l.rows
