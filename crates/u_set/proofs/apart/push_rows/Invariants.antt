use Rattle.std.proofs.Common.{◌≡◌, ◌++◌, map, take}
use Rattle.u_set.proofs.apart.push_rows.Given as goal

abbrev pub invariant-loop-row : goal.invariant-loop-row
invariant-loop-row l = map (λ r. r.row.now) l.list.items ≡ map (λ r. r.row.now) l.fn.list.items ++ take l.row-index l.rows
