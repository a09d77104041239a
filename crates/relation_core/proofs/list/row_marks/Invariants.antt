use Rattle.std.proofs.Common.{◌≡◌, take, map}
use Rattle.relation_core.specs.Hashes.{hash_of}
use Rattle.relation_core.proofs.list.row_marks.Given as goal

abbrev pub invariant-loop-row : goal.invariant-loop-row
invariant-loop-row l = l.list.items ≡ map (hash_of l.positions) (take l.row-index l.rows)
