use Rattle.std.proofs.Common.{◌≡◌, ◌≤◌, take, length}
use Rattle.value_core.specs.Values.{most_rows}
use Rattle.relation_core.specs.Joins.{paired}
use Rattle.relation_core.proofs.pairs.pairs.Given as goal

abbrev pub invariant-loop-x : goal.invariant-loop-x
invariant-loop-x l = record {
  pairs : l.rows.items ≡ paired l.here l.there l.places (take l.x-index l.given) l.others;
  few : length l.rows.items ≤ most_rows;
}
