use Rattle.std.proofs.Common.{◌≡◌, ◌++◌, length}
use Rattle.std.specs.List.{All}
use Rattle.std.specs.List.Sorted.{IsStrictlySortedBy}
use Rattle.value_core.specs.Values.{row_cmp}
use Rattle.log_times.specs.Logs.{HasStatements}
use Rattle.log_times.specs.Turns.{lost}
use Rattle.log_times.proofs.lists.lost_rows.Given as goal

-- what is found, and what the rest loses by those that are left, are all
abbrev pub invariant-front : goal.invariant-front
invariant-front l = record {
  lost : l.list.items ++ lost l.side l.left l.rest ≡ lost l.side l.fn.gone l.fn.rows;
  intervals : All (HasStatements l.side) l.rest;
  rows : IsStrictlySortedBy row_cmp l.rest;
  gone : IsStrictlySortedBy row_cmp l.left;
}

abbrev pub decreases-front : goal.decreases-front
decreases-front l = length l.left
