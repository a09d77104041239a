use Rattle.std.proofs.Common.{◌≡◌, ◌≤◌, take, drop}
use Rattle.std.specs.List.Sorted.{IsStrictlySortedBy}
use Rattle.std.specs.Vec.{vec_len}
use Rattle.base_core.specs.Sets.{has}
use Rattle.base_core.proofs.SetLemmas.{In}
use Rattle.value_core.specs.Values.{Row, row_cmp}
use Rattle.relation_core.specs.Operators.{subtracted}
use Rattle.row_removal.proofs.removal.leave_out.Given as goal

-- the first ones are those that stay of what is looked at; of what is left the same go by the rest
abbrev pub invariant-loop-at : goal.invariant-loop-at
invariant-loop-at l = record {
  len : vec_len l.rows ≡ vec_len l.fn.rows;
  kept : l.kept ≤ l.at;
  front : take l.kept l.rows.items ≡ subtracted (take l.at l.fn.rows.items) l.fn.gone;
  back : drop l.at l.rows.items ≡ drop l.at l.fn.rows.items;
  sorted : IsStrictlySortedBy row_cmp l.rest;
  same : (z : Row) → In z (drop l.at l.fn.rows.items) → has row_cmp l.rest z ≡ has row_cmp l.fn.gone z;
}
