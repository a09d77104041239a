use Rattle.std.proofs.Common.{◌≡◌, ◌≤◌, take, drop}
use Rattle.std.specs.Vec.{vec_len}
use Rattle.base_core.proofs.SetLemmas.{In}
use Rattle.value_core.specs.Values.{Row}
use Rattle.relation_core.specs.Operators.{subtracted}
use Rattle.row_removal.proofs.removal.cut_out.Given as goal

-- the first ones are those that stay of what is looked at; none of those that are left is one that is done
abbrev pub invariant-loop-row : goal.invariant-loop-row
invariant-loop-row l = record {
  len : vec_len l.rows ≡ vec_len l.fn.rows;
  kept : l.cut.kept ≤ l.cut.seen;
  seen : l.cut.seen ≤ vec_len l.fn.rows;
  front : take l.cut.kept l.rows.items ≡ subtracted (take l.cut.seen l.fn.rows.items) l.fn.gone;
  back : drop l.cut.seen l.rows.items ≡ drop l.cut.seen l.fn.rows.items;
  apart : (z : Row) → In z (drop l.cut.seen l.fn.rows.items) → In z (take l.row-index l.fn.gone) → ⊥;
}
