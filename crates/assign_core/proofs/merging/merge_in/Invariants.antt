use Rattle.std.proofs.Common.{◌≡◌, ◌+◌, ◌≤◌, ◌++◌, take, drop, length}
use Rattle.std.specs.Vec.{vec_len}
use Rattle.relation_core.specs.Operators.{united}
use Rattle.assign_core.proofs.merging.merge_in.Given as goal

-- the first ones are those of both as far as to where the merge has come; a place is free for each row that is left
abbrev pub invariant-loop-row : goal.invariant-loop-row
invariant-loop-row l = record {
  can : goal.iterator-loop-row.can_next l.row-iterator;
  ends : goal.iterator-loop-row.is_finite l.row-iterator;
  len : vec_len l.rows ≡ vec_len l.fn.rows;
  room : l.cut.kept + vec_len l.fn.come ≤ l.cut.seen + length l.yielded;
  from : vec_len l.fn.come ≤ l.cut.seen;
  seen : l.cut.seen ≤ vec_len l.fn.rows;
  back : drop l.cut.seen l.rows.items ≡ drop l.cut.seen l.fn.rows.items;
  front : take l.cut.kept l.rows.items ++ united (drop l.cut.seen l.fn.rows.items) (drop (length l.yielded) l.fn.come.items) ≡ united (drop (vec_len l.fn.come) l.fn.rows.items) l.fn.come.items;
}
