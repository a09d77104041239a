use Rattle.std.proofs.Common.{◌≡◌, ◌≤◌, ◌++◌, take, drop}
use Rattle.std.specs.Prelude.{slice_range}
use Rattle.std.specs.Vec.{vec_len}
use Rattle.row_removal.proofs.removal.keep_run.Given as goal

abbrev pub invariant-loop-at : goal.invariant-loop-at
invariant-loop-at l = record {
  len : vec_len l.rows ≡ vec_len l.fn.rows;
  kept : l.kept ≤ l.at;
  seen : l.fn.cut.seen ≤ l.at;
  front : take l.kept l.rows.items ≡ take l.fn.cut.kept l.fn.rows.items ++ slice_range l.fn.rows.items l.fn.cut.seen l.at;
  back : drop l.at l.rows.items ≡ drop l.at l.fn.rows.items;
}
