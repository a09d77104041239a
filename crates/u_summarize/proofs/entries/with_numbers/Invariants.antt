use Rattle.std.proofs.Common.{◌≡◌, length}
use Rattle.u_summarize.specs.Entries.{Listed, numbered_row}
use Rattle.u_summarize.proofs.entries.with_numbers.Given as goal

abbrev pub invariant-loop-row : goal.invariant-loop-row
invariant-loop-row l = record {
  can : (goal.iterator-loop-row).can_next l.row-iterator;
  ends : (goal.iterator-loop-row).is_finite l.row-iterator;
  count : length l.out.items ≡ length l.yielded;
  members : Listed (numbered_row l.fn.rows.items l.numbers) (length l.yielded) l.out.items;
}
