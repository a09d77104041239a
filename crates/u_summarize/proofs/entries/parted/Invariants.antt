use Rattle.std.proofs.Common.{◌≡◌, map, length}
use Rattle.u_summarize.specs.Entries.{Listed, bare_row, part_row}
use Rattle.u_summarize.proofs.entries.parted.Given as goal

abbrev pub invariant-loop-row : goal.invariant-loop-row
invariant-loop-row l = record {
  can : (goal.iterator-loop-row).can_next l.row-iterator;
  ends : (goal.iterator-loop-row).is_finite l.row-iterator;
  count : length l.labels.items ≡ length l.yielded;
  parts : l.parts.items ≡ map (part_row l.by) l.yielded;
  members : Listed (bare_row l.fn.rows.items) (length l.yielded) l.labels.items;
}
