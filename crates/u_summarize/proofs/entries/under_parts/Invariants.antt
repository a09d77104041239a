use Rattle.std.proofs.Common.{◌≡◌, map}
use Rattle.u_summarize.specs.Entries.{part_row}
use Rattle.u_summarize.proofs.entries.under_parts.Given as goal

abbrev pub invariant-loop-row : goal.invariant-loop-row
invariant-loop-row l = record {
  can : (goal.iterator-loop-row).can_next l.row-iterator;
  ends : (goal.iterator-loop-row).is_finite l.row-iterator;
  parts : l.parts.items ≡ map (part_row l.by) l.yielded;
}
