use Rattle.std.proofs.Common.{◌≡◌, map}
use Rattle.relation_core.specs.Agreement.{part_of}
use Rattle.plain_rows.proofs.arranged.arranged_rows.Given as goal

abbrev pub invariant-loop-row : goal.invariant-loop-row
invariant-loop-row l = record {
  can : (goal.iterator-loop-row).can_next l.row-iterator;
  ends : (goal.iterator-loop-row).is_finite l.row-iterator;
  made : l.list.items ≡ map (part_of l.places) l.yielded;
}
