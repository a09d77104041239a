use Rattle.std.proofs.Common.{◌≡◌, take}
use Rattle.std.specs.List.{filter}
use Rattle.base_core.specs.Sets.{has}
use Rattle.value_core.specs.Values.{row_cmp}
use Rattle.relation_core.specs.Agreement.{part_of}
use Rattle.kept_views.specs.Sorted.{keyed}
use Rattle.kept_views.proofs.sorting.keyed_rows.Given as goal

abbrev pub invariant-loop-row : goal.invariant-loop-row
invariant-loop-row l = l.list.items ≡ keyed l.positions (filter (λ x. has row_cmp l.keys (part_of l.positions x)) (take l.row-index l.rows))
