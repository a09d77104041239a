use Rattle.std.proofs.Common.{◌≡◌, take}
use Rattle.std.specs.List.{filter}
use Rattle.base_core.specs.Sets.{has}
use Rattle.value_core.specs.Values.{row_cmp}
use Rattle.relation_core.specs.Agreement.{as_wanted, part_of}
use Rattle.relation_core.proofs.agreement.rows_by_keys.Given as goal

abbrev pub invariant-loop-row : goal.invariant-loop-row
invariant-loop-row l = l.rows.items ≡ filter (λ x. as_wanted l.wanted (has row_cmp l.keys (part_of l.positions x))) (take l.row-index l.given)
