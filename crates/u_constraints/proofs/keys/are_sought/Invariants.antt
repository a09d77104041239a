use Rattle.std.proofs.Common.{◌≡◌, true, take}
use Rattle.std.specs.List.{list_all}
use Rattle.base_core.specs.Sets.{has}
use Rattle.value_core.specs.Values.{row_cmp}
use Rattle.relation_core.specs.Agreement.{part_of}
use Rattle.u_constraints.proofs.keys.are_sought.Given as goal

-- the rows so far have their values among the keys
abbrev pub invariant-loop-row : goal.invariant-loop-row
invariant-loop-row l = list_all (λ x. has row_cmp l.keys.items (part_of l.here x)) (take l.row-index l.row-items) ≡ true
