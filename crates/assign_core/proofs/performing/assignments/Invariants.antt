use Rattle.std.proofs.Common.{◌≡◌, map, take}
use Rattle.std.specs.List.{All}
use Rattle.tree_core.specs.Items.{read_item, read_assignment}
use Rattle.tree_core.specs.Relvars.{read_relvars}
use Rattle.meaning_core.specs.Updates.{IsTypedAssignment}
use Rattle.assign_core.specs.Items.{assignments_of}
use Rattle.assign_core.proofs.performing.assignments.Given as goal

abbrev pub invariant-loop-item : goal.invariant-loop-item
invariant-loop-item l =
    (map read_assignment l.list.items ≡ assignments_of (read_relvars l.relvars).relvars (map read_item (take l.item-index l.items)))
    × All (IsTypedAssignment (read_relvars l.relvars)) (map read_assignment l.list.items)
