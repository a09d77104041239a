-- Deletions by a condition that concern some rows of a packed target alone.
--     IsReduction      a deletion, its target, and the rows that its condition concerns
--     entries_reduced, value_reduced      the relvars before it, and the value that it gives its target
use Rattle.point_core.specs.Faults.{OrFault}
use Rattle.value_core.specs.Values.{Relation}
use Rattle.scalar_core.specs.Expressions.{read}
use Rattle.tree_core.specs.Items.{read_assignment}
use Rattle.tree_core.specs.Relvars.{Entries, read_relvars}
use Rattle.assign_core.specs.Assignments.{source_value}
use Rattle.assign_core.specs.declared.reduction.Reduction.{Reduction}
use Rattle.assign_core.specs.Portions.{IsAffected, IsDeletionOf}

-- the relvars before the deletion
abbrev pub entries_reduced : Reduction → Entries
entries_reduced r = (read_relvars r.relvars.now).relvars

-- the value that it gives its target, or its fault
abbrev pub value_reduced : Reduction → OrFault Relation
value_reduced r = source_value (entries_reduced r) (entries_reduced r) (read_assignment r.deletion.assignment.now)

pub record IsReduction (r : Reduction) : Type 0 where
  pub deletion : IsDeletionOf (entries_reduced r) r.deletion r.at r.value.now
  pub affected : IsAffected r.deletion.kept.commalist.now (read r.deletion.gone.now) r.value.now r.part.now
