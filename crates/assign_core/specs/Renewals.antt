-- Revisions by conditions that concern some rows of a packed target alone.
--     IsRenewal      a revision, its target with the hashes of its rows, and the rows that its conditions concern
--     entries_renewed, value_renewed      the relvars before it, and the value that it gives its target
--     IsLeft, AreAdded      what is left of these rows, and what is added
use Rattle.std.specs.Prelude.{◌≡◌, ℕ, ◌+◌, ◌≤◌, length, Ok}
use Rattle.std.specs.List.{All}
use Rattle.base_core.specs.Outcomes.{then_give}
use Rattle.point_core.specs.Faults.{OrFault}
use Rattle.value_core.specs.Values.{Relation, most_rows}
use Rattle.scalar_core.specs.Expressions.{read}
use Rattle.relation_core.specs.Growth.{touched}
use Rattle.relation_core.specs.Operators.{subtracted, united}
use Rattle.relation_core.specs.Hashes.{AreHashesOf}
use Rattle.tree_core.specs.Items.{read_assignment}
use Rattle.tree_core.specs.Relvars.{Entries, read_relvars}
use Rattle.u_set.specs.Apart.{outside}
use Rattle.assign_core.specs.Assignments.{source_value}
use Rattle.assign_core.specs.declared.renewal.Renewal.{Renewal}
use Rattle.assign_core.specs.Portions.{point_cost, IsAffected}
use Rattle.assign_core.specs.Revisions.{left_of, taken_of, added_of, IsRevisionOf}

-- the relvars before the revision
abbrev pub entries_renewed : Renewal → Entries
entries_renewed r = (read_relvars r.relvars.now).relvars

-- the value that it gives its target, or its fault
abbrev pub value_renewed : Renewal → OrFault Relation
value_renewed r = source_value (entries_renewed r) (entries_renewed r) (read_assignment r.revision.assignment.now)

pub record IsRenewal (r : Renewal) : Type 0 where
  pub revision : IsRevisionOf (entries_renewed r) r.revision r.at r.value.now
  pub gone : IsAffected r.revision.commalist.now (read r.revision.gone.now) r.value.now r.part.now
  pub changed : IsAffected r.revision.commalist.now (read r.revision.changed.portion.condition.now) r.value.now r.part.now
  pub hashed : All (AreHashesOf r.value.now.rows) r.hashes.now

-- with the other rows, it is what is left of the target; it has labels of the part
pub record IsLeft (r : Renewal) (left : Relation) : Type 0 where
  pub heading : left.heading ≡ r.value.now.heading
  pub meant : left_of r.revision r.value.now.rows ≡ Ok (united (subtracted r.value.now.rows r.part.now.rows) left.rows)
  pub few : length (united (subtracted r.value.now.rows r.part.now.rows) left.rows) ≤ most_rows
  pub labels : touched (outside r.revision.commalist.now r.value.now.heading) r.part.now.rows left.rows ≡ left.rows

pub record AreAdded (r : Renewal) (added : Relation) : Type 0 where
  pub heading : added.heading ≡ r.value.now.heading
  pub meant : then_give (taken_of r.revision r.value.now.rows) (added_of r.value.now.heading r.revision) ≡ Ok added.rows

-- the steps of both together
abbrev pub after_left : Renewal → Relation → Relation → ℕ
after_left r left added = point_cost r.revision.commalist.now (length (united (subtracted r.value.now.rows r.part.now.rows) left.rows) + length added.rows)
