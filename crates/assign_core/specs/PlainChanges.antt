-- Changes by a condition without USING: of rows as they are. They are those of the list of no attribute.
--     rows_where, rows_with      the rows of a target where a condition holds, and rows with new values
--     IsPlainDeletion, IsPlainRevision      assignments of these forms
--     IsAnyDeletion, IsAnyRevision      the same, or under USING
use Rattle.std.specs.Prelude.{◌≡◌, ◌⊎◌, []}
use Rattle.point_core.specs.declared.fault.Place.{Place}
use Rattle.value_core.specs.Values.{Name, Heading}
use Rattle.scalar_core.specs.Expressions.{Expr, read}
use Rattle.tree_core.specs.declared.tree.InfixWord.TheVariants.{Union}
use Rattle.tree_core.specs.Items.{PlainAssignment, read_assignment}
use Rattle.tree_core.specs.Trees.{PlainSets, Tree, named, infix_of, restrict, extend, read_sets}
use Rattle.assign_core.specs.declared.portion.Portion.{Portion}
use Rattle.assign_core.specs.declared.portion.Deletion.{Deletion}
use Rattle.assign_core.specs.declared.revision.Changed.{Changed}
use Rattle.assign_core.specs.declared.revision.Revision.{Revision}
use Rattle.assign_core.specs.Portions.{IsDeletion, IsNegation}
use Rattle.assign_core.specs.Revisions.{IsRevision}

-- ---- rows where a condition holds

-- the headings of the restriction and of the name, and the name's place
pub record RowNodes : Type 0 where
  pub headed : Heading
  pub from : Place
  pub given : Heading

abbrev pub rows_where : Place → RowNodes → Expr → Name → Tree
rows_where place n c target = restrict place n.headed c (named n.from n.given target)

pub record IsPlainPortion (p : Portion) (target : Name) (t : Tree) : Type 0 where
  pub nodes : RowNodes
  pub listed : p.commalist.now ≡ []
  pub is : t ≡ rows_where p.place nodes (read p.condition.now) target

-- the assignment leaves its target's rows where a condition does not hold
pub record IsPlainDeletion (d : Deletion) : Type 0 where
  pub kept : IsPlainPortion d.kept d.assignment.now.target (read_assignment d.assignment.now).tree
  pub negates : IsNegation (read d.kept.condition.now) (read d.gone.now)

abbrev pub IsAnyDeletion : Deletion → Type 0
IsAnyDeletion d = IsDeletion d ⊎ IsPlainDeletion d

-- ---- rows with new values

-- the heading of the extension, and the nodes of its operand
pub record NewNodes : Type 0 where
  pub headed : Heading
  pub portion : RowNodes

abbrev pub rows_with : Place → NewNodes → PlainSets → Tree → Tree
rows_with place n sets t = extend place n.headed sets t

pub record IsPlainChanged (x : Changed) (target : Name) (t : Tree) : Type 0 where
  pub nodes : NewNodes
  pub listed : x.commalist.now ≡ []
  pub portion : x.portion.commalist.now ≡ []
  pub is : t ≡ rows_with x.place nodes (read_sets x.sets.now) (rows_where x.portion.place nodes.portion (read x.portion.condition.now) target)

abbrev pub plain_revision_of : Place → Heading → Tree → Tree → Name → PlainAssignment
plain_revision_of place heading l r target = record { target = target; tree = infix_of place heading Union l r }

-- the assignment leaves its target's rows where a condition does not hold, and adds those of another one with new values
pub record IsPlainRevision (r : Revision) : Type 0 where
  pub left : Tree
  pub right : Tree
  pub listed : r.commalist.now ≡ []
  pub kept : IsPlainPortion r.kept r.assignment.now.target left
  pub changed : IsPlainChanged r.changed r.assignment.now.target right
  pub negates : IsNegation (read r.kept.condition.now) (read r.gone.now)
  pub is : read_assignment r.assignment.now ≡ plain_revision_of r.assignment.now.tree.place r.assignment.now.tree.heading left right r.assignment.now.target

abbrev pub IsAnyRevision : Revision → Type 0
IsAnyRevision r = IsRevision r ⊎ IsPlainRevision r
