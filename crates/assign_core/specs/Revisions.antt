-- Assignments that leave their target's rows at the points where a condition does not hold, and add changed rows.
--     changed_of, changed_rows      the rows of a target at the points of a condition with new values: as an expression, and what it means
--     revision_of, revised_rows      the whole
--     IsRevision, IsRevisionOf      an assignment of this form, and what it makes of its target
--     revision_cost      the steps that it takes
use Rattle.std.specs.Prelude.{◌≡◌, ℕ, ◌+◌, ◌≤◌, List, length}
use Rattle.base_core.specs.Outcomes.{then_give}
use Rattle.point_core.specs.declared.fault.Place.{Place}
use Rattle.value_core.specs.RowPacking.{packed, unpacked}
use Rattle.value_core.specs.declared.constraint.Constraint.{Constraint}
use Rattle.value_core.specs.Values.{Name, Heading, Row, Relation, IsRelation}
use Rattle.scalar_core.specs.Expressions.{read}
use Rattle.relation_core.specs.Answers.{under}
use Rattle.relation_core.specs.Operators.{extended, united}
use Rattle.tree_core.specs.declared.tree.InfixWord.TheVariants.{Union}
use Rattle.tree_core.specs.Items.{PlainAssignment, read_assignment}
use Rattle.tree_core.specs.Relvars.{base, Entries}
use Rattle.tree_core.specs.Trees.{PlainSets, Tree, infix_of, extend, using, read_sets}
use Rattle.meaning_core.specs.Meanings.{RowsMeant, limited}
use Rattle.meaning_core.specs.Names.{IsFirstAt}
use Rattle.meaning_core.specs.Rows.{extended_row}
use Rattle.meaning_core.specs.Typing.{IsExtension, IsList}
use Rattle.eval_using.specs.Cells.{cells_of_all, scalars_of}
use Rattle.eval_using.specs.Using.{HasList, AreSweptBy}
use Rattle.algebra_core.specs.Costs.{paid}
use Rattle.assign_core.specs.declared.revision.Changed.{Changed}
use Rattle.assign_core.specs.declared.revision.Revision.{Revision}
use Rattle.assign_core.specs.Assignments.{source_value}
use Rattle.assign_core.specs.Costs.{source_cost}
use Rattle.assign_core.specs.Portions.{PortionNodes, portion_of, portion_rows, point_cost, portion_cost, IsNegation, IsPortionFor}

-- ---- changed rows

-- the headings of the USING and of the extension, and the extension's place
pub record ChangedNodes : Type 0 where
  pub heading : Heading
  pub at : Place
  pub headed : Heading
  pub portion : PortionNodes

-- the rows of an expression with new values
abbrev pub changed_of : Place → List ℕ → ChangedNodes → PlainSets → Tree → Tree
changed_of place commalist n sets t = using place n.heading commalist (extend n.at n.headed sets t)

-- what it means where the expression has these rows, under the heading
abbrev pub changed_rows : Heading → Place → List ℕ → PlainSets → List Row → RowsMeant
changed_rows h place commalist sets rows = then_give (extended (extended_row h h sets) (unpacked commalist rows)) (λ points. limited place (packed commalist points))

abbrev pub changed_cost : List ℕ → PlainSets → List Row → ℕ
changed_cost commalist sets rows = point_cost commalist (cells_of_all commalist (scalars_of sets) rows)

pub record IsChanged (x : Changed) (target : Name) (t : Tree) : Type 0 where
  pub nodes : ChangedNodes
  pub same : x.portion.commalist.now ≡ x.commalist.now
  pub is : t ≡ changed_of x.place x.commalist.now nodes (read_sets x.sets.now) (portion_of x.portion.place x.portion.commalist.now nodes.portion (read x.portion.condition.now) target)

-- the new values can be asked at each point of rows of the heading, and make rows of it
pub record IsChangedFor (h : Heading) (x : Changed) : Type 0 where
  pub sizes : List ℕ
  pub extension : IsExtension sizes h h (read_sets x.sets.now)
  pub list : IsList h x.commalist.now
  pub listed : HasList h x.commalist.now h
  pub swept : AreSweptBy h x.commalist.now h (read_sets x.sets.now)
  pub portion : IsPortionFor h x.portion

-- ---- revisions

-- the headings of the USING and of the union, and the union's place
pub record RevisionNodes : Type 0 where
  pub at : Place
  pub headed : Heading
  pub kept : PortionNodes
  pub changed : ChangedNodes

abbrev pub revision_of : Place → Heading → List ℕ → RevisionNodes → Tree → Tree → Name → PlainAssignment
revision_of place heading commalist n l r target = record { target = target; tree = using place heading commalist (infix_of n.at n.headed Union l r) }

abbrev pub kept_tree : Revision → PortionNodes → Tree
kept_tree r n = portion_of r.kept.place r.kept.commalist.now n (read r.kept.condition.now) r.assignment.now.target

abbrev pub changed_tree : Revision → ChangedNodes → Tree
changed_tree r n =
    changed_of r.changed.place r.changed.commalist.now n (read_sets r.changed.sets.now)
    (portion_of r.changed.portion.place r.changed.portion.commalist.now n.portion (read r.changed.portion.condition.now) r.assignment.now.target)

pub record AreAlike (r : Revision) : Type 0 where
  pub kept : r.kept.commalist.now ≡ r.commalist.now
  pub changed : r.changed.commalist.now ≡ r.commalist.now
  pub portion : r.changed.portion.commalist.now ≡ r.changed.commalist.now

pub record IsRevision (r : Revision) : Type 0 where
  pub nodes : RevisionNodes
  pub alike : AreAlike r
  pub negates : IsNegation (read r.kept.condition.now) (read r.gone.now)
  pub is : read_assignment r.assignment.now
      ≡ revision_of r.assignment.now.tree.place r.assignment.now.tree.heading r.commalist.now nodes (kept_tree r nodes.kept) (changed_tree r nodes.changed) r.assignment.now.target

-- ---- what it means

-- the rows that are left of a target with these rows, and those that are added
abbrev pub left_of : Revision → List Row → RowsMeant
left_of r rows = portion_rows r.kept.place r.commalist.now (read r.kept.condition.now) rows

abbrev pub taken_of : Revision → List Row → RowsMeant
taken_of r rows = portion_rows r.changed.portion.place r.commalist.now (read r.changed.portion.condition.now) rows

abbrev pub added_of : Heading → Revision → List Row → RowsMeant
added_of h r rows = changed_rows h r.changed.place r.commalist.now (read_sets r.changed.sets.now) rows

abbrev pub revised_rows : Heading → Revision → List Row → RowsMeant
revised_rows h r rows =
    then_give (left_of r rows) (λ left. then_give (then_give (taken_of r rows) (added_of h r)) (λ added.
    limited r.assignment.now.tree.place (packed r.commalist.now (united (unpacked r.commalist.now left) (unpacked r.commalist.now added)))))

abbrev pub revision_cost : Heading → Revision → List Row → ℕ
revision_cost h r rows =
    portion_cost r.commalist.now (read r.kept.condition.now) rows
    + paid (left_of r rows) (λ left.
    (portion_cost r.commalist.now (read r.changed.portion.condition.now) rows + paid (taken_of r rows) (changed_cost r.commalist.now (read_sets r.changed.sets.now)))
    + paid (then_give (taken_of r rows) (added_of h r)) (λ added. point_cost r.commalist.now (length left + length added)))

-- the target is the base relvar at the place, which is the first of its name and has the value; it gets the rows that are left and added
pub record IsRevisionOf (entries : Entries) (r : Revision) (at : ℕ) (value : Relation) : Type 0 where
  pub constraints : List Constraint
  pub first : IsFirstAt entries r.assignment.now.target at (base value constraints)
  pub relation : IsRelation value
  pub alike : AreAlike r
  pub negates : IsNegation (read r.kept.condition.now) (read r.gone.now)
  pub kept : IsPortionFor value.heading r.kept
  pub changed : IsChangedFor value.heading r.changed
  pub meant : source_value entries entries (read_assignment r.assignment.now) ≡ under value.heading (revised_rows value.heading r value.rows)
  pub steps : revision_cost value.heading r value.rows ≤ source_cost entries entries (read_assignment r.assignment.now)
