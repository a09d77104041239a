-- Assignments that leave their target's rows at the points where a condition does not hold.
--     portion_of, portion_rows      the rows of a target at the points where a condition holds: as an expression, and what it means
--     point_cost      the steps of what is asked at points
--     IsDeletion, IsDeletionOf      an assignment of this form, and what it makes of its target
--     IsAffected      rows of a packed relation that a condition concerns, with all that have their labels
use Rattle.std.specs.Prelude.{◌≡◌, ℕ, suc, ◌≤◌, List, [], ◌∷◌, length}
use Rattle.base_core.specs.Outcomes.{then_give}
use Rattle.point_core.specs.declared.fault.Place.{Place}
use Rattle.value_core.specs.RowPacking.{packed, unpacked}
use Rattle.value_core.specs.declared.constraint.Constraint.{Constraint}
use Rattle.value_core.specs.declared.kind.Kind.TheVariants.{Truth}
use Rattle.value_core.specs.Values.{Name, Heading, Row, Relation, IsRelation}
use Rattle.scalar_core.specs.declared.operators.OneOp.TheVariants.{Not}
use Rattle.scalar_core.specs.Expressions.{Expr, one, read}
use Rattle.relation_core.specs.Answers.{under}
use Rattle.relation_core.specs.Operators.{restricted, subtracted}
use Rattle.cell_core.specs.Costs.{bound}
use Rattle.tree_core.specs.Items.{PlainAssignment, read_assignment}
use Rattle.tree_core.specs.Relvars.{base, Entries}
use Rattle.tree_core.specs.Trees.{Tree, named, restrict, using}
use Rattle.meaning_core.specs.Meanings.{RowsMeant, condition, limited}
use Rattle.meaning_core.specs.Names.{IsFirstAt}
use Rattle.meaning_core.specs.Typing.{IsScalar, IsList}
use Rattle.eval_using.specs.Cells.{cells_of_all}
use Rattle.eval_using.specs.Using.{IsSweptBy}
use Rattle.change_rows.specs.Affected.{AreFalse, IsClosedPart}
use Rattle.assign_core.specs.declared.portion.Portion.{Portion}
use Rattle.assign_core.specs.declared.portion.Deletion.{Deletion}
use Rattle.assign_core.specs.Assignments.{source_value}
use Rattle.assign_core.specs.Costs.{source_cost}

-- ---- portions

-- the places and headings of the nodes in a portion: the heading of the USING, and both of the restriction and of the name
pub record PortionNodes : Type 0 where
  pub heading : Heading
  pub at : Place
  pub headed : Heading
  pub from : Place
  pub given : Heading

-- the target's rows at the points where the condition holds
abbrev pub portion_of : Place → List ℕ → PortionNodes → Expr → Name → Tree
portion_of place commalist n c target = using place n.heading commalist (restrict n.at n.headed c (named n.from n.given target))

-- what it means where the target has these rows
abbrev pub portion_rows : Place → List ℕ → Expr → List Row → RowsMeant
portion_rows place commalist c rows = then_give (restricted (condition c) (unpacked commalist rows)) (λ points. limited place (packed commalist points))

pub record IsPortion (p : Portion) (target : Name) (t : Tree) : Type 0 where
  pub nodes : PortionNodes
  pub is : t ≡ portion_of p.place p.commalist.now nodes (read p.condition.now) target

-- the condition can be asked at each point of rows of the heading
pub record IsPortionFor (heading : Heading) (p : Portion) : Type 0 where
  pub sizes : List ℕ
  pub condition : IsScalar sizes heading (read p.condition.now) Truth
  pub list : IsList heading p.commalist.now
  pub swept : IsSweptBy heading p.commalist.now heading (read p.condition.now)

abbrev pub IsNegation : Expr → Expr → Type 0
IsNegation e c = (place : Place) × (e ≡ one Not place c)

-- the steps of what is asked at the points of rows with n cells; where no attribute is listed, rows are asked as they are
abbrev pub point_cost : List ℕ → ℕ → ℕ
point_cost [] n = 0
point_cost (i ∷ commalist) n = bound n (suc (length commalist))

-- the steps that a portion takes
abbrev pub portion_cost : List ℕ → Expr → List Row → ℕ
portion_cost commalist c rows = point_cost commalist (cells_of_all commalist (c ∷ []) rows)

-- ---- deletions

abbrev pub deletion_of : Place → List ℕ → PortionNodes → Expr → Name → PlainAssignment
deletion_of place commalist n c target = record { target = target; tree = portion_of place commalist n c target }

-- the assignment leaves its target's rows at the points where a condition does not hold
pub record IsDeletion (d : Deletion) : Type 0 where
  pub nodes : PortionNodes
  pub is : read_assignment d.assignment.now ≡ deletion_of d.kept.place d.kept.commalist.now nodes (read d.kept.condition.now) d.assignment.now.target
  pub negates : IsNegation (read d.kept.condition.now) (read d.gone.now)

-- the target is the base relvar at the place, which is the first of its name and has the value; it gets what is left of its rows
pub record IsDeletionOf (entries : Entries) (d : Deletion) (at : ℕ) (value : Relation) : Type 0 where
  pub constraints : List Constraint
  pub first : IsFirstAt entries d.assignment.now.target at (base value constraints)
  pub relation : IsRelation value
  pub kept : IsPortionFor value.heading d.kept
  pub negates : IsNegation (read d.kept.condition.now) (read d.gone.now)
  pub meant : source_value entries entries (read_assignment d.assignment.now)
      ≡ under value.heading (portion_rows d.kept.place d.kept.commalist.now (read d.kept.condition.now) value.rows)
  pub paid : portion_cost d.kept.commalist.now (read d.kept.condition.now) value.rows ≤ source_cost entries entries (read_assignment d.assignment.now)

-- ---- what a condition concerns

-- rows of a packed relation, with all that have their labels; at no point of the others the condition holds or has a fault
pub record IsAffected (commalist : List ℕ) (c : Expr) (value part : Relation) : Type 0 where
  pub packed : packed commalist value.rows ≡ value.rows
  pub closed : IsClosedPart commalist value part
  pub others : AreFalse commalist c (subtracted value.rows part.rows)
