-- Assignments that add rows to their own targets, and rows that are added to a base relvar's own.
--     IsInsertion      an assignment that adds the rows of an expression to its own target
--     united_in, united_cost      the rows of both, point by point where there is a list, and the steps that they take
--     IsSumOf      what an insertion makes of its target, once its operand has a value
--     IsAddition      rows that are added to a base relvar's own
--     rows_of_both, sum_of, outcome      the rows that it then has, the relvars with them, or why they are refused
--     IsPlain      the rows of both are united as they are
--     IsPackedOn      the target is packed on the list
use Rattle.std.specs.Prelude.{◌≡◌, ℕ, ◌+◌, Bool, false, nat_eq, List, length, Option, Some, None, option_map, Result}
use Rattle.std.specs.Cmp.Lexicographic.{pointwise}
use Rattle.std.specs.List.{list_any}
use Rattle.point_core.specs.declared.fault.Place.{Place}
use Rattle.point_core.specs.Faults.{OrFault}
use Rattle.value_core.specs.RowPacking.{packed, unpacked}
use Rattle.value_core.specs.declared.constraint.Constraint.{Constraint}
use Rattle.value_core.specs.declared.constraint.Constraint.TheVariants.{Packed, UKey}
use Rattle.value_core.specs.declared.refuse.Refuse.{Refuse}
use Rattle.value_core.specs.Values.{Name, Heading, Row, Relation, IsRelation}
use Rattle.relation_core.specs.Answers.{under}
use Rattle.relation_core.specs.Operators.{united}
use Rattle.cell_core.specs.Costs.{bound}
use Rattle.tree_core.specs.declared.tree.InfixWord.{InfixWord}
use Rattle.tree_core.specs.declared.tree.InfixWord.TheVariants.{Union}
use Rattle.tree_core.specs.Items.{PlainAssignment, read_assignment}
use Rattle.tree_core.specs.Relvars.{PlainRelvar, base, view, Entries, log}
use Rattle.tree_core.specs.Trees.{Tree, named, infix_of, using, read_tree}
use Rattle.meaning_core.specs.Meanings.{limited}
use Rattle.meaning_core.specs.Names.{IsFirstAt}
use Rattle.meaning_core.specs.Typing.{IsListIf}
use Rattle.assign_core.specs.declared.addition.Addition.{Addition}
use Rattle.assign_core.specs.declared.insertion.Insertion.{Insertion}
use Rattle.assign_core.specs.declared.target.Target.{Target}
use Rattle.assign_core.specs.Assignments.{source_value, of_values}
use Rattle.assign_core.specs.Targets.{IsTarget, entries_with}

-- ---- insertions

-- two operands joined by a word, under USING where there is a list. The first place and heading are those of the whole, the
-- second ones those of the node under USING
abbrev pub joined_under : Place → Heading → Option (List ℕ) → Place → Heading → InfixWord → Tree → Tree → Tree
joined_under place heading None at headed word l r = infix_of place heading word l r
joined_under place heading (Some commalist) at headed word l r = using place heading commalist (infix_of at headed word l r)

-- the places and headings of the nodes in an insertion: of the union, and of the target's name
pub record Nodes : Type 0 where
  pub place : Place
  pub heading : Heading
  pub at : Place
  pub headed : Heading

-- the target, united with the rows of an expression
abbrev pub insertion_of : Place → Heading → Option (List ℕ) → Nodes → Name → Tree → PlainAssignment
insertion_of place heading list n target t =
    record { target = target; tree = joined_under place heading list n.place n.heading Union (named n.at n.headed target) t }

-- the list of the USING under which an insertion stands, if it stands under one
abbrev pub list_in : Insertion → Option (List ℕ)
list_in i = option_map (λ l. l.now) i.list

-- the assignment adds the operand's rows to its target
pub record IsInsertion (i : Insertion) : Type 0 where
  pub nodes : Nodes
  pub is : read_assignment i.assignment.now ≡ insertion_of i.assignment.now.tree.place i.assignment.now.tree.heading (list_in i) nodes i.assignment.now.target (read_tree i.operand.now)

-- ---- rows of both

abbrev pub united_in : Option (List ℕ) → List Row → List Row → List Row
united_in None r s = united r s
united_in (Some commalist) r s = packed commalist (united (unpacked commalist r) (unpacked commalist s))

-- the steps that they take, where they are so many together
abbrev pub united_cost : Option (List ℕ) → ℕ → ℕ
united_cost None n = 0
united_cost (Some commalist) n = bound n (length commalist)

-- ---- an insertion whose operand has a value

-- the target is the base relvar at the place, which is the first of its name and has the value; it gets the rows of both
pub record IsSumOf (entries : Entries) (i : Insertion) (at : ℕ) (value operand : Relation) : Type 0 where
  pub constraints : List Constraint
  pub first : IsFirstAt entries i.assignment.now.target at (base value constraints)
  pub headed : value.heading ≡ operand.heading
  pub relation : IsRelation value
  pub listed : IsListIf value.heading (list_in i)
  pub meant : source_value entries entries (read_assignment i.assignment.now)
      ≡ under value.heading (limited i.assignment.now.tree.place (united_in (list_in i) value.rows operand.rows))

-- ---- rows that are added to a base relvar's own

-- the list under which they are added, if there is one
abbrev pub list_under : Addition → Option (List ℕ)
list_under a = option_map (λ l. l.now) a.commalist

-- the target has the heading of the rows, and the list is one of it
pub record IsAddition (a : Addition) : Type 0 where
  pub target : IsTarget a.target
  pub headed : a.target.value.now.heading ≡ a.operand.now.heading
  pub relation : IsRelation a.target.value.now
  pub listed : IsListIf a.target.value.now.heading (list_under a)

-- the rows of both
abbrev pub rows_of_both : Addition → List Row
rows_of_both a = united_in (list_under a) a.target.value.now.rows a.operand.now.rows

-- they are united as they are
abbrev pub IsPlain : Addition → Type 0
IsPlain a = rows_of_both a ≡ united a.target.value.now.rows a.operand.now.rows

-- whether a constraint keeps the rows of its relvar packed on a list
abbrev pub keeps_packed : List ℕ → Constraint → Bool
keeps_packed commalist (Packed own) = pointwise nat_eq own commalist
keeps_packed commalist (UKey own k) = pointwise nat_eq own commalist
keeps_packed commalist _ = false

-- whether one of those of a base relvar does
abbrev pub is_kept_packed : List ℕ → PlainRelvar → Bool
is_kept_packed commalist (base value constraints) = list_any (keeps_packed commalist) constraints
is_kept_packed commalist (view t kind) = false
is_kept_packed commalist (log of side last w) = false

-- the rows are added under the list, and the target is packed on it
pub record IsPackedOn (a : Addition) (commalist : List ℕ) : Type 0 where
  pub listed : list_under a ≡ Some commalist
  pub same : packed commalist a.target.value.now.rows ≡ a.target.value.now.rows

-- the steps that the rows of both take
abbrev pub addition_cost : Addition → ℕ
addition_cost a = united_cost (list_under a) (length a.target.value.now.rows + length a.operand.now.rows)

-- the value that the target gets, or the fault of too many rows
abbrev pub value_meant : Addition → OrFault Relation
value_meant a = under a.target.value.now.heading (limited a.target.place (rows_of_both a))

-- the relvars in which the target has the rows of both, or the fault that comes in their place
abbrev pub sum_in : Target → Option (List ℕ) → List Row → OrFault Entries
sum_in t list new = entries_with t (under t.value.now.heading (limited t.place (united_in list t.value.now.rows new)))

abbrev pub sum_of : Addition → OrFault Entries
sum_of a = sum_in a.target (list_under a) a.operand.now.rows

-- the relvars afterwards, or why the rows are refused
abbrev pub outcome : Addition → Result Entries Refuse
outcome a = of_values (sum_of a)
