-- Updates as assignments: an item gives its target the value of an expression. The nodes that this expression has beside those of
-- the item have the place of the item's first token and the target's heading.
--     IsExpandable      of items other than TERMINATE
--     expanded      the assignments of such an item
use Rattle.std.specs.Prelude.{ℕ, true, List, [], ◌∷◌, map, Option, Some, None}
use Rattle.std.specs.List.{fold}
use Rattle.point_core.specs.declared.fault.Place.{Place}
use Rattle.value_core.specs.declared.kind.Kind.TheVariants.{Truth}
use Rattle.value_core.specs.Values.{Heading, truth}
use Rattle.scalar_core.specs.declared.operators.OneOp.TheVariants.{Not}
use Rattle.scalar_core.specs.declared.operators.PairOp.TheVariants.{Allen}
use Rattle.scalar_core.specs.declared.tree.AllenWord.TheVariants.{IncludedIn}
use Rattle.scalar_core.specs.Expressions.{Expr, constant, attribute, one, pair, and_expr}
use Rattle.tree_core.specs.declared.tree.InfixWord.{InfixWord}
use Rattle.tree_core.specs.declared.tree.InfixWord.TheVariants.{Union, Minus}
use Rattle.tree_core.specs.Trees.{PlainSets, Tree, named, infix_of, restrict, extend, using}
use Rattle.tree_core.specs.Items.{PlainPortion, PlainChange, PlainItemForm, set_to, insert, delete, delete_rows, update, terminate, PlainItem, PlainAssignment}
use Rattle.meaning_core.specs.Histories.{type_at}
use Rattle.meaning_core.specs.Updates.{swept_list}

-- ---- conditions

-- a missing condition is TRUE
abbrev pub condition_of : Place → Option Expr → Expr
condition_of place None = constant place Truth (truth true)
condition_of place (Some c) = c

abbrev pub negated : Place → Expr → Expr
negated place c = one Not place c

-- A INCLUDED_IN i
abbrev pub lies_in : Place → Heading → ℕ × Expr → Expr
lies_in place heading p = pair (Allen IncludedIn (type_at heading p.0)) place (attribute place p.0) p.1

-- all of the conditions, joined by AND from the left
abbrev pub all_of : Place → Expr → List Expr → Expr
all_of place first rest = fold (and_expr place) first rest

-- all of the conditions, if there are any, and then another
abbrev pub all_and : Place → List Expr → Expr → Expr
all_and place [] c = c
all_and place (first ∷ rest) c = and_expr place (all_of place first rest) c

-- inside the portion, and as the condition says
abbrev pub inside : Place → Heading → PlainPortion → Expr → Expr
inside place heading portion c = all_and place (map (lies_in place heading) portion) c

abbrev pub inside_if : Place → Heading → Option PlainPortion → Expr → Expr
inside_if place heading None c = c
inside_if place heading (Some portion) c = inside place heading portion c

-- ---- expressions

-- the target itself
abbrev pub target_of : PlainItem → Tree
target_of item = named item.place item.heading item.target

-- the expression, under USING where a list is given
abbrev pub under_using : PlainItem → Option (List ℕ) → Tree → Tree
under_using item None t = t
under_using item (Some commalist) t = using item.place item.heading commalist t

-- the target and an operand, joined by a word
abbrev pub beside : PlainItem → InfixWord → Tree → Tree
beside item word t = infix_of item.place item.heading word (target_of item) t

abbrev pub with_operand : PlainItem → Option (List ℕ) → InfixWord → Tree → Tree
with_operand item commalist word t = under_using item commalist (beside item word t)

-- the target's rows that meet the condition
abbrev pub rows_where : PlainItem → Option (List ℕ) → Expr → Tree
rows_where item commalist c = under_using item commalist (restrict item.place item.heading c (target_of item))

-- the other rows
abbrev pub other_rows : PlainItem → Option (List ℕ) → Expr → Tree
other_rows item commalist c = rows_where item commalist (negated item.place c)

-- the rows that meet the condition, with new values
abbrev pub changed_rows : PlainItem → Option (List ℕ) → Expr → PlainSets → Tree
changed_rows item commalist c sets = under_using item commalist (extend item.place item.heading sets (rows_where item commalist c))

-- the other rows, and the changed ones
abbrev pub replaced : PlainItem → Option (List ℕ) → Expr → PlainSets → Tree
replaced item commalist c sets = infix_of item.place item.heading Union (other_rows item commalist c) (changed_rows item commalist c sets)

abbrev pub updated : PlainItem → Option (List ℕ) → Expr → PlainSets → Tree
updated item commalist c sets = under_using item commalist (replaced item commalist c sets)

-- ---- items

-- which points of which rows change
abbrev pub condition_of_change : PlainItem → PlainChange → Expr
condition_of_change item change = inside_if item.place item.heading change.portion (condition_of item.place change.condition)

abbrev pub list_of_change : PlainChange → Option (List ℕ)
list_of_change change = swept_list change.commalist change.portion

-- the expression that the target gets
abbrev pub source_of : PlainItem → PlainItemForm → Option Tree
source_of item (set_to t) = Some t
source_of item (insert commalist t) = Some (with_operand item commalist Union t)
source_of item (delete commalist t) = Some (with_operand item commalist Minus t)
source_of item (delete_rows change) = Some (other_rows item (list_of_change change) (condition_of_change item change))
source_of item (update change sets) = Some (updated item (list_of_change change) (condition_of_change item change) sets)
source_of item (terminate at place condition) = None

abbrev pub assigned_to : PlainItem → Option Tree → List PlainAssignment
assigned_to item None = []
assigned_to item (Some t) = record { target = item.target; tree = t } ∷ []

abbrev pub expanded : PlainItem → List PlainAssignment
expanded item = assigned_to item (source_of item item.form)

abbrev pub IsExpandable : PlainItemForm → Type 0
IsExpandable (terminate at place condition) = ⊥
IsExpandable _ = Unit {0}
