-- What it takes to bring the rows of stored views up to date: the steps for the groups of rows that the change of their operands touches.
--     left_value, right_value      the values of the operands of an expression
--     move_cost, moves_cost      the most steps for a stored view, and for all
--     TakesSo      what an entry takes
--     is_touched      whether an operand has a new value
--     AreFirstChanges      new values of the first of some entries
use Rattle.std.specs.Prelude.{ℕ, ◌+◌, ◌≤◌, Bool, List, [], ◌∷◌, is_some, Option, Some, None}
use Rattle.value_core.specs.Values.{Row, Relation}
use Rattle.tree_core.specs.Relvars.{PlainRelvar, Entries, relvar_named}
use Rattle.tree_core.specs.Trees.{Tree, named, infix_of, project, pack, using}
use Rattle.tree_core.specs.Uses.{names_any}
use Rattle.relvar_logs.specs.Changes.{Changes, change_named, IsChange}
use Rattle.kept_views.specs.Touched.{groups_cost, touched_keys}
use Rattle.stored_views.specs.Operands.{value_if}
use Rattle.stored_views.specs.Rules.{rule_for}
use Rattle.stored_views.specs.Stored.{stored_tree}

-- ---- the values of operands

-- the relation; one without attributes and rows, where there is none
abbrev pub value_or_none : Option Relation → Relation
value_or_none None = record { heading = []; rows = [] }
value_or_none (Some value) = value

-- the value of the base relvar that an operand names
abbrev pub operand_value : Entries → Tree → Relation
operand_value all (named place h name) = value_or_none (value_if (relvar_named all name))
operand_value all _ = value_or_none None

abbrev pub left_of_part : Entries → Tree → Relation
left_of_part all (infix_of place h word l r) = operand_value all l
left_of_part all (project place h kept t) = operand_value all t
left_of_part all _ = value_or_none None

abbrev pub right_of_part : Entries → Tree → Option Relation
right_of_part all (infix_of place h word l r) = Some (operand_value all r)
right_of_part all _ = None

-- the value of the left operand of a stored view's expression, and that of the right one, if it has two
abbrev pub left_value : Entries → Tree → Relation
left_value all (using place h commalist t) = left_of_part all t
left_value all (pack place h commalist t) = operand_value all t
left_value all _ = value_or_none None

abbrev pub right_value : Entries → Tree → Option Relation
right_value all (using place h commalist t) = right_of_part all t
right_value all _ = None

-- ---- the touched groups

-- the keys of the groups of the view that change with its operands
abbrev pub keys_between : Entries → Entries → Tree → List Row
keys_between before after t = touched_keys (rule_for t) (left_value before t) (right_value before t) (left_value after t) (right_value after t)

-- the most steps for these groups
abbrev pub move_cost : Entries → Entries → Tree → ℕ
move_cost before after t = groups_cost (rule_for t) (left_value after t) (right_value after t) (keys_between before after t)

abbrev pub move_cost_if : Entries → Entries → Option Tree → ℕ
move_cost_if before after None = 0
move_cost_if before after (Some t) = move_cost before after t

-- those of the stored views among some entries
abbrev pub moves_among : Entries → Entries → Entries → ℕ
moves_among before after [] = 0
moves_among before after (r ∷ rest) = move_cost_if before after (stored_tree r.1) + moves_among before after rest

-- the sum over the groups that change with the operands of stored views
abbrev pub moves_cost : Entries → Entries → ℕ
moves_cost before after = moves_among before after before

-- the steps for an entry
pub record TakesSo (before after : Entries) (old new : ℕ) (r : PlainRelvar) : Type 0 where
  pub most : new ≤ old + move_cost_if before after (stored_tree r)

-- ---- new values

-- whether one of the relvars that the expression names has a new value
abbrev pub is_touched : Changes → Entries → Tree → Bool
is_touched changes entries t = names_any (λ name. is_some (change_named changes entries name)) t

-- new values of base relvars among the first of the entries; behind the list there are none
abbrev pub AreFirstChanges : Changes → Entries → Type 0
AreFirstChanges [] entries = Unit {0}
AreFirstChanges (c ∷ cs) [] = ⊥
AreFirstChanges (c ∷ cs) (r ∷ rest) = IsChange c r.1 × AreFirstChanges cs rest
