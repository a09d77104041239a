-- Which groups of a stored view a change of its operands touches, what they gain and lose, and what they cost.
--     left_of, right_of      the operands, as plain data
--     AreRelations, HaveOneHeading      what is known of operands, and of those before and after
--     touched_keys      the keys of the groups that are touched
--     gained      what some groups gain, group after group
--     AreMoves, IsAdded, IsSummed, IsOver, IsRefusedGroup      what is gathered group by group, and its sum
--     group_cost, groups_cost      the most steps
use Rattle.std.specs.Prelude.{◌≡◌, ◌≤◌, ◌<◌, ◌+◌, ℕ, List, ◌++◌, flat_map, length, sum_by, option_map, Option, Some, None, IsTrue}
use Rattle.base_core.specs.Sets.{has}
use Rattle.cell_core.specs.Costs.{bound}
use Rattle.value_core.specs.Relations.{all_fit}
use Rattle.value_core.specs.Values.{Row, Heading, Relation, IsRelation, row_cmp, rows_of, most_rows}
use Rattle.value_core.specs.declared.refuse.RowsRefuse.{RowsRefuse}
use Rattle.value_core.specs.declared.refuse.RowsRefuse.TheVariants.{TooMany, Memory}
use Rattle.relation_core.specs.Answers.{IsRefusal}
use Rattle.relation_core.specs.Operators.{subtracted}
use Rattle.relation_core.specs.Parts.{projected}
use Rattle.kept_views.specs.Kept.{heading_or_none, rows_or_none, left_key, right_key, of_key}
use Rattle.kept_views.specs.declared.group_moves.Moved.{Moved}
use Rattle.kept_views.specs.declared.moving.Moves.{Moves}
use Rattle.kept_views.specs.declared.rule.KeptRule.{KeptRule}
use Rattle.kept_views.specs.declared.rule.Operands.{Operands}

-- ---- operands

abbrev pub left_of : Operands → Relation
left_of o = o.left.now

abbrev pub right_of : Operands → Option Relation
right_of o = option_map (λ r. r.now) o.right

-- the operands' rows are sets that fit their headings
abbrev pub AreRelations : Relation → Option Relation → Type 0
AreRelations left None = IsRelation left
AreRelations left (Some right) = IsRelation left × IsRelation right

-- there is a second operand before and after, and it has one heading, or there is none
abbrev pub HaveOneHeading : Option Relation → Option Relation → Type 0
HaveOneHeading None None = Unit {0}
HaveOneHeading None (Some new) = ⊥
HaveOneHeading (Some old) None = ⊥
HaveOneHeading (Some old) (Some new) = old.heading ≡ new.heading

-- ---- keys

-- the keys at the positions of the rows that go, and of those that come
abbrev pub changed_keys : List ℕ → List Row → List Row → List Row
changed_keys positions old new = projected positions (subtracted old new) ++ projected positions (subtracted new old)

-- the keys of the groups that are touched, in order, each once: those of the rows that are in an operand before or after, and not both
abbrev pub touched_keys : KeptRule → Relation → Option Relation → Relation → Option Relation → List Row
touched_keys rule old_left old_right left right =
    rows_of (changed_keys (left_key rule.op rule.left left.heading (heading_or_none right)) old_left.rows left.rows
    ++ changed_keys (right_key rule.op rule.left left.heading (heading_or_none right)) (rows_or_none old_right) (rows_or_none right))

-- ---- what is gained and lost

-- what the groups of the keys gain where their rows are the new ones after the old ones, group after group
abbrev pub gained : List ℕ → List Row → List Row → List Row → List Row
gained places keys old new = flat_map (λ key. subtracted (of_key places key new) (of_key places key old)) keys

-- what the groups of the keys gain, and what they lose; all of it fits the heading
pub record AreMoves (heading : Heading) (places : List ℕ) (keys old new : List Row) (moves : Moves) : Type 0 where
  pub come : moves.come.items ≡ gained places keys old new
  pub come_fit : IsTrue (all_fit heading moves.come.items)
  pub gone : moves.gone.items ≡ gained places keys new old
  pub gone_fit : IsTrue (all_fit heading moves.gone.items)

-- what the group of the key gains and loses comes behind what is there
pub record IsAdded (heading : Heading) (places : List ℕ) (key : Row) (old new : List Row) (before after : Moves) : Type 0 where
  pub come : after.come.items ≡ before.come.items ++ subtracted (of_key places key new) (of_key places key old)
  pub come_fit : IsTrue (all_fit heading (subtracted (of_key places key new) (of_key places key old)))
  pub gone : after.gone.items ≡ before.gone.items ++ subtracted (of_key places key old) (of_key places key new)
  pub gone_fit : IsTrue (all_fit heading (subtracted (of_key places key old) (of_key places key new)))

-- all rows that come, and all that go, each once; and those are few that are there then
pub record IsSummed (heading : Heading) (old arrivals departures : List Row) (moved : Moved) : Type 0 where
  pub few : length old + length (rows_of arrivals) ≤ most_rows + length (rows_of departures)
  pub come_heading : moved.come.heading ≡ heading
  pub come : moved.come.rows ≡ rows_of arrivals
  pub gone_heading : moved.gone.heading ≡ heading
  pub gone : moved.gone.rows ≡ rows_of departures

-- there would be too many
abbrev pub IsOver : List Row → List Row → List Row → RowsRefuse → Type 0
IsOver old arrivals departures TooMany = most_rows + length (rows_of departures) < length old + length (rows_of arrivals)
IsOver old arrivals departures Memory = Unit {0}

-- a group of one of the keys is refused
pub record IsRefusedGroup (places : List ℕ) (keys rows : List Row) (e : RowsRefuse) : Type 0 where
  pub key : Row
  pub among : IsTrue (has row_cmp keys key)
  pub refused : IsRefusal (of_key places key rows) e

-- ---- steps

-- the most steps for the group of a key, by its rows in both operands together
abbrev pub group_cost : KeptRule → Relation → Option Relation → Row → ℕ
group_cost rule left right key =
    bound (length (of_key (left_key rule.op rule.left left.heading (heading_or_none right)) key left.rows)
    + length (of_key (right_key rule.op rule.left left.heading (heading_or_none right)) key (rows_or_none right))) (length rule.left)

-- and for those of some keys
abbrev pub groups_cost : KeptRule → Relation → Option Relation → List Row → ℕ
groups_cost rule left right keys = sum_by (group_cost rule left right) keys
