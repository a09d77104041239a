-- Rows behind their keys, in the order of these.
--     is_behind, keyed, rows_behind      a list of rows behind their keys
--     AreSorted      all rows with one of some keys, in order
--     IsGroup, AreGroups      those of a view and of its operands
use Rattle.std.specs.Prelude.{◌≡◌, ℕ, Bool, List, map, filter, Option, Some, None, IsTrue}
use Rattle.std.specs.List.Sorted.{IsSortedByKey}
use Rattle.std.specs.Ordering.{eq_by_cmp}
use Rattle.base_core.specs.Sets.{has}
use Rattle.value_core.specs.Values.{Row, Relation, row_cmp}
use Rattle.relation_core.specs.Agreement.{part_of}
use Rattle.kept_views.specs.Kept.{heading_or_none, rows_or_none, left_key, right_key, view_key, of_key}
use Rattle.kept_views.specs.declared.moving.SortedRows.{SortedRows}
use Rattle.kept_views.specs.declared.rule.KeptRule.{KeptRule}

-- whether the entry stands behind the key
abbrev pub is_behind : Row → Row × Row → Bool
is_behind key entry = eq_by_cmp row_cmp entry.0 key

-- the rows behind their values at the positions
abbrev pub keyed : List ℕ → List Row → List (Row × Row)
keyed positions rows = map (λ x. (part_of positions x, x)) rows

-- those behind the key
abbrev pub rows_behind : Row → List (Row × Row) → List Row
rows_behind key list = map (λ (entry : Row × Row). entry.1) (filter (is_behind key) list)

-- the relation with these rows, if there is one
abbrev pub with_rows : List Row → Option Relation → Option Relation
with_rows rows None = None
with_rows rows (Some r) = Some (record { heading = r.heading; rows = rows })

-- rows behind their keys, in the order of these: all those with one of the keys
pub record AreSorted (positions : List ℕ) (keys rows : List Row) (list : List (Row × Row)) : Type 0 where
  pub ascending : IsSortedByKey (λ (entry : Row × Row). entry.0) row_cmp list
  pub complete : (key : Row) → IsTrue (has row_cmp keys key) → rows_behind key list ≡ of_key positions key rows

-- those with one key
pub record AreBehind (positions : List ℕ) (key : Row) (rows : List Row) (list : List (Row × Row)) : Type 0 where
  pub ascending : IsSortedByKey (λ (entry : Row × Row). entry.0) row_cmp list
  pub complete : rows_behind key list ≡ of_key positions key rows

-- the rows with some keys, of a view and of its operands
pub record AreAllSorted (rule : KeptRule) (keys rows : List Row) (left : Relation) (right : Option Relation) (all : SortedRows) : Type 0 where
  pub of_view : AreSorted (view_key rule.op rule.left left.heading (heading_or_none right)) keys rows all.view.items
  pub of_left : AreSorted (left_key rule.op rule.left left.heading (heading_or_none right)) keys left.rows all.left.items
  pub of_right : AreSorted (right_key rule.op rule.left left.heading (heading_or_none right)) keys (rows_or_none right) all.right.items

-- those with one key
pub record IsGroup (rule : KeptRule) (key : Row) (rows : List Row) (left : Relation) (right : Option Relation) (all : SortedRows) : Type 0 where
  pub of_view : AreBehind (view_key rule.op rule.left left.heading (heading_or_none right)) key rows all.view.items
  pub of_left : AreBehind (left_key rule.op rule.left left.heading (heading_or_none right)) key left.rows all.left.items
  pub of_right : AreBehind (right_key rule.op rule.left left.heading (heading_or_none right)) key (rows_or_none right) all.right.items
