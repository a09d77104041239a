-- What a stored view means: the rows that an operator gives of its operands under USING, or those of PACK.
--     view_heading, kept_rows      the heading of the view, and its rows
--     left_key, right_key, view_key      where the values by which rows go into groups stand in the operands and in the view
--     of_key      the rows of a group
--     IsParted      the rows of a group of the view are those that the groups of its operands give
--     Fits      which operands a rule has
--     IsMoved      what a view gains and loses
use Rattle.std.specs.Prelude.{◌≡◌, ◌≤◌, ◌<◌, ℕ, Bool, not, List, map, filter, length, Option, Some, None, IsTrue}
use Rattle.std.specs.List.{All, list_any}
use Rattle.std.specs.Ordering.{eq_by_cmp, nat_cmp}
use Rattle.std.specs.Str.{bytes_eq}
use Rattle.base_core.specs.Sets.{is_set}
use Rattle.value_core.specs.Attributes.{among}
use Rattle.value_core.specs.Headings.{position_of, most_attributes}
use Rattle.value_core.specs.RowPacking.{packed, unpacked}
use Rattle.value_core.specs.Values.{Name, Row, Heading, Relation, row_cmp, most_rows}
use Rattle.relation_core.specs.Agreement.{names_of, common_names, part_of, matched, unmatched}
use Rattle.relation_core.specs.Intervals.{AreIntervals}
use Rattle.relation_core.specs.Joins.{HaveEqualKinds, joined_heading, joined}
use Rattle.relation_core.specs.Operators.{united, intersected, subtracted}
use Rattle.relation_core.specs.Parts.{attributes_at, projected}
pub use Rattle.meaning_core.specs.Meanings.{names_at}
pub use Rattle.u_constraints.specs.Constraints.{heading_or_none, rows_or_none}
use Rattle.kept_views.specs.declared.rule.KeptOp.{KeptOp}
use Rattle.kept_views.specs.declared.rule.KeptOp.TheVariants.{Union, Intersect, Minus, Join, Matching, NotMatching, Project, Pack}
use Rattle.kept_views.specs.declared.rule.KeptRule.{KeptRule}
use Rattle.kept_views.specs.declared.group_moves.Moved.{Moved}

-- ---- headings and positions

-- where the attributes at positions of one heading stand in another
abbrev pub positions_beside : Heading → Heading → List ℕ → List ℕ
positions_beside from to positions = map (position_of to) (names_at from positions)

-- the heading of the view
abbrev pub view_heading : KeptOp → Heading → Heading → Heading
view_heading Join left right = joined_heading left right
view_heading (Project kept) left right = attributes_at kept left
view_heading _ left right = left

-- where the listed attributes stand in the view
abbrev pub listed : KeptOp → List ℕ → Heading → Heading → List ℕ
listed Join here left right = positions_beside left (joined_heading left right) here
listed (Project kept) here left right = positions_beside left (attributes_at kept left) here
listed _ here left right = here

-- ---- rows

-- what the operator gives of the rows of both operands
abbrev pub plain_rows : KeptOp → Heading → Heading → List Row → List Row → List Row
plain_rows Union left right r s = united r s
plain_rows Intersect left right r s = intersected r s
plain_rows Minus left right r s = subtracted r s
plain_rows Join left right r s = joined left right r s
plain_rows Matching left right r s = matched left right r s
plain_rows NotMatching left right r s = unmatched left right r s
plain_rows (Project kept) left right r s = projected kept r
plain_rows Pack left right r s = r

-- an operand as the operator sees it: unpacked, but for PACK
abbrev pub opened : KeptOp → List ℕ → List Row → List Row
opened Pack commalist rows = rows
opened _ commalist rows = unpacked commalist rows

-- the rows of the view, of operands of these headings with these rows
abbrev pub rows_by : KeptOp → List ℕ → List ℕ → Heading → Heading → List Row → List Row → List Row
rows_by op here there left right r s = packed (listed op here left right) (plain_rows op left right (opened op here r) (opened op there s))

abbrev pub kept_heading : KeptRule → Relation → Option Relation → Heading
kept_heading rule left right = view_heading rule.op left.heading (heading_or_none right)

abbrev pub kept_rows : KeptRule → Relation → Option Relation → List Row
kept_rows rule left right = rows_by rule.op rule.left rule.right left.heading (heading_or_none right) left.rows (rows_or_none right)

-- ---- groups

-- the names by which rows are told apart: all of them, the kept ones, or the common ones
abbrev pub telling_names : KeptOp → Heading → Heading → List Name
telling_names Join left right = common_names left right
telling_names Matching left right = common_names left right
telling_names NotMatching left right = common_names left right
telling_names (Project kept) left right = names_at left kept
telling_names _ left right = names_of left

-- those of the names that are not listed
abbrev pub unlisted_names : List Name → List Name → List Name
unlisted_names listed names = filter (λ n. not (list_any (bytes_eq n) listed)) names

-- the names whose values are the key of a group
abbrev pub key_names : KeptOp → List ℕ → Heading → Heading → List Name
key_names op here left right = unlisted_names (names_at left here) (telling_names op left right)

-- where they stand
abbrev pub left_key : KeptOp → List ℕ → Heading → Heading → List ℕ
left_key op here left right = map (position_of left) (key_names op here left right)

abbrev pub right_key : KeptOp → List ℕ → Heading → Heading → List ℕ
right_key op here left right = map (position_of right) (key_names op here left right)

abbrev pub view_key : KeptOp → List ℕ → Heading → Heading → List ℕ
view_key op here left right = map (position_of (view_heading op left right)) (key_names op here left right)

-- the kept positions are some of the left operand's
abbrev pub IsToldIn : KeptOp → Heading → Type 0
IsToldIn (Project kept) left = All (λ (i : ℕ). i < length left) kept
IsToldIn _ left = Unit {0}

-- whether the row's values at the positions are the key, and the rows of which they are
abbrev pub has_key : List ℕ → Row → Row → Bool
has_key positions key row = eq_by_cmp row_cmp (part_of positions row) key

abbrev pub of_key : List ℕ → Row → List Row → List Row
of_key positions key rows = filter (has_key positions key) rows

-- the rows of a group of the view are those that the operator gives of the operands' rows of that group alone
abbrev pub IsParted : KeptOp → List ℕ → List ℕ → Heading → Heading → List Row → List Row → Type 0
IsParted op here there left right r s = (key : Row) →
    of_key (view_key op here left right) key (rows_by op here there left right r s)
    ≡ rows_by op here there left right (of_key (left_key op here left right) key r) (of_key (right_key op here left right) key s)

-- ---- operands

-- both have one heading, and the same positions are listed
pub record AreAlike (here there : List ℕ) (left right : Heading) : Type 0 where
  pub heading : left ≡ right
  pub positions : there ≡ here
  pub intervals : AreIntervals left here

-- the same attributes are listed of both, and those that stand in both have the same kinds
pub record AreListed (here there : List ℕ) (left right : Heading) : Type 0 where
  pub kinds : HaveEqualKinds left right
  pub same : attributes_at here left ≡ attributes_at there right
  pub first : AreIntervals left here
  pub second : AreIntervals right there

-- and the attributes of both together are few
pub record AreJoined (here there : List ℕ) (left right : Heading) : Type 0 where
  pub are : AreListed here there left right
  pub few : length (joined_heading left right) ≤ most_attributes

-- the listed attributes are among the kept ones, whose positions ascend
pub record IsPart (kept here : List ℕ) (left : Heading) : Type 0 where
  pub ascending : IsTrue (is_set nat_cmp kept)
  pub within : All (λ (i : ℕ). i < length left) kept
  pub covered : All (λ (i : ℕ). IsTrue (among kept i)) here
  pub intervals : AreIntervals left here

abbrev pub IsPair : KeptOp → List ℕ → List ℕ → Heading → Heading → Type 0
IsPair Union here there left right = AreAlike here there left right
IsPair Intersect here there left right = AreAlike here there left right
IsPair Minus here there left right = AreAlike here there left right
IsPair Join here there left right = AreJoined here there left right
IsPair Matching here there left right = AreListed here there left right
IsPair NotMatching here there left right = AreListed here there left right
IsPair (Project kept) here there left right = ⊥
IsPair Pack here there left right = ⊥

abbrev pub IsAlone : KeptOp → List ℕ → Heading → Type 0
IsAlone (Project kept) here left = IsPart kept here left
IsAlone Pack here left = AreIntervals left here
IsAlone _ here left = ⊥

-- the operands that the rule can be applied to
abbrev pub Fits : KeptRule → Relation → Option Relation → Type 0
Fits rule left None = IsAlone rule.op rule.left left.heading
Fits rule left (Some right) = IsPair rule.op rule.left rule.right left.heading right.heading

-- ---- what a view gains and loses

-- the rows of the one that the other has not, and the other way round; and the new ones are not too many
pub record IsMoved (heading : Heading) (old new : List Row) (moved : Moved) : Type 0 where
  pub few : length new ≤ most_rows
  pub come_heading : moved.come.heading ≡ heading
  pub come : moved.come.rows ≡ subtracted new old
  pub gone_heading : moved.gone.heading ≡ heading
  pub gone : moved.gone.rows ≡ subtracted old new
