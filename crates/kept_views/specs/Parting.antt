-- What a view's operands gain and lose, seen at the keys of the rows that come and go alone.
--     HasHeading, HasHeadingIf      the rows that come and go are told under the operand's heading
--     keys_told, all_told      the keys of the rows that come and go
--     rows_after      rows less those that go, with those that come
--     part_after, part_after_or_none      an operand's rows with some keys afterwards
--     ArePartsAfter      those of the view before, and of both operands afterwards
use Rattle.std.specs.Prelude.{◌≡◌, ◌++◌, ℕ, List, [], Option, Some, None}
use Rattle.value_core.specs.Values.{Row, Heading, Relation, rows_of}
use Rattle.relation_core.specs.Operators.{united, subtracted}
use Rattle.relation_core.specs.Parts.{projected}
use Rattle.u_constraints.specs.Near.{with_keys}
use Rattle.kept_views.specs.Kept.{heading_or_none, left_key, right_key, view_key}
use Rattle.kept_views.specs.declared.group_moves.Moved.{Moved}
use Rattle.kept_views.specs.declared.parting.Parts.{Parts}
use Rattle.kept_views.specs.declared.rule.KeptRule.{KeptRule}

-- the rows that come and go have the heading, where some are told
abbrev pub HasHeading : Heading → Option Moved → Type 0
HasHeading heading None = Unit {0}
HasHeading heading (Some m) = (m.gone.heading ≡ heading) × (m.come.heading ≡ heading)

-- the same of an operand that there may not be, and then none are told
abbrev pub HasHeadingIf : Option Relation → Option Moved → Type 0
HasHeadingIf None None = Unit {0}
HasHeadingIf None (Some m) = ⊥
HasHeadingIf (Some r) d = HasHeading r.heading d

-- the keys at the positions of the rows that go, and of those that come
abbrev pub keys_told : List ℕ → Option Moved → List Row
keys_told positions None = []
keys_told positions (Some m) = projected positions m.gone.rows ++ projected positions m.come.rows

-- those of both operands, in order, each once
abbrev pub all_told : KeptRule → Relation → Option Relation → Option Moved → Option Moved → List Row
all_told rule left right d e =
    rows_of (keys_told (left_key rule.op rule.left left.heading (heading_or_none right)) d
    ++ keys_told (right_key rule.op rule.left left.heading (heading_or_none right)) e)

-- the rows less those that go, with those that come
abbrev pub rows_after : List Row → Option Moved → List Row
rows_after rows None = rows
rows_after rows (Some m) = united (subtracted rows m.gone.rows) m.come.rows

-- the operand's rows with one of the keys, afterwards
abbrev pub part_after : List ℕ → List Row → Relation → Option Moved → Relation
part_after positions keys r d = record { heading = r.heading; rows = rows_after (with_keys positions keys r.rows) d }

abbrev pub part_after_or_none : List ℕ → List Row → Option Relation → Option Moved → Option Relation
part_after_or_none positions keys None d = None
part_after_or_none positions keys (Some r) d = Some (part_after positions keys r d)

-- the view's rows with one of the keys, and those of both operands afterwards
pub record ArePartsAfter (rule : KeptRule) (keys : List Row) (view left : Relation) (right : Option Relation) (d e : Option Moved) (parts : Parts) : Type 0 where
  pub view_heading : parts.view.heading ≡ view.heading
  pub view_rows : parts.view.rows ≡ with_keys (view_key rule.op rule.left left.heading (heading_or_none right)) keys view.rows
  pub of_left : parts.left ≡ part_after (left_key rule.op rule.left left.heading (heading_or_none right)) keys left d
  pub of_right : parts.right ≡ part_after_or_none (right_key rule.op rule.left left.heading (heading_or_none right)) keys right e
