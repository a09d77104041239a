-- Which expressions and tests are typed: their parts have the kinds that their forms ask for, and their nodes the headings that
-- follow.
--     is_kind      which kinds there are, where so many ordinal types are declared
--     IsScalar      of expressions over rows
--     IsTypedTree, IsTypedTest      of relational expressions and tests, where names have these headings
use Rattle.std.specs.Prelude.{◌≡◌, ℕ, zero, suc, ◌<◌, ◌≤◌, Bool, true, false, not, ◌&&◌, List, [], ◌∷◌, ◌++◌, filter, length, nat_eq, Option, Some, None, is_none, IsTrue, if◌then◌else◌}
use Rattle.std.specs.List.{list_any, list_all, All, IsDistinct}
use Rattle.std.specs.Ordering.{nat_cmp}
use Rattle.std.specs.Str.{bytes_eq}
use Rattle.base_core.specs.Sets.{is_set}
use Rattle.point_core.specs.declared.any_type.AnyType.{AnyType}
use Rattle.point_core.specs.declared.any_type.AnyType.TheVariants.{Integer, Date, Ordinal, Moment}
use Rattle.value_core.specs.declared.kind.Kind.{Kind}
use Rattle.value_core.specs.declared.kind.Kind.TheVariants.{Truth, Char, Point, Span}
use Rattle.value_core.specs.Attributes.{among}
use Rattle.value_core.specs.Headings.{IsHeadingOf, has_name}
use Rattle.value_core.specs.Limits.{most_attributes, most_listed}
use Rattle.value_core.specs.Values.{Name, Heading, is_heading}
use Rattle.scalar_core.specs.Expressions.{Expr, constant, attribute, one, pair, and_expr, or_expr}
use Rattle.scalar_core.specs.KindOf.{same_kind}
use Rattle.scalar_core.specs.Kinds.{IsTyped, IsOrdered}
use Rattle.relation_core.specs.Agreement.{names_of, position_of}
use Rattle.relation_core.specs.Joins.{joined_heading, HaveEqualKinds}
use Rattle.relation_core.specs.Parts.{kind_at, attributes_at, renamed}
use Rattle.tree_core.specs.Trees.{PlainSets, PlainAggregateForm, count_rows, sum_of, min_of, max_of, PlainAggregate, Tree, named, literal, infix_of, project, rename, restrict, extend, summarize, pack, unpack, using, heading_of, Test, relate, is_empty, is_not_empty}
use Rattle.tree_core.specs.declared.tree.InfixWord.{InfixWord}
use Rattle.tree_core.specs.declared.tree.InfixWord.TheVariants.{Union, Intersect, Minus, Join, Matching, NotMatching}
use Rattle.meaning_core.specs.Meanings.{positions_of, names_at}
use Rattle.scalar_core.specs.Sweeping.{sweep_fault, names_any}

-- ---- kinds

-- a declared ordinal type, by its place among the declared ones and the number of its last value
abbrev pub is_ordinal : List ℕ → ℕ → ℕ → Bool
is_ordinal [] of last = false
is_ordinal (n ∷ ns) zero last = nat_eq n (suc last)
is_ordinal (n ∷ ns) (suc of) last = is_ordinal ns of last

-- the point types there are; of the ordinal types the numbers of their values are given, in order of declaration
abbrev pub is_type : List ℕ → AnyType → Bool
is_type sizes Integer = true
is_type sizes Date = true
is_type sizes (Ordinal of last) = is_ordinal sizes of last
is_type sizes Moment = true

abbrev pub is_kind : List ℕ → Kind → Bool
is_kind sizes Truth = true
is_kind sizes Char = true
is_kind sizes (Point t) = is_type sizes t
is_kind sizes (Span t) = is_type sizes t

-- few enough attributes, with different names and of kinds there are
abbrev pub is_declared : List ℕ → Heading → Bool
is_declared sizes h = is_heading h && list_all (λ a. is_kind sizes a.1) h

-- ---- expressions over rows

-- the constants are of kinds there are
abbrev pub has_declared : List ℕ → Expr → Bool
has_declared sizes (constant place kind v) = is_kind sizes kind
has_declared sizes (attribute place i) = true
has_declared sizes (one op place e) = has_declared sizes e
has_declared sizes (pair op place l r) = has_declared sizes l && has_declared sizes r
has_declared sizes (and_expr place l r) = has_declared sizes l && has_declared sizes r
has_declared sizes (or_expr place l r) = has_declared sizes l && has_declared sizes r

-- the expression has values of the kind over the heading
pub record IsScalar (sizes : List ℕ) (heading : Heading) (e : Expr) (kind : Kind) : Type 0 where
  pub declared : IsTrue (has_declared sizes e)
  pub typed : IsTyped heading e kind

-- the items make these attributes, in their order
abbrev pub Makes : List ℕ → Heading → PlainSets → Heading → Type 0
Makes sizes from [] [] = Unit {0}
Makes sizes from [] (a ∷ made) = ⊥
Makes sizes from (s ∷ sets) [] = ⊥
Makes sizes from (s ∷ sets) (a ∷ made) = (s.0 ≡ a.0) × IsScalar sizes from s.1 a.1 × Makes sizes from sets made

-- the kind of an aggregate's value
abbrev pub HasKind : List ℕ → Heading → PlainAggregateForm → Kind → Type 0
HasKind sizes from count_rows kind = kind ≡ Point Integer
HasKind sizes from (sum_of e) kind = IsScalar sizes from e kind × (kind ≡ Point Integer)
HasKind sizes from (min_of e) kind = IsScalar sizes from e kind × IsOrdered kind
HasKind sizes from (max_of e) kind = IsScalar sizes from e kind × IsOrdered kind

-- the aggregates make these attributes, in their order
abbrev pub Sums : List ℕ → Heading → List PlainAggregate → Heading → Type 0
Sums sizes from [] [] = Unit {0}
Sums sizes from [] (a ∷ made) = ⊥
Sums sizes from (g ∷ aggregates) [] = ⊥
Sums sizes from (g ∷ aggregates) (a ∷ made) = (g.name ≡ a.0) × HasKind sizes from g.form a.1 × Sums sizes from aggregates made

-- ---- nodes

-- a tuple makes the attributes of the heading
pub record IsTuple (sizes : List ℕ) (heading : Heading) (tuple : PlainSets) : Type 0 where
  pub made : Heading
  pub makes : Makes sizes [] tuple made
  pub headed : IsHeadingOf made heading

-- the headings of two operands and of their node
abbrev pub IsInfix : InfixWord → Heading → Heading → Heading → Type 0
IsInfix Union left right h = (left ≡ right) × (h ≡ left)
IsInfix Intersect left right h = (left ≡ right) × (h ≡ left)
IsInfix Minus left right h = (left ≡ right) × (h ≡ left)
IsInfix Join left right h = HaveEqualKinds left right × (h ≡ joined_heading left right) × (length h ≤ most_attributes)
IsInfix Matching left right h = HaveEqualKinds left right × (h ≡ left)
IsInfix NotMatching left right h = HaveEqualKinds left right × (h ≡ left)

-- the positions ascend and lie in the heading
pub record ArePositions (heading : Heading) (positions : List ℕ) : Type 0 where
  pub ascending : IsTrue (is_set nat_cmp positions)
  pub within : All (λ (i : ℕ). i < length heading) positions

pub record IsProjection (from to : Heading) (kept : List ℕ) : Type 0 where
  pub positions : ArePositions from kept
  pub headed : to ≡ attributes_at kept from

-- a new name for each attribute, and all different
pub record IsRenaming (from to : Heading) (names : List Name) : Type 0 where
  pub one_each : length names ≡ length from
  pub different : IsDistinct bytes_eq names
  pub headed : IsHeadingOf (renamed names from) to

pub record IsRestriction (sizes : List ℕ) (from to : Heading) (c : Expr) : Type 0 where
  pub condition : IsScalar sizes from c Truth
  pub headed : to ≡ from

-- the attributes that are not among the names
abbrev pub not_named : List Name → Heading → Heading
not_named names heading = filter (λ a. not (list_any (bytes_eq a.0) names)) heading

-- the items make new attributes, or stand in place of old ones
pub record IsExtension (sizes : List ℕ) (from to : Heading) (sets : PlainSets) : Type 0 where
  pub made : Heading
  pub makes : Makes sizes from sets made
  pub headed : IsHeadingOf (made ++ not_named (names_of made) from) to

-- the aggregates stand beside the attributes of the groups
pub record IsSummary (sizes : List ℕ) (from to : Heading) (by : List ℕ) (aggregates : List PlainAggregate) : Type 0 where
  pub positions : ArePositions from by
  pub made : Heading
  pub makes : Sums sizes from aggregates made
  pub headed : IsHeadingOf (made ++ attributes_at by from) to

-- ---- lists of interval attributes

abbrev pub is_span : Kind → Bool
is_span (Span t) = true
is_span _ = false

-- different positions of interval attributes, and few enough
pub record IsList (heading : Heading) (commalist : List ℕ) : Type 0 where
  pub within : All (λ (i : ℕ). i < length heading) commalist
  pub different : IsDistinct nat_eq commalist
  pub spans : IsTrue (list_all (λ i. is_span (kind_at heading i)) commalist)
  pub few : length commalist ≤ most_listed

-- the attribute of the name has the same kind in both
abbrev pub is_alike_at : Heading → Heading → Name → Bool
is_alike_at h g name = has_name h name && (has_name g name && same_kind (kind_at h (position_of h name)) (kind_at g (position_of g name)))

abbrev pub are_in : Heading → List Name → Heading → Bool
are_in h names g = list_all (is_alike_at h g) names

abbrev pub is_swept : List ℕ → Expr → Bool
is_swept commalist e = is_none (sweep_fault commalist e)

abbrev pub names_none : List ℕ → PlainAggregateForm → Bool
names_none commalist count_rows = true
names_none commalist (sum_of e) = not (names_any commalist e)
names_none commalist (min_of e) = not (names_any commalist e)
names_none commalist (max_of e) = not (names_any commalist e)

-- the part of a USING: an operator that keeps the attributes and works point by point
abbrev pub is_part : List Name → Tree → Bool
is_part names (infix_of place h word l r) = are_in h names (heading_of l) && are_in h names (heading_of r)
is_part names (project place h kept t) = are_in h names (heading_of t)
is_part names (restrict place h c t) = is_swept (positions_of (heading_of t) names) c
is_part names (extend place h sets t) =
    are_in h names (heading_of t) && (list_all (λ s. is_swept (positions_of (heading_of t) names) s.1) sets
    && not (list_any (λ n. list_any (λ s. bytes_eq n s.0) sets) names))
is_part names (summarize place h by aggregates t) =
    are_in h names (heading_of t) && (list_all (among by) (positions_of (heading_of t) names)
    && list_all (λ a. names_none (positions_of (heading_of t) names) a.form) aggregates)
is_part names _ = false

-- ---- relational expressions

-- the headings of relvars and views
abbrev pub Headings : Type 0
Headings = List (Name × Heading)

abbrev pub heading_named : Headings → Name → Option Heading
heading_named [] name = None
heading_named (k ∷ ks) name = if bytes_eq k.0 name then Some k.1 else heading_named ks name

-- the expression is typed; sizes are the numbers of values of the declared ordinal types
abbrev pub IsTypedTree : List ℕ → Headings → Tree → Type 0
IsTypedTree sizes headings (named place h name) = heading_named headings name ≡ Some h
IsTypedTree sizes headings (literal place h tuples) = IsTrue (is_declared sizes h) × All (IsTuple sizes h) tuples
IsTypedTree sizes headings (infix_of place h word l r) =
    IsTypedTree sizes headings l × IsTypedTree sizes headings r × IsInfix word (heading_of l) (heading_of r) h
IsTypedTree sizes headings (project place h kept t) = IsTypedTree sizes headings t × IsProjection (heading_of t) h kept
IsTypedTree sizes headings (rename place h names t) = IsTypedTree sizes headings t × IsRenaming (heading_of t) h names
IsTypedTree sizes headings (restrict place h c t) = IsTypedTree sizes headings t × IsRestriction sizes (heading_of t) h c
IsTypedTree sizes headings (extend place h sets t) = IsTypedTree sizes headings t × IsExtension sizes (heading_of t) h sets
IsTypedTree sizes headings (summarize place h by aggregates t) =
    IsTypedTree sizes headings t × IsSummary sizes (heading_of t) h by aggregates
IsTypedTree sizes headings (pack place h commalist t) = IsTypedTree sizes headings t × IsList h commalist × (h ≡ heading_of t)
IsTypedTree sizes headings (unpack place h commalist t) = IsTypedTree sizes headings t × IsList h commalist × (h ≡ heading_of t)
IsTypedTree sizes headings (using place h commalist t) =
    IsTypedTree sizes headings t × IsList h commalist × (h ≡ heading_of t) × IsTrue (is_part (names_at h commalist) t)

-- ---- tests

abbrev pub IsListIf : Heading → Option (List ℕ) → Type 0
IsListIf h None = Unit {0}
IsListIf h (Some commalist) = IsList h commalist

abbrev pub IsTypedTest : List ℕ → Headings → Test → Type 0
IsTypedTest sizes headings (relate place word commalist l r) =
    IsTypedTree sizes headings l × IsTypedTree sizes headings r × (heading_of l ≡ heading_of r) × IsListIf (heading_of l) commalist
IsTypedTest sizes headings (is_empty place t) = IsTypedTree sizes headings t
IsTypedTest sizes headings (is_not_empty place t) = IsTypedTree sizes headings t
