-- The kind of an expression's values, where it is typed for a heading.
use Rattle.std.specs.Prelude.{Bool, true, false, ◌&&◌, nat_eq, Option, Some, None, slice_get, option_map, if◌then◌else◌}
use Rattle.point_core.specs.declared.any_type.AnyType.{AnyType}
use Rattle.point_core.specs.declared.any_type.AnyType.TheVariants.{Integer, Date, Ordinal, Moment}
use Rattle.value_core.specs.declared.kind.Kind.{Kind}
use Rattle.value_core.specs.declared.kind.Kind.TheVariants.{Truth, Char, Point, Span}
use Rattle.value_core.specs.Values.{Name, Heading, fits}
use Rattle.scalar_core.specs.declared.operators.OneOp.{OneOp}
use Rattle.scalar_core.specs.declared.operators.OneOp.TheVariants.{Not, Negate, BeginOf, EndOf, PreOf, PostOf, CountOf, NextOf, PriorOf}
use Rattle.scalar_core.specs.declared.operators.PairOp.{PairOp}
use Rattle.scalar_core.specs.declared.operators.PairOp.TheVariants.{Add, Subtract, Multiply, Divide, Concat, Compare, Allen, Member, Select, UnionOf, IntersectOf, MinusOf}
use Rattle.scalar_core.specs.declared.tree.CompareWord.{CompareWord}
use Rattle.scalar_core.specs.declared.tree.CompareWord.TheVariants.{Equal, NotEqual, Less, LessEqual, Greater, GreaterEqual}
use Rattle.scalar_core.specs.Expressions.{Expr, constant, attribute, one, pair, and_expr, or_expr}

abbrev pub same_type : AnyType → AnyType → Bool
same_type Integer Integer = true
same_type Date Date = true
same_type (Ordinal of last) (Ordinal at end) = nat_eq of at && nat_eq last end
same_type Moment Moment = true
same_type _ _ = false

abbrev pub same_kind : Kind → Kind → Bool
same_kind Truth Truth = true
same_kind Char Char = true
same_kind (Point t) (Point u) = same_type t u
same_kind (Span t) (Span u) = same_type t u
same_kind _ _ = false

-- values of any kind are equal or not; texts and points are less or greater
abbrev pub is_ordered : Kind → Bool
is_ordered Truth = false
is_ordered Char = true
is_ordered (Point t) = true
is_ordered (Span t) = false

abbrev pub compares : CompareWord → Kind → Bool
compares Equal kind = true
compares NotEqual kind = true
compares Less kind = is_ordered kind
compares LessEqual kind = is_ordered kind
compares Greater kind = is_ordered kind
compares GreaterEqual kind = is_ordered kind

-- the points of an interval
abbrev pub point_kind : Kind → Option Kind
point_kind (Span t) = Some (Point t)
point_kind _ = None

abbrev pub only : Bool → Kind → Option Kind
only b kind = if b then Some kind else None

-- the kind that the operator gives of a part of this kind
abbrev pub one_kind : OneOp → Kind → Option Kind
one_kind Not part = only (same_kind part Truth) Truth
one_kind Negate part = only (same_kind part (Point Integer)) (Point Integer)
one_kind BeginOf part = point_kind part
one_kind EndOf part = point_kind part
one_kind (PreOf t) part = only (same_kind part (Span t)) (Point t)
one_kind (PostOf t) part = only (same_kind part (Span t)) (Point t)
one_kind (CountOf t) part = only (same_kind part (Span t)) (Point Integer)
one_kind (NextOf t) part = only (same_kind part (Point t)) (Point t)
one_kind (PriorOf t) part = only (same_kind part (Point t)) (Point t)

-- both parts are of these kinds
abbrev pub are_of : Kind → Kind → Kind → Kind → Bool
are_of a b left right = same_kind left a && same_kind right b

-- the kind that the operator gives of parts of these two kinds
abbrev pub two_kind : PairOp → Kind → Kind → Option Kind
two_kind Add left right = only (are_of (Point Integer) (Point Integer) left right) (Point Integer)
two_kind Subtract left right = only (are_of (Point Integer) (Point Integer) left right) (Point Integer)
two_kind Multiply left right = only (are_of (Point Integer) (Point Integer) left right) (Point Integer)
two_kind Divide left right = only (are_of (Point Integer) (Point Integer) left right) (Point Integer)
two_kind Concat left right = only (are_of Char Char left right) Char
two_kind (Compare w) left right = only (same_kind left right && compares w left) Truth
two_kind (Allen w t) left right = only (are_of (Span t) (Span t) left right) Truth
two_kind (Member t) left right = only (are_of (Point t) (Span t) left right) Truth
two_kind (Select e t) left right = only (are_of (Point t) (Point t) left right) (Span t)
two_kind (UnionOf t) left right = only (are_of (Span t) (Span t) left right) (Span t)
two_kind (IntersectOf t) left right = only (are_of (Span t) (Span t) left right) (Span t)
two_kind (MinusOf t) left right = only (are_of (Span t) (Span t) left right) (Span t)

abbrev pub truth_kind : Kind → Kind → Option Kind
truth_kind left right = only (are_of Truth Truth left right) Truth

-- f of both kinds, where there are both
abbrev pub of_both : Option Kind → Option Kind → (Kind → Kind → Option Kind) → Option Kind
of_both None right f = None
of_both (Some left) None f = None
of_both (Some left) (Some right) f = f left right

abbrev pub of_one : Option Kind → (Kind → Option Kind) → Option Kind
of_one None f = None
of_one (Some part) f = f part

-- the kind, or none where the expression is not typed for the heading
abbrev pub kind_of : Heading → Expr → Option Kind
kind_of heading (constant place kind v) = only (fits kind v) kind
kind_of heading (attribute place i) = option_map (λ (a : Name × Kind). a.1) (slice_get heading i)
kind_of heading (one op place e) = of_one (kind_of heading e) (one_kind op)
kind_of heading (pair op place l r) = of_both (kind_of heading l) (kind_of heading r) (two_kind op)
kind_of heading (and_expr place l r) = of_both (kind_of heading l) (kind_of heading r) truth_kind
kind_of heading (or_expr place l r) = of_both (kind_of heading l) (kind_of heading r) truth_kind
