-- Which expressions are typed for a heading, and what kind of values they give.
use Rattle.std.specs.Prelude.{◌≡◌, IsTrue, Some, slice_get}
use Rattle.point_core.specs.declared.any_type.AnyType.{AnyType}
use Rattle.point_core.specs.declared.any_type.AnyType.TheVariants.{Integer}
use Rattle.value_core.specs.declared.kind.Kind.{Kind}
use Rattle.value_core.specs.declared.kind.Kind.TheVariants.{Truth, Char, Point, Span}
use Rattle.value_core.specs.Values.{Value, Row, Name, Heading, fits, fits_heading}
use Rattle.scalar_core.specs.declared.operators.OneOp.{OneOp}
use Rattle.scalar_core.specs.declared.operators.OneOp.TheVariants.{Not, Negate, BeginOf, EndOf, PreOf, PostOf, CountOf, NextOf, PriorOf}
use Rattle.scalar_core.specs.declared.operators.PairOp.{PairOp}
use Rattle.scalar_core.specs.declared.operators.PairOp.TheVariants.{Add, Subtract, Multiply, Divide, Concat, Compare, Allen, Member, Select, UnionOf, IntersectOf, MinusOf}
use Rattle.scalar_core.specs.declared.tree.CompareWord.{CompareWord}
use Rattle.scalar_core.specs.declared.tree.CompareWord.TheVariants.{Equal, NotEqual, Less, LessEqual, Greater, GreaterEqual}
use Rattle.scalar_core.specs.Expressions.{Expr, constant, attribute, one, pair, and_expr, or_expr}

-- values of any kind are equal or not; texts and points are less or greater
abbrev pub IsOrdered : Kind → Type 0
IsOrdered Truth = ⊥
IsOrdered Char = Unit {0}
IsOrdered (Point t) = Unit {0}
IsOrdered (Span t) = ⊥

abbrev pub Compares : CompareWord → Kind → Type 0
Compares Equal kind = Unit {0}
Compares NotEqual kind = Unit {0}
Compares Less kind = IsOrdered kind
Compares LessEqual kind = IsOrdered kind
Compares Greater kind = IsOrdered kind
Compares GreaterEqual kind = IsOrdered kind

-- the operator takes a part of this kind, and gives values of that kind
abbrev pub OneKinds : OneOp → Kind → Kind → Type 0
OneKinds Not part kind = (part ≡ Truth) × (kind ≡ Truth)
OneKinds Negate part kind = (part ≡ Point Integer) × (kind ≡ Point Integer)
OneKinds BeginOf part kind = (t : AnyType) × (part ≡ Span t) × (kind ≡ Point t)
OneKinds EndOf part kind = (t : AnyType) × (part ≡ Span t) × (kind ≡ Point t)
OneKinds (PreOf t) part kind = (part ≡ Span t) × (kind ≡ Point t)
OneKinds (PostOf t) part kind = (part ≡ Span t) × (kind ≡ Point t)
OneKinds (CountOf t) part kind = (part ≡ Span t) × (kind ≡ Point Integer)
OneKinds (NextOf t) part kind = (part ≡ Point t) × (kind ≡ Point t)
OneKinds (PriorOf t) part kind = (part ≡ Point t) × (kind ≡ Point t)

-- the left part, the right part and the whole are of these kinds
abbrev pub AreOf : Kind → Kind → Kind → Kind → Kind → Kind → Type 0
AreOf a b c left right kind = (left ≡ a) × (right ≡ b) × (kind ≡ c)

-- the operator takes parts of these two kinds, and gives values of the third
abbrev pub PairKinds : PairOp → Kind → Kind → Kind → Type 0
PairKinds Add left right kind = AreOf (Point Integer) (Point Integer) (Point Integer) left right kind
PairKinds Subtract left right kind = AreOf (Point Integer) (Point Integer) (Point Integer) left right kind
PairKinds Multiply left right kind = AreOf (Point Integer) (Point Integer) (Point Integer) left right kind
PairKinds Divide left right kind = AreOf (Point Integer) (Point Integer) (Point Integer) left right kind
PairKinds Concat left right kind = AreOf Char Char Char left right kind
PairKinds (Compare w) left right kind = (left ≡ right) × Compares w left × (kind ≡ Truth)
PairKinds (Allen w t) left right kind = AreOf (Span t) (Span t) Truth left right kind
PairKinds (Member t) left right kind = AreOf (Point t) (Span t) Truth left right kind
PairKinds (Select e t) left right kind = AreOf (Point t) (Point t) (Span t) left right kind
PairKinds (UnionOf t) left right kind = AreOf (Span t) (Span t) (Span t) left right kind
PairKinds (IntersectOf t) left right kind = AreOf (Span t) (Span t) (Span t) left right kind
PairKinds (MinusOf t) left right kind = AreOf (Span t) (Span t) (Span t) left right kind

-- the operator takes this value, and these two values
abbrev pub OneTakes : OneOp → Value → Type 0
OneTakes Not v = IsTrue (fits Truth v)
OneTakes Negate v = IsTrue (fits (Point Integer) v)
OneTakes BeginOf v = (t : AnyType) × IsTrue (fits (Span t) v)
OneTakes EndOf v = (t : AnyType) × IsTrue (fits (Span t) v)
OneTakes (PreOf t) v = IsTrue (fits (Span t) v)
OneTakes (PostOf t) v = IsTrue (fits (Span t) v)
OneTakes (CountOf t) v = IsTrue (fits (Span t) v)
OneTakes (NextOf t) v = IsTrue (fits (Point t) v)
OneTakes (PriorOf t) v = IsTrue (fits (Point t) v)

abbrev pub PairTakes : PairOp → Value → Value → Type 0
PairTakes Add a b = IsTrue (fits (Point Integer) a) × IsTrue (fits (Point Integer) b)
PairTakes Subtract a b = IsTrue (fits (Point Integer) a) × IsTrue (fits (Point Integer) b)
PairTakes Multiply a b = IsTrue (fits (Point Integer) a) × IsTrue (fits (Point Integer) b)
PairTakes Divide a b = IsTrue (fits (Point Integer) a) × IsTrue (fits (Point Integer) b)
PairTakes Concat a b = IsTrue (fits Char a) × IsTrue (fits Char b)
PairTakes (Compare w) a b = (kind : Kind) × IsTrue (fits kind a) × IsTrue (fits kind b)
PairTakes (Allen w t) a b = IsTrue (fits (Span t) a) × IsTrue (fits (Span t) b)
PairTakes (Member t) a b = IsTrue (fits (Point t) a) × IsTrue (fits (Span t) b)
PairTakes (Select e t) a b = IsTrue (fits (Point t) a) × IsTrue (fits (Point t) b)
PairTakes (UnionOf t) a b = IsTrue (fits (Span t) a) × IsTrue (fits (Span t) b)
PairTakes (IntersectOf t) a b = IsTrue (fits (Span t) a) × IsTrue (fits (Span t) b)
PairTakes (MinusOf t) a b = IsTrue (fits (Span t) a) × IsTrue (fits (Span t) b)

-- the expression is typed for the heading, and gives values of the kind. A constant is a value of its kind, with its
-- points in their type; an attribute's position lies in the heading
abbrev pub IsTyped : Heading → Expr → Kind → Type 0
IsTyped heading (constant place k v) kind = (k ≡ kind) × IsTrue (fits kind v)
IsTyped heading (attribute place i) kind = (name : Name) × (slice_get heading i ≡ Some (name, kind))
IsTyped heading (one op place e) kind = (part : Kind) × IsTyped heading e part × OneKinds op part kind
IsTyped heading (pair op place l r) kind = (left : Kind) × (right : Kind) × IsTyped heading l left × IsTyped heading r right × PairKinds op left right kind
IsTyped heading (and_expr place l r) kind = IsTyped heading l Truth × IsTyped heading r Truth × (kind ≡ Truth)
IsTyped heading (or_expr place l r) kind = IsTyped heading l Truth × IsTyped heading r Truth × (kind ≡ Truth)

-- the expression is typed for a heading that the row has
abbrev pub IsTypedOver : Row → Expr → Type 0
IsTypedOver row e = (heading : Heading) × (kind : Kind) × IsTrue (fits_heading heading row) × IsTyped heading e kind
