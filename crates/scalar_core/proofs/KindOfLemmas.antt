-- An expression that has a kind is typed for the heading, and gives values of that kind.
use Rattle.std.specs.Prelude.{◌≡◌, Bool, true, false, ◌&&◌, nat_eq, IsTrue, Option, Some, None, slice_get, option_map, refl}
use Rattle.std.proofs.Common.{sym, ◌∙◌, ap, subst, eq-eqb}
use Rattle.std.proofs.lemmas.Bool.{eqb-true, and_from}
use Rattle.base_core.proofs.BoolLemmas.{and_left, and_right}
use Rattle.point_core.specs.declared.any_type.AnyType.{AnyType}
use Rattle.point_core.specs.declared.any_type.AnyType.TheVariants.{Integer, Date, Ordinal, Moment}
use Rattle.value_core.specs.declared.kind.Kind.{Kind}
use Rattle.value_core.specs.declared.kind.Kind.TheVariants.{Truth, Char, Point, Span}
use Rattle.value_core.specs.Values.{Name, Heading, fits}
use Rattle.scalar_core.specs.declared.operators.OneOp.{OneOp}
use Rattle.scalar_core.specs.declared.operators.OneOp.TheVariants.{Not, Negate, BeginOf, EndOf, PreOf, PostOf, CountOf, NextOf, PriorOf}
use Rattle.scalar_core.specs.declared.operators.PairOp.{PairOp}
use Rattle.scalar_core.specs.declared.operators.PairOp.TheVariants.{Add, Subtract, Multiply, Divide, Concat, Compare, Allen, Member, Select, UnionOf, IntersectOf, MinusOf}
use Rattle.scalar_core.specs.declared.tree.CompareWord.{CompareWord}
use Rattle.scalar_core.specs.declared.tree.CompareWord.TheVariants.{Equal, NotEqual, Less, LessEqual, Greater, GreaterEqual}
use Rattle.scalar_core.specs.Expressions.{Expr, constant, attribute, one, pair, and_expr, or_expr}
use Rattle.scalar_core.specs.Kinds.{IsOrdered, Compares, OneKinds, PairKinds, AreOf, IsTyped}
use Rattle.scalar_core.specs.KindOf.{same_type, same_kind, is_ordered, compares, point_kind, only, one_kind, are_of, two_kind, truth_kind, of_both, of_one, kind_of}

pub same_type-same : (t u : AnyType) → same_type t u ≡ true → t ≡ u
same_type-same Integer Integer h = refl
same_type-same Date Date h = refl
same_type-same (Ordinal of last) (Ordinal at end) h =
    let first : of ≡ at = eqb-true of at (and_left (nat_eq of at) (nat_eq last end) h) in
    let second : last ≡ end = eqb-true last end (and_right (nat_eq of at) (nat_eq last end) h) in
    cc
same_type-same Moment Moment h = refl
same_type-same _ _ h = absurd cc

pub same_kind-same : (j k : Kind) → same_kind j k ≡ true → j ≡ k
same_kind-same Truth Truth h = refl
same_kind-same Char Char h = refl
same_kind-same (Point t) (Point u) h = ap Point (same_type-same t u h)
same_kind-same (Span t) (Span u) h = ap Span (same_type-same t u h)
same_kind-same _ _ h = absurd cc

only-some : (b : Bool) (k kind : Kind) → only b k ≡ Some kind → (b ≡ true) × (kind ≡ k)
only-some true k kind e = (refl, cc)
only-some false k kind e = absurd cc

point_kind-some : (part kind : Kind) → point_kind part ≡ Some kind → (t : AnyType) × (part ≡ Span t) × (kind ≡ Point t)
point_kind-some (Span t) kind e = (t, refl, cc)
point_kind-some Truth kind e = absurd cc
point_kind-some Char kind e = absurd cc
point_kind-some (Point t) kind e = absurd cc

pub ordered : (kind : Kind) → is_ordered kind ≡ true → IsOrdered kind
ordered Truth h = absurd cc
ordered Char h = tt
ordered (Point t) h = tt
ordered (Span t) h = absurd cc

pub compares-Compares : (w : CompareWord) (kind : Kind) → compares w kind ≡ true → Compares w kind
compares-Compares Equal kind h = tt
compares-Compares NotEqual kind h = tt
compares-Compares Less kind h = ordered kind h
compares-Compares LessEqual kind h = ordered kind h
compares-Compares Greater kind h = ordered kind h
compares-Compares GreaterEqual kind h = ordered kind h

one_of : (part k j kind : Kind) → only (same_kind part k) j ≡ Some kind → (part ≡ k) × (kind ≡ j)
one_of part k j kind e = let parts = only-some (same_kind part k) j kind e in (same_kind-same part k parts.0, parts.1)

one_kind-kinds : (op : OneOp) (part kind : Kind) → one_kind op part ≡ Some kind → OneKinds op part kind
one_kind-kinds Not part kind e = one_of part Truth Truth kind e
one_kind-kinds Negate part kind e = one_of part (Point Integer) (Point Integer) kind e
one_kind-kinds BeginOf part kind e = point_kind-some part kind e
one_kind-kinds EndOf part kind e = point_kind-some part kind e
one_kind-kinds (PreOf t) part kind e = one_of part (Span t) (Point t) kind e
one_kind-kinds (PostOf t) part kind e = one_of part (Span t) (Point t) kind e
one_kind-kinds (CountOf t) part kind e = one_of part (Span t) (Point Integer) kind e
one_kind-kinds (NextOf t) part kind e = one_of part (Point t) (Point t) kind e
one_kind-kinds (PriorOf t) part kind e = one_of part (Point t) (Point t) kind e

both_of : (a b c left right kind : Kind) → only (are_of a b left right) c ≡ Some kind → AreOf a b c left right kind
both_of a b c left right kind e =
    let parts = only-some (are_of a b left right) c kind e in (
      same_kind-same left a (and_left (same_kind left a) (same_kind right b) parts.0),
      same_kind-same right b (and_right (same_kind left a) (same_kind right b) parts.0),
      parts.1,
    )

two_kind-kinds : (op : PairOp) (left right kind : Kind) → two_kind op left right ≡ Some kind → PairKinds op left right kind
two_kind-kinds Add left right kind e = both_of (Point Integer) (Point Integer) (Point Integer) left right kind e
two_kind-kinds Subtract left right kind e = both_of (Point Integer) (Point Integer) (Point Integer) left right kind e
two_kind-kinds Multiply left right kind e = both_of (Point Integer) (Point Integer) (Point Integer) left right kind e
two_kind-kinds Divide left right kind e = both_of (Point Integer) (Point Integer) (Point Integer) left right kind e
two_kind-kinds Concat left right kind e = both_of Char Char Char left right kind e
two_kind-kinds (Compare w) left right kind e =
    let parts = only-some (same_kind left right && compares w left) Truth kind e in (
      same_kind-same left right (and_left (same_kind left right) (compares w left) parts.0),
      compares-Compares w left (and_right (same_kind left right) (compares w left) parts.0),
      parts.1,
    )
two_kind-kinds (Allen w t) left right kind e = both_of (Span t) (Span t) Truth left right kind e
two_kind-kinds (Member t) left right kind e = both_of (Point t) (Span t) Truth left right kind e
two_kind-kinds (Select b t) left right kind e = both_of (Point t) (Point t) (Span t) left right kind e
two_kind-kinds (UnionOf t) left right kind e = both_of (Span t) (Span t) (Span t) left right kind e
two_kind-kinds (IntersectOf t) left right kind e = both_of (Span t) (Span t) (Span t) left right kind e
two_kind-kinds (MinusOf t) left right kind e = both_of (Span t) (Span t) (Span t) left right kind e

of_one-some : (o : Option Kind) (f : Kind → Option Kind) (kind : Kind) → of_one o f ≡ Some kind → (part : Kind) × (o ≡ Some part) × (f part ≡ Some kind)
of_one-some None f kind e = absurd cc
of_one-some (Some part) f kind e = (part, refl, e)

of_both-some : (o p : Option Kind) (f : Kind → Kind → Option Kind) (kind : Kind) → of_both o p f ≡ Some kind →
    (left : Kind) × (right : Kind) × (o ≡ Some left) × (p ≡ Some right) × (f left right ≡ Some kind)
of_both-some None p f kind e = absurd cc
of_both-some (Some left) None f kind e = absurd cc
of_both-some (Some left) (Some right) f kind e = (left, right, refl, refl, e)

attribute-some : (o : Option (Name × Kind)) (kind : Kind) → option_map (λ (a : Name × Kind). a.1) o ≡ Some kind → (name : Name) × (o ≡ Some (name, kind))
attribute-some None kind e = absurd cc
attribute-some (Some a) kind e = (a.0, let same : a.1 ≡ kind = cc in ap (λ (k : Kind). Some (a.0, k)) same)

typed_as : (heading : Heading) (e : Expr) (k kind : Kind) → k ≡ kind → IsTyped heading e k → IsTyped heading e kind
typed_as heading e k kind same h = subst (IsTyped heading e) same h

pub kind_of-IsTyped : (heading : Heading) (e : Expr) (kind : Kind) → kind_of heading e ≡ Some kind → IsTyped heading e kind
kind_of-IsTyped heading (constant place k v) kind e =
    let parts = only-some (fits k v) k kind e in
    (sym parts.1, subst (λ (j : Kind). IsTrue (fits j v)) (sym parts.1) parts.0)
kind_of-IsTyped heading (attribute place i) kind e = attribute-some (slice_get heading i) kind e
kind_of-IsTyped heading (one op place part) kind e =
    let parts = of_one-some (kind_of heading part) (one_kind op) kind e in
    (parts.0, kind_of-IsTyped heading part parts.0 parts.1, one_kind-kinds op parts.0 kind parts.2)
kind_of-IsTyped heading (pair op place l r) kind e =
    let parts = of_both-some (kind_of heading l) (kind_of heading r) (two_kind op) kind e in
    (parts.0, parts.1, kind_of-IsTyped heading l parts.0 parts.2, kind_of-IsTyped heading r parts.1 parts.3, two_kind-kinds op parts.0 parts.1 kind parts.4)
kind_of-IsTyped heading (and_expr place l r) kind e =
    let parts = of_both-some (kind_of heading l) (kind_of heading r) truth_kind kind e in
    let kinds = both_of Truth Truth Truth parts.0 parts.1 kind parts.4 in (
      typed_as heading l parts.0 Truth kinds.0 (kind_of-IsTyped heading l parts.0 parts.2),
      typed_as heading r parts.1 Truth kinds.1 (kind_of-IsTyped heading r parts.1 parts.3),
      kinds.2,
    )
kind_of-IsTyped heading (or_expr place l r) kind e =
    let parts = of_both-some (kind_of heading l) (kind_of heading r) truth_kind kind e in
    let kinds = both_of Truth Truth Truth parts.0 parts.1 kind parts.4 in (
      typed_as heading l parts.0 Truth kinds.0 (kind_of-IsTyped heading l parts.0 parts.2),
      typed_as heading r parts.1 Truth kinds.1 (kind_of-IsTyped heading r parts.1 parts.3),
      kinds.2,
    )

-- ---- the other way: a typed expression has its kind

pub same_type-self : (t : AnyType) → same_type t t ≡ true
same_type-self Integer = refl
same_type-self Date = refl
same_type-self (Ordinal of last) = and_from (nat_eq of of) (nat_eq last last) (eq-eqb of of refl) (eq-eqb last last refl)
same_type-self Moment = refl

pub same_kind-self : (k : Kind) → same_kind k k ≡ true
same_kind-self Truth = refl
same_kind-self Char = refl
same_kind-self (Point t) = same_type-self t
same_kind-self (Span t) = same_type-self t

same_kind-from : (j k : Kind) → j ≡ k → same_kind j k ≡ true
same_kind-from j k e = subst (λ (x : Kind). same_kind j x ≡ true) e (same_kind-self j)

only-from : (b : Bool) (k kind : Kind) → b ≡ true → kind ≡ k → only b k ≡ Some kind
only-from true k kind h e = ap (λ (x : Kind). Some x) (sym e)
only-from false k kind h e = absurd cc

one_from : (part k j kind : Kind) → (part ≡ k) × (kind ≡ j) → only (same_kind part k) j ≡ Some kind
one_from part k j kind h = only-from (same_kind part k) j kind (same_kind-from part k h.0) h.1

both_from : (a b c left right kind : Kind) → AreOf a b c left right kind → only (are_of a b left right) c ≡ Some kind
both_from a b c left right kind h =
    only-from (are_of a b left right) c kind
    (and_from (same_kind left a) (same_kind right b) (same_kind-from left a h.0) (same_kind-from right b h.1)) h.2

is_ordered-from : (kind : Kind) → IsOrdered kind → is_ordered kind ≡ true
is_ordered-from Truth h = absurd h
is_ordered-from Char h = refl
is_ordered-from (Point t) h = refl
is_ordered-from (Span t) h = absurd h

Compares-compares : (w : CompareWord) (kind : Kind) → Compares w kind → compares w kind ≡ true
Compares-compares Equal kind h = refl
Compares-compares NotEqual kind h = refl
Compares-compares Less kind h = is_ordered-from kind h
Compares-compares LessEqual kind h = is_ordered-from kind h
Compares-compares Greater kind h = is_ordered-from kind h
Compares-compares GreaterEqual kind h = is_ordered-from kind h

point_kind-from : (part kind : Kind) → (t : AnyType) × (part ≡ Span t) × (kind ≡ Point t) → point_kind part ≡ Some kind
point_kind-from part kind h = ap point_kind h.1 ∙ ap (λ (x : Kind). Some x) (sym h.2)

kinds-one_kind : (op : OneOp) (part kind : Kind) → OneKinds op part kind → one_kind op part ≡ Some kind
kinds-one_kind Not part kind h = one_from part Truth Truth kind h
kinds-one_kind Negate part kind h = one_from part (Point Integer) (Point Integer) kind h
kinds-one_kind BeginOf part kind h = point_kind-from part kind h
kinds-one_kind EndOf part kind h = point_kind-from part kind h
kinds-one_kind (PreOf t) part kind h = one_from part (Span t) (Point t) kind h
kinds-one_kind (PostOf t) part kind h = one_from part (Span t) (Point t) kind h
kinds-one_kind (CountOf t) part kind h = one_from part (Span t) (Point Integer) kind h
kinds-one_kind (NextOf t) part kind h = one_from part (Point t) (Point t) kind h
kinds-one_kind (PriorOf t) part kind h = one_from part (Point t) (Point t) kind h

kinds-two_kind : (op : PairOp) (left right kind : Kind) → PairKinds op left right kind → two_kind op left right ≡ Some kind
kinds-two_kind Add left right kind h = both_from (Point Integer) (Point Integer) (Point Integer) left right kind h
kinds-two_kind Subtract left right kind h = both_from (Point Integer) (Point Integer) (Point Integer) left right kind h
kinds-two_kind Multiply left right kind h = both_from (Point Integer) (Point Integer) (Point Integer) left right kind h
kinds-two_kind Divide left right kind h = both_from (Point Integer) (Point Integer) (Point Integer) left right kind h
kinds-two_kind Concat left right kind h = both_from Char Char Char left right kind h
kinds-two_kind (Compare w) left right kind h =
    only-from (same_kind left right && compares w left) Truth kind
    (and_from (same_kind left right) (compares w left) (same_kind-from left right h.0) (Compares-compares w left h.1)) h.2
kinds-two_kind (Allen w t) left right kind h = both_from (Span t) (Span t) Truth left right kind h
kinds-two_kind (Member t) left right kind h = both_from (Point t) (Span t) Truth left right kind h
kinds-two_kind (Select b t) left right kind h = both_from (Point t) (Point t) (Span t) left right kind h
kinds-two_kind (UnionOf t) left right kind h = both_from (Span t) (Span t) (Span t) left right kind h
kinds-two_kind (IntersectOf t) left right kind h = both_from (Span t) (Span t) (Span t) left right kind h
kinds-two_kind (MinusOf t) left right kind h = both_from (Span t) (Span t) (Span t) left right kind h

of_both-from : (o p : Option Kind) (f : Kind → Kind → Option Kind) (left right kind : Kind) → o ≡ Some left → p ≡ Some right → f left right ≡ Some kind →
    of_both o p f ≡ Some kind
of_both-from o p f left right kind h k e =
    ap (λ (x : Option Kind). of_both x p f) h ∙ ap (λ (x : Option Kind). of_both (Some left) x f) k ∙ e

pub IsTyped-kind_of : (heading : Heading) (e : Expr) (kind : Kind) → IsTyped heading e kind → kind_of heading e ≡ Some kind
IsTyped-kind_of heading (constant place k v) kind h =
    only-from (fits k v) k kind (subst (λ (j : Kind). IsTrue (fits j v)) (sym h.0) h.1) (sym h.0)
IsTyped-kind_of heading (attribute place i) kind h = ap (option_map (λ (a : Name × Kind). a.1)) h.1
IsTyped-kind_of heading (one op place part) kind h =
    ap (λ (x : Option Kind). of_one x (one_kind op)) (IsTyped-kind_of heading part h.0 h.1) ∙ kinds-one_kind op h.0 kind h.2
IsTyped-kind_of heading (pair op place l r) kind h =
    of_both-from (kind_of heading l) (kind_of heading r) (two_kind op) h.0 h.1 kind
    (IsTyped-kind_of heading l h.0 h.2) (IsTyped-kind_of heading r h.1 h.3) (kinds-two_kind op h.0 h.1 kind h.4)
IsTyped-kind_of heading (and_expr place l r) kind h =
    of_both-from (kind_of heading l) (kind_of heading r) truth_kind Truth Truth kind
    (IsTyped-kind_of heading l Truth h.0) (IsTyped-kind_of heading r Truth h.1) (ap (λ (x : Kind). Some x) (sym h.2))
IsTyped-kind_of heading (or_expr place l r) kind h =
    of_both-from (kind_of heading l) (kind_of heading r) truth_kind Truth Truth kind
    (IsTyped-kind_of heading l Truth h.0) (IsTyped-kind_of heading r Truth h.1) (ap (λ (x : Kind). Some x) (sym h.2))
