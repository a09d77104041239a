-- The constants and the kinds of typed row expressions are of types there are.
use Rattle.std.specs.Prelude.{◌≡◌, ◌≤◌, ℕ, zero, suc, ◌-◌, ℤ, List, [], ◌∷◌, length, nat_eq, Option, Some, None, Ok, Err, IfOk, IfSome, IsTrue, slice_get, refl}
use Rattle.std.proofs.Common.{arith, sym, subst, eq-eqb}
use Rattle.std.specs.List.{list_all, All}
use Rattle.std.specs.Str.{bytes_eq}
use Rattle.std.proofs.lemmas.Bool.{and_parts, and_from}
use Rattle.point_core.specs.declared.fault.Place.{Place}
use Rattle.point_core.specs.declared.fault.Code.{Code}
use Rattle.point_core.specs.declared.any_type.AnyType.{AnyType}
use Rattle.point_core.specs.declared.any_type.AnyType.TheVariants.{Integer}
use Rattle.point_core.specs.Faults.{OrFault}
use Rattle.utd_syntax.specs.declared.words.ExtremeWord.{ExtremeWord}
use Rattle.utd_syntax.specs.declared.words.ExtremeWord.TheVariants.{First, Last}
use Rattle.utd_syntax.specs.Plain as syntax
use Rattle.utd_syntax.specs.Plain.{Word, PointP, ScalarP, ConjP, NegP, CmpP, SumP, ProdP, SignP, PrimaryP}
use Rattle.value_core.specs.declared.kind.Kind.{Kind}
use Rattle.value_core.specs.declared.kind.Kind.TheVariants.{Truth, Char, Point, Span}
use Rattle.value_core.specs.declared.list.OrdinalNames.{OrdinalNames}
use Rattle.value_core.specs.Values.{Name, Heading}
use Rattle.scalar_core.specs.declared.operators.OneOp.{OneOp}
use Rattle.scalar_core.specs.declared.operators.OneOp.TheVariants as one_op
use Rattle.scalar_core.specs.declared.operators.PairOp.{PairOp}
use Rattle.scalar_core.specs.declared.operators.PairOp.TheVariants as pair_op
use Rattle.scalar_core.specs.Expressions.{Expr, constant, attribute, one, pair, and_expr, or_expr}
use Rattle.scalar_core.specs.Kinds.{OneKinds, PairKinds, IsTyped}
use Rattle.scalar_typing.specs.Typings.{Typed, ◌>>=◌, value_or}
use Rattle.scalar_typing.specs.Literals.{integer_of, negative_of, text_of, date_of, moment_of, integer_literal, extreme_constant}
use Rattle.scalar_typing.specs.Names.{attribute_of, ordinal_of, value_of, ordinal_type, point_type, ordinal_value}
use Rattle.scalar_typing.specs.Operators.{OneRule, PairRule, both_are, one_on, pair_on, one_typed, pair_typed, logic_typed, not_rule, negate_rule, function_rule, sum_rule, product_rule, comparison_rule, pairing_rule, ends_of, selector_rule}
use Rattle.scalar_typing.specs.Scalars.{typed_scalar, typed_conj, typed_neg, typed_cmp, typed_sum, typed_prod, typed_sign, typed_primary}
use Rattle.scalar_typing.proofs.TypedLemmas.{or-refused, mapped, when-holds}
use Rattle.scalar_typing.proofs.SoundLemmas.{then-sound, found-at, scalar-sound}
use Rattle.meaning_core.specs.Typing.{is_ordinal, is_type, is_kind, has_declared, IsScalar}
use Rattle.meaning_core.specs.WellMade.{sizes_of, IsOrdinalType}

-- ---- point types

last-value : (n : ℕ) → 1 ≤ n → IsTrue (nat_eq n (suc (n - 1)))
last-value n some = eq-eqb n (suc (n - 1)) (omega arith)

at-place : (types : List OrdinalNames) (i : ℕ) (o : OrdinalNames) → All IsOrdinalType types → slice_get types i ≡ Some o → IsTrue (is_ordinal (sizes_of types) i (length o.values - 1))
at-place [] i o h e = absurd cc
at-place (t ∷ types) zero o h e =
    let same : t ≡ o = cc in
    subst (λ (u : OrdinalNames). IsTrue (nat_eq (length t.values) (suc (length u.values - 1)))) same (last-value (length t.values) (h 0 t (omega arith)).some)
at-place (t ∷ types) (suc i) o h e = at-place types i o (λ j d l. h (suc j) d (omega arith)) e

abbrev pub IsType : List OrdinalNames → AnyType → Type 0
IsType types t = IsTrue (is_type (sizes_of types) t)

ordinal-declared : (types : List OrdinalNames) (name : Name) → All IsOrdinalType types → IfSome (ordinal_of types name) (λ found. IsType types (ordinal_type found))
ordinal-declared types name h = by-cases (ordinal_of types name) refl
  where
    by-cases : (o : Option (ℕ × OrdinalNames)) → ordinal_of types name ≡ o → IfSome o (λ found. IsType types (ordinal_type found))
    by-cases None e = tt
    by-cases (Some found) e = at-place types found.0 found.1 h (found-at (λ (o : OrdinalNames). bytes_eq o.name name) types found.0 found.1 e).1

pub point-declared : (types : List OrdinalNames) (p : PointP) → All IsOrdinalType types → IfOk (point_type types p) (IsType types)
point-declared types (syntax.IntegerType at) h = refl
point-declared types (syntax.DateType at) h = refl
point-declared types (syntax.MomentType at) h = refl
point-declared types (syntax.NamedType w) h =
    then-sound (λ found. IsType types (ordinal_type found)) (IsType types) (value_or w.place _ (ordinal_of types w.bytes)) _
    (or-refused (λ found. IsType types (ordinal_type found)) w.place _ (ordinal_of types w.bytes) (ordinal-declared types w.bytes h)) (λ found k. k)

-- ---- constants

-- the constants are of kinds there are
abbrev pub HasDeclared : List OrdinalNames → Typed → Type 0
HasDeclared types t = IsTrue (has_declared (sizes_of types) t.0)

abbrev pub Declared : List OrdinalNames → OrFault Typed → Type 0
Declared types t = IfOk t (HasDeclared types)

integer-declared : (types : List OrdinalNames) (at digits : Place) (n : Option ℤ) → Declared types (integer_literal at digits n)
integer-declared types at digits None = tt
integer-declared types at digits (Some n) = refl

some-declared : {X : Type 0} (types : List OrdinalNames) (at : Place) (code : Code) (o : Option X) (f : X → Typed) → ((x : X) → HasDeclared types (f x)) → Declared types (value_or at code o >>= (λ x. Ok (f x)))
some-declared types at code None f h = tt
some-declared types at code (Some x) f h = h x

extreme-declared : (types : List OrdinalNames) (at : Place) (w : ExtremeWord) (t : AnyType) → IsType types t → HasDeclared types (extreme_constant at w t)
extreme-declared types at First t h = h
extreme-declared types at Last t h = h

value-declared : (types : List OrdinalNames) (n v : Word) → All IsOrdinalType types → Declared types (ordinal_value types n v)
value-declared types n v h =
    then-sound (λ found. IsType types (ordinal_type found)) (HasDeclared types) (value_or n.place _ (ordinal_of types n.bytes)) _
    (or-refused (λ found. IsType types (ordinal_type found)) n.place _ (ordinal_of types n.bytes) (ordinal-declared types n.bytes h))
    (λ found k. some-declared types v.place _ (value_of found.1.values v.bytes) _ (λ number. k))

-- ---- expressions of typed parts

one-declared : (types : List OrdinalNames) (at : Place) (rule : Kind → OneRule) (part : Typed) → HasDeclared types part → Declared types (one_typed at rule part)
one-declared types at rule part h = or-refused (HasDeclared types) at _ _ (mapped (HasDeclared types) (rule part.1) (one_on at part.0) (λ found e. h))

pair-declared : (types : List OrdinalNames) (at : Place) (rule : Kind → Kind → PairRule) (l r : Typed) → HasDeclared types l → HasDeclared types r → Declared types (pair_typed at rule l r)
pair-declared types at rule l r h k =
    or-refused (HasDeclared types) at _ _ (mapped (HasDeclared types) (rule l.1 r.1) (pair_on at l.0 r.0)
    (λ found e. and_from (has_declared (sizes_of types) l.0) (has_declared (sizes_of types) r.0) h k))

and-declared : (types : List OrdinalNames) (at : Place) (l r : Typed) → HasDeclared types l → HasDeclared types r → Declared types (logic_typed at and_expr l r)
and-declared types at l r h k =
    or-refused (HasDeclared types) at _ _ (when-holds (HasDeclared types) (both_are Truth l.1 r.1) (and_expr at l.0 r.0) Truth
    (λ e. and_from (has_declared (sizes_of types) l.0) (has_declared (sizes_of types) r.0) h k))

or-declared : (types : List OrdinalNames) (at : Place) (l r : Typed) → HasDeclared types l → HasDeclared types r → Declared types (logic_typed at or_expr l r)
or-declared types at l r h k =
    or-refused (HasDeclared types) at _ _ (when-holds (HasDeclared types) (both_are Truth l.1 r.1) (or_expr at l.0 r.0) Truth
    (λ e. and_from (has_declared (sizes_of types) l.0) (has_declared (sizes_of types) r.0) h k))

part-declared : (types : List OrdinalNames) (x : OrFault Typed) (f : Typed → OrFault Typed) → Declared types x → ((part : Typed) → HasDeclared types part → Declared types (f part)) → Declared types (x >>= f)
part-declared types x f h more = then-sound (HasDeclared types) (HasDeclared types) x f h more

both-declared : (types : List OrdinalNames) (x y : OrFault Typed) (f : Typed → Typed → OrFault Typed) → Declared types x → Declared types y
    → ((l r : Typed) → HasDeclared types l → HasDeclared types r → Declared types (f l r)) → Declared types (x >>= (λ l. y >>= (λ r. f l r)))
both-declared types x y f h k more =
    part-declared types x _ h (λ l left. part-declared types y _ k (λ r right. more l r left right))

module _ (types : List OrdinalNames) (ordinals : All IsOrdinalType types) (heading : Heading) where
  mutual
    pub scalar-declared : (s : ScalarP) → Declared types (typed_scalar types heading s)
    scalar-declared (syntax.OneConj c) = conj-declared c
    scalar-declared (syntax.Or l at r) =
        both-declared types (typed_scalar types heading l) (typed_conj types heading r) _ (scalar-declared l) (conj-declared r) (or-declared types at)

    pub conj-declared : (c : ConjP) → Declared types (typed_conj types heading c)
    conj-declared (syntax.OneNeg n) = neg-declared n
    conj-declared (syntax.And l at r) =
        both-declared types (typed_conj types heading l) (typed_neg types heading r) _ (conj-declared l) (neg-declared r) (and-declared types at)

    pub neg-declared : (n : NegP) → Declared types (typed_neg types heading n)
    neg-declared (syntax.Not at n) = part-declared types (typed_neg types heading n) _ (neg-declared n) (one-declared types at not_rule)
    neg-declared (syntax.OneCmp c) = cmp-declared c

    pub cmp-declared : (c : CmpP) → Declared types (typed_cmp types heading c)
    cmp-declared (syntax.OneSum s) = sum-declared s
    cmp-declared (syntax.Compare l at w r) =
        both-declared types (typed_sum types heading l) (typed_sum types heading r) _ (sum-declared l) (sum-declared r) (pair-declared types at (comparison_rule w))

    pub sum-declared : (s : SumP) → Declared types (typed_sum types heading s)
    sum-declared (syntax.OneProd p) = prod-declared p
    sum-declared (syntax.Add l at w r) =
        both-declared types (typed_sum types heading l) (typed_prod types heading r) _ (sum-declared l) (prod-declared r) (pair-declared types at (sum_rule w))

    pub prod-declared : (p : ProdP) → Declared types (typed_prod types heading p)
    prod-declared (syntax.OneSign s) = sign-declared s
    prod-declared (syntax.Multiply l at w r) =
        both-declared types (typed_prod types heading l) (typed_sign types heading r) _ (prod-declared l) (sign-declared r) (pair-declared types at (product_rule w))

    pub sign-declared : (s : SignP) → Declared types (typed_sign types heading s)
    sign-declared (syntax.NegativeInteger at digits bytes) = integer-declared types at digits (negative_of bytes)
    sign-declared (syntax.Negate at s) = part-declared types (typed_sign types heading s) _ (sign-declared s) (one-declared types at negate_rule)
    sign-declared (syntax.OnePrimary p) = primary-declared p

    pub primary-declared : (p : PrimaryP) → Declared types (typed_primary types heading p)
    primary-declared (syntax.IntegerLiteral at bytes) = integer-declared types at at (integer_of bytes)
    primary-declared (syntax.TextLiteral at bytes) = some-declared types at _ (text_of bytes) _ (λ written. refl)
    primary-declared (syntax.DateLiteral at quoted bytes) = some-declared types quoted _ (date_of bytes) _ (λ number. refl)
    primary-declared (syntax.MomentLiteral at quoted bytes) = some-declared types quoted _ (moment_of bytes) _ (λ number. refl)
    primary-declared (syntax.TrueLiteral at) = refl
    primary-declared (syntax.FalseLiteral at) = refl
    primary-declared (syntax.AttributeName w) = some-declared types w.place _ (attribute_of heading w.bytes) _ (λ found. refl)
    primary-declared (syntax.Dotted n v) = value-declared types n v ordinals
    primary-declared (syntax.Paren at s) = scalar-declared s
    primary-declared (syntax.Selector at b l r e) =
        both-declared types (typed_scalar types heading l) (typed_scalar types heading r) _ (scalar-declared l) (scalar-declared r) (pair-declared types at (selector_rule (ends_of b e)))
    primary-declared (syntax.Extreme at w p) =
        then-sound (IsType types) (HasDeclared types) (point_type types p) _ (point-declared types p ordinals) (extreme-declared types at w)
    primary-declared (syntax.Function at w s) = part-declared types (typed_scalar types heading s) _ (scalar-declared s) (one-declared types at (function_rule w))
    primary-declared (syntax.PairFunction at w l r) =
        both-declared types (typed_scalar types heading l) (typed_scalar types heading r) _ (scalar-declared l) (scalar-declared r) (pair-declared types at (pairing_rule w))

  -- what is typed has values of its kind
  pub typed-is_scalar : (s : ScalarP) → IfOk (typed_scalar types heading s) (λ e. IsScalar (sizes_of types) heading e.0 e.1)
  typed-is_scalar s = joined (typed_scalar types heading s) (scalar-declared s) (scalar-sound types heading s)
    where
      joined : (r : OrFault Typed) → Declared types r → IfOk r (λ e. IsTyped heading e.0 e.1) → IfOk r (λ e. IsScalar (sizes_of types) heading e.0 e.1)
      joined (Ok e) h k = record { declared = h; typed = k }
      joined (Err e) h k = tt

-- ---- kinds of expressions

module _ (sizes : List ℕ) where
  -- a kind that is one of a type there is
  same : (k kind : Kind) → kind ≡ k → IsTrue (is_kind sizes k) → IsTrue (is_kind sizes kind)
  same k kind e h = subst (λ (k : Kind). IsTrue (is_kind sizes k)) (sym e) h

  from : (k kind : Kind) → kind ≡ k → IsTrue (is_kind sizes kind) → IsTrue (is_kind sizes k)
  from k kind e h = subst (λ (k : Kind). IsTrue (is_kind sizes k)) e h

  one-kind : (op : OneOp) (part kind : Kind) → OneKinds op part kind → IsTrue (is_kind sizes part) → IsTrue (is_kind sizes kind)
  one-kind one_op.Not part kind h k = same Truth kind h.1 refl
  one-kind one_op.Negate part kind h k = same (Point Integer) kind h.1 refl
  one-kind one_op.BeginOf part kind h k = same (Point h.0) kind h.2 (from (Span h.0) part h.1 k)
  one-kind one_op.EndOf part kind h k = same (Point h.0) kind h.2 (from (Span h.0) part h.1 k)
  one-kind (one_op.PreOf t) part kind h k = same (Point t) kind h.1 (from (Span t) part h.0 k)
  one-kind (one_op.PostOf t) part kind h k = same (Point t) kind h.1 (from (Span t) part h.0 k)
  one-kind (one_op.CountOf t) part kind h k = same (Point Integer) kind h.1 refl
  one-kind (one_op.NextOf t) part kind h k = same (Point t) kind h.1 (from (Point t) part h.0 k)
  one-kind (one_op.PriorOf t) part kind h k = same (Point t) kind h.1 (from (Point t) part h.0 k)

  pair-kind : (op : PairOp) (l r kind : Kind) → PairKinds op l r kind → IsTrue (is_kind sizes l) → IsTrue (is_kind sizes kind)
  pair-kind pair_op.Add l r kind h k = same (Point Integer) kind h.2 refl
  pair-kind pair_op.Subtract l r kind h k = same (Point Integer) kind h.2 refl
  pair-kind pair_op.Multiply l r kind h k = same (Point Integer) kind h.2 refl
  pair-kind pair_op.Divide l r kind h k = same (Point Integer) kind h.2 refl
  pair-kind pair_op.Concat l r kind h k = same Char kind h.2 refl
  pair-kind (pair_op.Compare w) l r kind h k = same Truth kind h.2 refl
  pair-kind (pair_op.Allen w t) l r kind h k = same Truth kind h.2 refl
  pair-kind (pair_op.Member t) l r kind h k = same Truth kind h.2 refl
  pair-kind (pair_op.Select e t) l r kind h k = same (Span t) kind h.2 (from (Point t) l h.0 k)
  pair-kind (pair_op.UnionOf t) l r kind h k = same (Span t) kind h.2 (from (Span t) l h.0 k)
  pair-kind (pair_op.IntersectOf t) l r kind h k = same (Span t) kind h.2 (from (Span t) l h.0 k)
  pair-kind (pair_op.MinusOf t) l r kind h k = same (Span t) kind h.2 (from (Span t) l h.0 k)

  attribute-kind : (heading : Heading) (i : ℕ) (name : Name) (kind : Kind) → IsTrue (list_all (λ a. is_kind sizes a.1) heading) → slice_get heading i ≡ Some (name, kind) → IsTrue (is_kind sizes kind)
  attribute-kind [] i name kind h e = absurd cc
  attribute-kind (a ∷ rest) zero name kind h e =
      let is : a ≡ (name, kind) = cc in
      subst (λ (b : Name × Kind). IsTrue (is_kind sizes b.1)) is (and_parts (is_kind sizes a.1) (list_all (λ b. is_kind sizes b.1) rest) h).0
  attribute-kind (a ∷ rest) (suc i) name kind h e = attribute-kind rest i name kind (and_parts (is_kind sizes a.1) (list_all (λ b. is_kind sizes b.1) rest) h).1 e

  -- where the attributes and the constants are of kinds there are, the values are of such a kind
  typed-kind : (heading : Heading) (e : Expr) (kind : Kind) → IsTrue (list_all (λ a. is_kind sizes a.1) heading) → IsTrue (has_declared sizes e) → IsTyped heading e kind → IsTrue (is_kind sizes kind)
  typed-kind heading (constant place k v) kind kinds h typed = from kind k typed.0 h
  typed-kind heading (attribute place i) kind kinds h typed = attribute-kind heading i typed.0 kind kinds typed.1
  typed-kind heading (one op place e) kind kinds h typed = one-kind op typed.0 kind typed.2 (typed-kind heading e typed.0 kinds h typed.1)
  typed-kind heading (pair op place l r) kind kinds h typed =
      pair-kind op typed.0 typed.1 kind typed.4 (typed-kind heading l typed.0 kinds (and_parts (has_declared sizes l) (has_declared sizes r) h).0 typed.2)
  typed-kind heading (and_expr place l r) kind kinds h typed = same Truth kind typed.2 refl
  typed-kind heading (or_expr place l r) kind kinds h typed = same Truth kind typed.2 refl

  pub scalar-kind : (heading : Heading) (e : Expr) (kind : Kind) → IsTrue (list_all (λ a. is_kind sizes a.1) heading) → IsScalar sizes heading e kind → IsTrue (is_kind sizes kind)
  scalar-kind heading e kind kinds h = typed-kind heading e kind kinds h.declared h.typed
