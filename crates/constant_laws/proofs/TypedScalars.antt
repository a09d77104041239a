-- A scalar that writes a constant is typed over any heading, and means its value on any row.
--     IsTypedAs      what is said
--     scalar-typed      the law
use Rattle.std.proofs.Common.{◌≡◌, ℕ, ℤ, pos, Bool, true, false, List, Option, Some, None, Ok, sym, ap, ap₂, ◌∙◌, subst}
use Rattle.std.specs.Prelude.{option_map, if◌then◌else◌}
use Rattle.base_core.specs.Outcomes.{then_give}
use Rattle.point_core.specs.declared.fault.Place.{Place}
use Rattle.point_core.specs.declared.fault.Code.TheVariants.{E06, E10, E12}
use Rattle.point_core.specs.declared.any_type.AnyType.{AnyType}
use Rattle.point_core.specs.declared.any_type.AnyType.TheVariants.{Date, Moment}
use Rattle.point_core.specs.Faults.{OrFault}
use Rattle.point_core.specs.Points.{line_of}
use Rattle.utd_syntax.specs.declared.words.BeginBracket.{BeginBracket}
use Rattle.utd_syntax.specs.declared.words.EndBracket.{EndBracket}
use Rattle.utd_syntax.specs.Plain as syntax
use Rattle.utd_syntax.specs.Plain.{Word, ScalarP, SignP, PrimaryP}
use Rattle.interval_core.specs.declared.selector.Ends.{Ends}
use Rattle.interval_core.specs.Members.{Span as Run}
use Rattle.value_core.specs.declared.kind.Kind.{Kind}
use Rattle.value_core.specs.declared.kind.Kind.TheVariants.{Truth, Char, Point, Span}
use Rattle.value_core.specs.declared.list.OrdinalNames.{OrdinalNames}
use Rattle.value_core.specs.Values.{Heading, Row, Value, truth, text, point, interval}
use Rattle.scalar_core.specs.declared.operators.PairOp.TheVariants.{Select}
use Rattle.scalar_core.specs.Expressions.{Expr, constant, pair}
use Rattle.scalar_core.specs.Operations.{selector_or}
use Rattle.scalar_core.specs.ScalarValues.{value}
use Rattle.scalar_core.proofs.KindOfLemmas.{same_kind-self}
use Rattle.scalar_typing.specs.Typings.{Typed, value_or}
use Rattle.scalar_typing.specs.Literals.{integer_literal, point_constant}
use Rattle.scalar_typing.specs.Names.{ordinal_value, value_of, ordinal_type}
use Rattle.scalar_typing.specs.Operators.{ends_of, selector_rule, pair_on, pair_typed}
use Rattle.scalar_typing.specs.Scalars.{typed_scalar, typed_sign, typed_primary}
use Rattle.constant_laws.specs.Constants.{IsOrdinalPoint, PrimaryPoint, WritesPoint, IsBetween, IsPointWritten, PrimaryWrites, SignWrites, Writes}

-- typing gives an expression of the kind, and this has the value on each row
pub record IsTypedAs (typing : OrFault Typed) (kind : Kind) (v : Value) : Type 0 where
  pub e : Expr
  pub typed : typing ≡ Ok (e, kind)
  pub means : (row : Row) → value e row ≡ Ok v

-- ---- points

-- a constant somewhere
IsConstant : OrFault Typed → AnyType → ℤ → Type 0
IsConstant typing t n = (at : Place) × (typing ≡ Ok (point_constant at t n))

ordinal-typed : (types : List OrdinalNames) (heading : Heading) (t : AnyType) (number : ℤ) (n v : Word) → IsOrdinalPoint types t number n v
    → ordinal_value types n v ≡ Ok (point_constant n.place t number)
ordinal-typed types heading t number n v h =
    ap (λ (o : Option (ℕ × OrdinalNames)). then_give (value_or n.place E10 o) (λ found. then_give (value_or v.place E10 (value_of found.1.values v.bytes)) (λ k. Ok (point_constant n.place (ordinal_type found) (pos k))))) h.type_named
    ∙ (ap (λ (o : Option ℕ). then_give (value_or v.place E10 o) (λ k. Ok (point_constant n.place (ordinal_type h.found) (pos k)))) h.value_named
    ∙ ap₂ (λ (u : AnyType) (z : ℤ). Ok (point_constant n.place u z)) (sym h.of_type) (sym h.numbered))

primary-point : (types : List OrdinalNames) (heading : Heading) (t : AnyType) (n : ℤ) (p : PrimaryP) → PrimaryPoint types t n p → IsConstant (typed_primary types heading p) t n
unfolding IsConstant
primary-point types heading t n (syntax.IntegerLiteral at bytes) h = (at, ap (integer_literal at at) h.1 ∙ ap (λ (u : AnyType). Ok (point_constant at u n)) (sym h.0))
primary-point types heading t n (syntax.DateLiteral at quoted bytes) h =
    (at, ap (λ (o : Option ℤ). then_give (value_or quoted E06 o) (λ number. Ok (point_constant at Date number))) h.1 ∙ ap (λ (u : AnyType). Ok (point_constant at u n)) (sym h.0))
primary-point types heading t n (syntax.MomentLiteral at quoted bytes) h =
    (at, ap (λ (o : Option ℤ). then_give (value_or quoted E06 o) (λ number. Ok (point_constant at Moment number))) h.1 ∙ ap (λ (u : AnyType). Ok (point_constant at u n)) (sym h.0))
primary-point types heading t n (syntax.Dotted w v) h = (w.place, ordinal-typed types heading t n w v h)
primary-point types heading t n _ h = absurd h

point-typed : (types : List OrdinalNames) (heading : Heading) (t : AnyType) (n : ℤ) (x : SignP) → WritesPoint types t n x → IsConstant (typed_sign types heading x) t n
unfolding IsConstant
point-typed types heading t n (syntax.NegativeInteger at digits bytes) h = (at, ap (integer_literal at digits) h.1 ∙ ap (λ (u : AnyType). Ok (point_constant at u n)) (sym h.0))
point-typed types heading t n (syntax.Negate at x) h = absurd h
point-typed types heading t n (syntax.OnePrimary p) h = primary-point types heading t n p h

point-as : (typing : OrFault Typed) (kind : Kind) (v : Value) (t : AnyType) (n : ℤ) → IsConstant typing t n → kind ≡ Point t → v ≡ point (line_of t) n → IsTypedAs typing kind v
unfolding IsConstant
point-as typing kind v t n h k e = record {
  e = constant h.0 (Point t) (point (line_of t) n);
  typed = h.1 ∙ ap (λ (j : Kind). Ok (constant h.0 (Point t) (point (line_of t) n), j)) (sym k);
  means = λ row. ap Ok (sym e);
}

sign-as : (types : List OrdinalNames) (heading : Heading) (kind : Kind) (v : Value) (x : SignP) → IsPointWritten types kind v x → IsTypedAs (typed_sign types heading x) kind v
sign-as types heading kind v x h = point-as (typed_sign types heading x) kind v h.0 h.1 (point-typed types heading h.0 h.1 x h.2) h.3 h.4

-- ---- intervals

selector-of : (at p q : Place) (ends : Ends) (t : AnyType) (from to : ℤ)
    → pair_typed at (selector_rule ends) (point_constant p t from) (point_constant q t to)
    ≡ Ok (pair (Select ends t) at (point_constant p t from).0 (point_constant q t to).0, Span t)
selector-of at p q ends t from to =
    ap (λ (b : Bool). value_or at E12 (option_map (pair_on at (point_constant p t from).0 (point_constant q t to).0) (option_map (λ (u : AnyType). (Select ends u, Span u)) (if b then Some t else None))))
    (same_kind-self (Point t))

selector-typed : (at : Place) (ends : Ends) (t : AnyType) (from to : ℤ) (left right : OrFault Typed) → IsConstant left t from → IsConstant right t to
    → (p : Place) × (q : Place) × (then_give left (λ l. then_give right (λ r. pair_typed at (selector_rule ends) l r))
    ≡ Ok (pair (Select ends t) at (point_constant p t from).0 (point_constant q t to).0, Span t))
unfolding IsConstant
selector-typed at ends t from to left right l r = (
  l.0,
  r.0,
  ap (λ (m : OrFault Typed). then_give m (λ x. then_give right (λ y. pair_typed at (selector_rule ends) x y))) l.1
      ∙ (ap (λ (m : OrFault Typed). then_give m (λ y. pair_typed at (selector_rule ends) (point_constant l.0 t from) y)) r.1
      ∙ selector-of at l.0 r.0 ends t from to),
)

same-constant : (typing other : OrFault Typed) (t : AnyType) (n : ℤ) → typing ≡ other → IsConstant other t n → IsConstant typing t n
unfolding IsConstant
same-constant typing other t n e h = (h.0, e ∙ h.1)

selector-as : (types : List OrdinalNames) (heading : Heading) (kind : Kind) (v : Value) (at : Place) (b : BeginBracket) (l r : ScalarP) (e : EndBracket) (t : AnyType) (i : Run)
    → IsBetween types t i b l r e → kind ≡ Span t → v ≡ interval (line_of t) i → IsTypedAs (typed_primary types heading (syntax.Selector at b l r e)) kind v
selector-as types heading kind v at b l r e t i h k is =
    let left = same-constant (typed_scalar types heading l) (typed_sign types heading h.first) t h.from (ap (typed_scalar types heading) h.begins_so) (point-typed types heading t h.from h.first h.begins_at) in
    let right = same-constant (typed_scalar types heading r) (typed_sign types heading h.second) t h.to (ap (typed_scalar types heading) h.ends_so) (point-typed types heading t h.to h.second h.ends_at) in
    let made = selector-typed at (ends_of b e) t h.from h.to (typed_scalar types heading l) (typed_scalar types heading r) left right in
    record {
      e = pair (Select (ends_of b e) t) at (point_constant made.0 t h.from).0 (point_constant made.1 t h.to).0;
      typed = made.2 ∙ ap (λ (j : Kind). Ok (pair (Select (ends_of b e) t) at (point_constant made.0 t h.from).0 (point_constant made.1 t h.to).0, j)) (sym k);
      means = λ row. ap (selector_or at t) h.selects ∙ ap Ok (sym is);
    }

-- ---- values

primary-as : (types : List OrdinalNames) (heading : Heading) (kind : Kind) (v : Value) (p : PrimaryP) → PrimaryWrites types kind v p → IsTypedAs (typed_primary types heading p) kind v
primary-as types heading kind v (syntax.TextLiteral at bytes) h = record {
  e = constant at Char (text h.0);
  typed = ap (λ (o : Option (List ℕ)). then_give (value_or at E06 o) (λ b. Ok (constant at Char (text b), Char))) h.1 ∙ ap (λ (j : Kind). Ok (constant at Char (text h.0), j)) (sym h.2);
  means = λ row. ap Ok (sym h.3);
}
primary-as types heading kind v (syntax.TrueLiteral at) h = record {
  e = constant at Truth (truth true);
  typed = ap (λ (j : Kind). Ok (constant at Truth (truth true), j)) (sym h.0);
  means = λ row. ap Ok (sym h.1);
}
primary-as types heading kind v (syntax.FalseLiteral at) h = record {
  e = constant at Truth (truth false);
  typed = ap (λ (j : Kind). Ok (constant at Truth (truth false), j)) (sym h.0);
  means = λ row. ap Ok (sym h.1);
}
primary-as types heading kind v (syntax.Selector at b l r e) h = selector-as types heading kind v at b l r e h.0 h.1 h.2 h.3 h.4
primary-as types heading kind v (syntax.IntegerLiteral at bytes) h = sign-as types heading kind v (syntax.OnePrimary (syntax.IntegerLiteral at bytes)) h
primary-as types heading kind v (syntax.DateLiteral at quoted bytes) h = sign-as types heading kind v (syntax.OnePrimary (syntax.DateLiteral at quoted bytes)) h
primary-as types heading kind v (syntax.MomentLiteral at quoted bytes) h = sign-as types heading kind v (syntax.OnePrimary (syntax.MomentLiteral at quoted bytes)) h
primary-as types heading kind v (syntax.Dotted n m) h = sign-as types heading kind v (syntax.OnePrimary (syntax.Dotted n m)) h
primary-as types heading kind v _ h = absurd h.2

sign-typed : (types : List OrdinalNames) (heading : Heading) (kind : Kind) (v : Value) (x : SignP) → SignWrites types kind v x → IsTypedAs (typed_sign types heading x) kind v
sign-typed types heading kind v (syntax.NegativeInteger at digits bytes) h = sign-as types heading kind v (syntax.NegativeInteger at digits bytes) h
sign-typed types heading kind v (syntax.Negate at x) h = absurd h.2
sign-typed types heading kind v (syntax.OnePrimary p) h = primary-as types heading kind v p h

pub scalar-typed : (types : List OrdinalNames) (heading : Heading) (kind : Kind) (v : Value) (s : ScalarP) → Writes types kind v s → IsTypedAs (typed_scalar types heading s) kind v
scalar-typed types heading kind v s h =
    subst (λ (z : ScalarP). IsTypedAs (typed_scalar types heading z) kind v) (sym h.1) (sign-typed types heading kind v h.0 h.2)
