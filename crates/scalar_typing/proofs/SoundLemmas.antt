-- What typing gives is typed for the heading: literals, names, and the expressions made of them.
use Rattle.std.specs.Prelude.{◌≡◌, ◌<◌, ℕ, ℤ, pos, Bool, true, false, ◌&&◌, nat_le, List, length, Option, Some, None, Result, Ok, Err, IfOk, IfSome, slice_get, if◌then◌else◌, refl}
use Rattle.std.proofs.Common.{arith, sym, subst}
use Rattle.std.specs.Str.{bytes_eq}
use Rattle.std.proofs.lemmas.Bool.{leb-true, and_from}
use Rattle.std.proofs.lemmas.Int.{ints}
use Rattle.base_core.proofs.BoolLemmas.{and_right}
use Rattle.point_core.specs.declared.fault.Place.{Place}
use Rattle.point_core.specs.declared.fault.Stop.{Stop}
use Rattle.point_core.specs.declared.any_type.AnyType.{AnyType}
use Rattle.point_core.specs.declared.any_type.AnyType.TheVariants.{Integer, Date, Ordinal, Moment}
use Rattle.point_core.specs.Dates.{IsDay}
use Rattle.point_core.specs.Moments.{IsSecond}
use Rattle.point_core.specs.Faults.{OrFault}
use Rattle.point_core.specs.Points.{IsNumber, is_number, line_of, first_of, last_of}
use Rattle.utd_syntax.specs.declared.words.ExtremeWord.{ExtremeWord}
use Rattle.utd_syntax.specs.declared.words.ExtremeWord.TheVariants.{First, Last}
use Rattle.utd_syntax.specs.Plain as syntax
use Rattle.utd_syntax.specs.Plain.{Word, PointP, ScalarP, ConjP, NegP, CmpP, SumP, ProdP, SignP, PrimaryP}
use Rattle.utd_syntax.specs.Literals.{is_date, is_moment}
use Rattle.value_core.specs.declared.kind.Kind.{Kind}
use Rattle.value_core.specs.declared.kind.Kind.TheVariants.{Truth}
use Rattle.value_core.specs.declared.list.OrdinalNames.{OrdinalNames}
use Rattle.value_core.specs.Values.{Name, Heading}
use Rattle.scalar_core.specs.Answers.{Gives}
use Rattle.scalar_core.specs.Expressions.{and_expr, or_expr, read}
use Rattle.scalar_core.specs.Kinds.{IsTyped}
use Rattle.scalar_core.proofs.PointLemmas.{same_line-self, number-is_number, last-number}
use Rattle.value_core.specs.Lengths.{is_text}
use Rattle.scalar_typing.specs.declared.typed.Typed.{Typed as TypedTree}
use Rattle.scalar_typing.specs.Typings.{Typed, ◌>>=◌, value_or, typed}
use Rattle.scalar_typing.specs.Literals.{integer_of, negative_of, text_of, number_of_date, date_of, number_of_moment, moment_of, point_constant, integer_literal, text_literal, date_literal, moment_literal, extreme_constant}
use Rattle.value_core.specs.Lengths.{is_utf8}
use Rattle.scalar_typing.specs.Names.{first_from, attribute_of, attribute_typed, ordinal_of, value_of, ordinal_type, point_type, ordinal_value, extreme_typed}
use Rattle.scalar_typing.specs.Operators.{when, both_are, function_rule, sum_rule, product_rule, comparison_rule, pairing_rule, ends_of, selector_rule, not_rule, negate_rule, logic_typed}
use Rattle.scalar_typing.specs.Scalars.{typed_scalar, typed_conj, typed_neg, typed_cmp, typed_sum, typed_prod, typed_sign, typed_primary}
use Rattle.scalar_typing.proofs.DayLemmas.{is-day, is-second}
use Rattle.utd_syntax.proofs.DateLemmas.{undated}
use Rattle.utd_syntax.proofs.MomentLemmas.{untimed}
use Rattle.scalar_typing.proofs.NameLemmas.{first-stands}
use Rattle.scalar_typing.proofs.TypedLemmas.{IsTypedPart, Sound, or-refused, mapped, when-holds, one-part, two-parts, both-are, not-sound, negate-sound, function-sound, sum-sound, product-sound, comparison-sound, pairing-sound, selector-sound}

-- f of what is given
pub then-sound : {X Y : Type 0} (P : X → Type 0) (Q : Y → Type 0) (x : OrFault X) (f : X → OrFault Y) → IfOk x P → ((a : X) → P a → IfOk (f a) Q) → IfOk (x >>= f) Q
then-sound P Q (Ok a) f h more = more a h
then-sound P Q (Err e) f h more = tt

if-some : {X : Type 0} (P : X → Type 0) (b : Bool) (x : X) → (b ≡ true → P x) → IfSome (if b then Some x else None) P
if-some P true x h = h refl
if-some P false x h = tt

anything : {X : Type 0} (o : Option X) → IfSome o (λ _. Unit {0})
anything None = tt
anything (Some x) = tt

pub any-given : {X : Type 0} (r : OrFault X) → IfOk r (λ _. Unit {0})
any-given (Ok x) = tt
any-given (Err e) = tt

-- ---- constants

point-sound : (heading : Heading) (at : Place) (t : AnyType) (n : ℤ) → IsNumber t n → IsTypedPart heading (point_constant at t n)
point-sound heading at t n h = (refl, and_from _ (is_number t n) (same_line-self (line_of t)) (number-is_number t n h))

integer-some : (digits : List ℕ) → IfSome (integer_of digits) (IsNumber Integer)
integer-some digits = if-some (IsNumber Integer) (nat_le _ 9223372036854775807) _ (λ h. let most = leb-true _ 9223372036854775807 h in (omega (arith, ints, most), omega (arith, ints, most)))

negative-some : (digits : List ℕ) → IfSome (negative_of digits) (IsNumber Integer)
negative-some digits = if-some (IsNumber Integer) (nat_le _ 9223372036854775808) _ (λ h. let most = leb-true _ 9223372036854775808 h in (omega (arith, ints, most), omega (arith, ints, most)))

integer-sound : (heading : Heading) (at digits : Place) (n : Option ℤ) → IfSome n (IsNumber Integer) → Sound heading (integer_literal at digits n)
integer-sound heading at digits None h = tt
integer-sound heading at digits (Some n) h = point-sound heading at Integer n h

date-number : (bytes : List ℕ) → is_date bytes ≡ true → IsNumber Date (number_of_date bytes)
date-number bytes h =
    let is = undated bytes h in
    subst IsDay (sym is.5) (is-day is.0 is.1 is.2 is.3)

date-sound : (heading : Heading) (at quoted : Place) (bytes : List ℕ) → Sound heading (date_literal at quoted bytes)
date-sound heading at quoted bytes =
    then-sound (IsNumber Date) (IsTypedPart heading) (value_or quoted _ (date_of bytes)) _
    (or-refused (IsNumber Date) quoted _ (date_of bytes) (if-some (IsNumber Date) (is_date bytes) (number_of_date bytes) (date-number bytes)))
    (λ n h. point-sound heading at Date n h)

moment-number : (bytes : List ℕ) → is_moment bytes ≡ true → IsNumber Moment (number_of_moment bytes)
moment-number bytes h =
    let is = untimed bytes h in
    subst IsSecond (sym is.9) (is-second is.0 is.1 is.2 is.3 is.4 is.5 is.6 is.7)

moment-sound : (heading : Heading) (at quoted : Place) (bytes : List ℕ) → Sound heading (moment_literal at quoted bytes)
moment-sound heading at quoted bytes =
    then-sound (IsNumber Moment) (IsTypedPart heading) (value_or quoted _ (moment_of bytes)) _
    (or-refused (IsNumber Moment) quoted _ (moment_of bytes) (if-some (IsNumber Moment) (is_moment bytes) (number_of_moment bytes) (moment-number bytes)))
    (λ n h. point-sound heading at Moment n h)

text-sound : (heading : Heading) (at : Place) (bytes : List ℕ) → Sound heading (text_literal at bytes)
text-sound heading at bytes =
    then-sound (λ (b : List ℕ). is_text b ≡ true) (IsTypedPart heading) (value_or at _ (text_of bytes)) _
    (or-refused (λ (b : List ℕ). is_text b ≡ true) at _ (text_of bytes) (if-some _ (is_text bytes) bytes (λ h. h)))
    (λ b h. (refl, h))

first-number : (t : AnyType) → IsNumber t (first_of t)
first-number Integer = (omega (arith, ints), omega (arith, ints))
first-number Date = (omega (arith, ints), omega (arith, ints))
first-number (Ordinal of last) = (omega (arith, ints), omega (arith, ints))
first-number Moment = (omega (arith, ints), omega (arith, ints))

extreme-sound : (heading : Heading) (at : Place) (w : ExtremeWord) (t : AnyType) → IsTypedPart heading (extreme_constant at w t)
extreme-sound heading at First t = point-sound heading at t (first_of t) (first-number t)
extreme-sound heading at Last t = point-sound heading at t (last_of t) (last-number t)

-- ---- names

-- the first that passes stands at its place
pub found-at : {X : Type 0} (p : X → Bool) (xs : List X) (i : ℕ) (x : X) → first_from p 0 xs ≡ Some (i, x) → (i < length xs) × (slice_get xs i ≡ Some x)
found-at p xs i x e =
    let stands = first-stands p 0 xs i x e in
    let place : stands.0 ≡ i = omega (arith, stands.1) in
    (omega (arith, stands.2), subst (λ k. slice_get xs k ≡ Some x) place stands.3)

attribute-sound : (heading : Heading) (w : Word) → Sound heading (attribute_typed heading w)
attribute-sound heading w =
    then-sound (λ (found : ℕ × Kind). (name : Name) × (slice_get heading found.0 ≡ Some (name, found.1))) (IsTypedPart heading) (value_or w.place _ (attribute_of heading w.bytes)) _
    (or-refused _ w.place _ (attribute_of heading w.bytes)
    (mapped _ (first_from (λ a. bytes_eq a.0 w.bytes) 0 heading) _
    (λ found e. (found.1.0, (found-at (λ a. bytes_eq a.0 w.bytes) heading found.0 found.1 e).1))))
    (λ found h. h)

value-sound : (values : List Name) (v : Word) → IfSome (value_of values v.bytes) (λ number. number < length values)
value-sound values v = mapped (λ number. number < length values) (first_from (λ n. bytes_eq n v.bytes) 0 values) _
    (λ found e. (found-at (λ n. bytes_eq n v.bytes) values found.0 found.1 e).0)

ordinal-sound : (types : List OrdinalNames) (heading : Heading) (n v : Word) → Sound heading (ordinal_value types n v)
ordinal-sound types heading n v =
    then-sound (λ _. Unit {0}) (IsTypedPart heading) (value_or n.place _ (ordinal_of types n.bytes)) _
    (or-refused (λ _. Unit {0}) n.place _ (ordinal_of types n.bytes) (anything (ordinal_of types n.bytes)))
    (λ found _. then-sound (λ number. number < length found.1.values) (IsTypedPart heading) (value_or v.place _ (value_of found.1.values v.bytes)) _
    (or-refused (λ number. number < length found.1.values) v.place _ (value_of found.1.values v.bytes) (value-sound found.1.values v))
    (λ number h. point-sound heading n.place (ordinal_type found) (pos number) (omega (arith, ints), omega (arith, ints))))

extreme-typed-sound : (types : List OrdinalNames) (heading : Heading) (at : Place) (w : ExtremeWord) (p : PointP) → Sound heading (extreme_typed types at w p)
extreme-typed-sound types heading at w p =
    then-sound (λ _. Unit {0}) (IsTypedPart heading) (point_type types p) _ (any-given (point_type types p)) (λ t _. extreme-sound heading at w t)

-- ---- expressions

logic-and : (heading : Heading) (at : Place) (l r : Typed) → IsTypedPart heading l → IsTypedPart heading r → Sound heading (logic_typed at and_expr l r)
logic-and heading at l r left right = or-refused (IsTypedPart heading) at _ (when (both_are Truth l.1 r.1) (and_expr at l.0 r.0) Truth)
    (when-holds (IsTypedPart heading) (both_are Truth l.1 r.1) (and_expr at l.0 r.0) Truth
    (λ h. let kinds = both-are Truth l.1 r.1 h in (subst (IsTyped heading l.0) kinds.0 left, subst (IsTyped heading r.0) kinds.1 right, refl)))

logic-or : (heading : Heading) (at : Place) (l r : Typed) → IsTypedPart heading l → IsTypedPart heading r → Sound heading (logic_typed at or_expr l r)
logic-or heading at l r left right = or-refused (IsTypedPart heading) at _ (when (both_are Truth l.1 r.1) (or_expr at l.0 r.0) Truth)
    (when-holds (IsTypedPart heading) (both_are Truth l.1 r.1) (or_expr at l.0 r.0) Truth
    (λ h. let kinds = both-are Truth l.1 r.1 h in (subst (IsTyped heading l.0) kinds.0 left, subst (IsTyped heading r.0) kinds.1 right, refl)))

both-sound : (heading : Heading) (x y : OrFault Typed) (f : Typed → Typed → OrFault Typed) → Sound heading x → Sound heading y →
    ((l r : Typed) → IsTypedPart heading l → IsTypedPart heading r → Sound heading (f l r)) → Sound heading (x >>= (λ l. y >>= (λ r. f l r)))
both-sound heading x y f h j more =
    then-sound (IsTypedPart heading) (IsTypedPart heading) x _ h (λ l left. then-sound (IsTypedPart heading) (IsTypedPart heading) y _ j (λ r right. more l r left right))

part-sound : (heading : Heading) (x : OrFault Typed) (f : Typed → OrFault Typed) → Sound heading x → ((part : Typed) → IsTypedPart heading part → Sound heading (f part)) →
    Sound heading (x >>= f)
part-sound heading x f h more = then-sound (IsTypedPart heading) (IsTypedPart heading) x f h more

mutual
  pub scalar-sound : (types : List OrdinalNames) (heading : Heading) (s : ScalarP) → Sound heading (typed_scalar types heading s)
  scalar-sound types heading (syntax.OneConj c) = conj-sound types heading c
  scalar-sound types heading (syntax.Or l at r) =
      both-sound heading (typed_scalar types heading l) (typed_conj types heading r) _ (scalar-sound types heading l) (conj-sound types heading r) (logic-or heading at)

  pub conj-sound : (types : List OrdinalNames) (heading : Heading) (c : ConjP) → Sound heading (typed_conj types heading c)
  conj-sound types heading (syntax.OneNeg n) = neg-sound types heading n
  conj-sound types heading (syntax.And l at r) =
      both-sound heading (typed_conj types heading l) (typed_neg types heading r) _ (conj-sound types heading l) (neg-sound types heading r) (logic-and heading at)

  pub neg-sound : (types : List OrdinalNames) (heading : Heading) (n : NegP) → Sound heading (typed_neg types heading n)
  neg-sound types heading (syntax.Not at n) =
      part-sound heading (typed_neg types heading n) _ (neg-sound types heading n) (λ part h. one-part heading at not_rule part (not-sound part.1) h)
  neg-sound types heading (syntax.OneCmp c) = cmp-sound types heading c

  pub cmp-sound : (types : List OrdinalNames) (heading : Heading) (c : CmpP) → Sound heading (typed_cmp types heading c)
  cmp-sound types heading (syntax.OneSum s) = sums-sound types heading s
  cmp-sound types heading (syntax.Compare l at w r) =
      both-sound heading (typed_sum types heading l) (typed_sum types heading r) _ (sums-sound types heading l) (sums-sound types heading r)
      (λ a b left right. two-parts heading at (comparison_rule w) a b (comparison-sound w a.1 b.1) left right)

  pub sums-sound : (types : List OrdinalNames) (heading : Heading) (s : SumP) → Sound heading (typed_sum types heading s)
  sums-sound types heading (syntax.OneProd p) = prod-sound types heading p
  sums-sound types heading (syntax.Add l at w r) =
      both-sound heading (typed_sum types heading l) (typed_prod types heading r) _ (sums-sound types heading l) (prod-sound types heading r)
      (λ a b left right. two-parts heading at (sum_rule w) a b (sum-sound w a.1 b.1) left right)

  pub prod-sound : (types : List OrdinalNames) (heading : Heading) (p : ProdP) → Sound heading (typed_prod types heading p)
  prod-sound types heading (syntax.OneSign s) = sign-sound types heading s
  prod-sound types heading (syntax.Multiply l at w r) =
      both-sound heading (typed_prod types heading l) (typed_sign types heading r) _ (prod-sound types heading l) (sign-sound types heading r)
      (λ a b left right. two-parts heading at (product_rule w) a b (product-sound w a.1 b.1) left right)

  pub sign-sound : (types : List OrdinalNames) (heading : Heading) (s : SignP) → Sound heading (typed_sign types heading s)
  sign-sound types heading (syntax.NegativeInteger at digits bytes) = integer-sound heading at digits (negative_of bytes) (negative-some bytes)
  sign-sound types heading (syntax.Negate at s) =
      part-sound heading (typed_sign types heading s) _ (sign-sound types heading s) (λ part h. one-part heading at negate_rule part (negate-sound part.1) h)
  sign-sound types heading (syntax.OnePrimary p) = primary-sound types heading p

  pub primary-sound : (types : List OrdinalNames) (heading : Heading) (p : PrimaryP) → Sound heading (typed_primary types heading p)
  primary-sound types heading (syntax.IntegerLiteral at bytes) = integer-sound heading at at (integer_of bytes) (integer-some bytes)
  primary-sound types heading (syntax.TextLiteral at bytes) = text-sound heading at bytes
  primary-sound types heading (syntax.DateLiteral at quoted bytes) = date-sound heading at quoted bytes
  primary-sound types heading (syntax.MomentLiteral at quoted bytes) = moment-sound heading at quoted bytes
  primary-sound types heading (syntax.TrueLiteral at) = (refl, refl)
  primary-sound types heading (syntax.FalseLiteral at) = (refl, refl)
  primary-sound types heading (syntax.AttributeName w) = attribute-sound heading w
  primary-sound types heading (syntax.Dotted n v) = ordinal-sound types heading n v
  primary-sound types heading (syntax.Paren at s) = scalar-sound types heading s
  primary-sound types heading (syntax.Selector at b l r e) =
      both-sound heading (typed_scalar types heading l) (typed_scalar types heading r) _ (scalar-sound types heading l) (scalar-sound types heading r)
      (λ x y left right. two-parts heading at (selector_rule (ends_of b e)) x y (selector-sound (ends_of b e) x.1 y.1) left right)
  primary-sound types heading (syntax.Extreme at w p) = extreme-typed-sound types heading at w p
  primary-sound types heading (syntax.Function at w s) =
      part-sound heading (typed_scalar types heading s) _ (scalar-sound types heading s) (λ part h. one-part heading at (function_rule w) part (function-sound w part.1) h)
  primary-sound types heading (syntax.PairFunction at w l r) =
      both-sound heading (typed_scalar types heading l) (typed_scalar types heading r) _ (scalar-sound types heading l) (scalar-sound types heading r)
      (λ x y left right. two-parts heading at (pairing_rule w) x y (pairing-sound w x.1 y.1) left right)

-- an answer that is meant is typed for the heading
pub given-typed : (heading : Heading) (r : Result TypedTree Stop) (m : OrFault Typed) → Gives typed r m → Sound heading m → IfOk r (λ t. IsTyped heading (read t.scalar) t.kind)
given-typed heading (Ok t) m given sound = subst (Sound heading) given sound
given-typed heading (Err e) m given sound = tt
