-- The typing of row expressions is not E06 where each name and literal in them stands for a name or a value.
use Rattle.std.proofs.Common.{◌≡◌, ℕ, List, Bool, true, false, ◌&&◌, ◌||◌, not, Option, Some, None, nat_le, nat_lt, length, refl, arith}
use Rattle.base_core.proofs.BoolLemmas.{left_false}
use Rattle.point_core.specs.declared.fault.Place.{Place}
use Rattle.point_core.specs.declared.fault.Code.TheVariants.{E06, E10, E12, E14}
use Rattle.utd_syntax.specs.declared.terminal.Terminal.TheVariants as t
use Rattle.utd_syntax.specs.Literals.{value_of, is_date, is_moment}
use Rattle.utd_syntax.specs.Plain as syntax
use Rattle.utd_syntax.specs.Plain.{Word, PointP, ScalarP, ConjP, NegP, CmpP, SumP, ProdP, SignP, PrimaryP}
use Rattle.utd_syntax.specs.Table.{Plain, Negated, Dated, Timed}
use Rattle.utd_ranges.specs.Ranges.{IsIn, NameIn, PointIn, ScalarIn, ConjIn, NegIn, CmpIn, SumIn, ProdIn, SignIn, PrimaryIn, is_unwritten, has_no_value}
use Rattle.utd_ranges.specs.Limits.{is_bad_text}
use Rattle.value_core.specs.Lengths.{has_control, is_utf8}
use Rattle.value_core.proofs.TextLemmas.{text-of-parts}
use Rattle.value_core.specs.declared.list.OrdinalNames.{OrdinalNames}
use Rattle.value_core.specs.Limits.{most_text_bytes}
use Rattle.value_core.specs.Values.{Heading}
use Rattle.scalar_core.specs.Expressions.{and_expr, or_expr}
use Rattle.scalar_typing.specs.Typings.{Typed, ◌>>=◌, value_or}
use Rattle.scalar_typing.specs.Literals.{integer_of, negative_of, text_of, date_of, moment_of, integer_literal, text_literal, date_literal, moment_literal}
use Rattle.scalar_typing.specs.Names.{attribute_of, attribute_typed, ordinal_of, value_of as number_of, point_type, ordinal_value, extreme_typed}
use Rattle.scalar_typing.specs.Operators.{not_rule, negate_rule, function_rule, sum_rule, product_rule, comparison_rule, pairing_rule, ends_of, selector_rule, one_typed, pair_typed, logic_typed}
use Rattle.scalar_typing.specs.Scalars.{typed_scalar, typed_conj, typed_neg, typed_cmp, typed_sum, typed_prod, typed_sign, typed_primary}
use Rattle.type_check.specs.Refusals.{IsNotE06}
use Rattle.type_check.proofs.Refused.{then-fine, two-fine, value-fine, there-fine, or-right, not-left, not-false}

pub not-above : (most n : ℕ) → nat_lt most n ≡ false → nat_le n most ≡ true
not-above most n h = search (arith, h)

-- ---- literals

integer-fine : (at digits : Place) (bytes : List ℕ) → IsIn has_no_value Plain t.Digits bytes → IsNotE06 (integer_literal at digits (integer_of bytes))
integer-fine at digits bytes h = then-fine (value_or digits E06 (integer_of bytes)) _ (there-fine digits E06 (nat_le (value_of bytes) 9223372036854775807) _ (not-above 9223372036854775807 (value_of bytes) (left_false _ (is_unwritten t.Digits bytes) h))) (λ n. tt)

negative-fine : (at digits : Place) (bytes : List ℕ) → IsIn has_no_value Negated t.Digits bytes → IsNotE06 (integer_literal at digits (negative_of bytes))
negative-fine at digits bytes h = then-fine (value_or digits E06 (negative_of bytes)) _ (there-fine digits E06 (nat_le (value_of bytes) 9223372036854775808) _ (not-above 9223372036854775808 (value_of bytes) (left_false _ (is_unwritten t.Digits bytes) h))) (λ n. tt)

text-fine : (at : Place) (bytes : List ℕ) → IsIn has_no_value Plain t.Quoted bytes → IsNotE06 (text_literal at bytes)
text-fine at bytes h =
    let bad : is_bad_text bytes ≡ false = left_false _ (is_unwritten t.Quoted bytes) h in
    let short : nat_le (length bytes) most_text_bytes ≡ true = not-above most_text_bytes (length bytes) (left_false _ (has_control bytes) bad) in
    let printed : has_control bytes ≡ false = or-right _ (has_control bytes) bad in
    let valid : is_utf8 bytes ≡ true = not-left (is_utf8 bytes) _ (or-right _ (is_unwritten t.Quoted bytes) h) in
    then-fine (value_or at E06 (text_of bytes)) _ (there-fine at E06 _ bytes (text-of-parts bytes valid short printed)) (λ b. tt)

date-fine : (at quoted : Place) (bytes : List ℕ) → IsIn has_no_value Dated t.Quoted bytes → IsNotE06 (date_literal at quoted bytes)
date-fine at quoted bytes h = then-fine (value_or quoted E06 (date_of bytes)) _ (there-fine quoted E06 (is_date bytes) _ (not-false (is_date bytes) (left_false _ (is_unwritten t.Quoted bytes) h))) (λ n. tt)

moment-fine : (at quoted : Place) (bytes : List ℕ) → IsIn has_no_value Timed t.Quoted bytes → IsNotE06 (moment_literal at quoted bytes)
moment-fine at quoted bytes h = then-fine (value_or quoted E06 (moment_of bytes)) _ (there-fine quoted E06 (is_moment bytes) _ (not-false (is_moment bytes) (left_false _ (is_unwritten t.Quoted bytes) h))) (λ n. tt)

-- ---- names that are looked for

attribute-fine : (heading : Heading) (w : Word) → IsNotE06 (attribute_typed heading w)
attribute-fine heading w = then-fine (value_or w.place E14 (attribute_of heading w.bytes)) _ (value-fine w.place E14 (λ e. cc) (attribute_of heading w.bytes)) (λ found. tt)

pub point-fine : (types : List OrdinalNames) (p : PointP) → IsNotE06 (point_type types p)
point-fine types (syntax.IntegerType at) = tt
point-fine types (syntax.DateType at) = tt
point-fine types (syntax.MomentType at) = tt
point-fine types (syntax.NamedType w) = then-fine (value_or w.place E10 (ordinal_of types w.bytes)) _ (value-fine w.place E10 (λ e. cc) (ordinal_of types w.bytes)) (λ found. tt)

ordinal-fine : (types : List OrdinalNames) (n v : Word) → IsNotE06 (ordinal_value types n v)
ordinal-fine types n v = then-fine (value_or n.place E10 (ordinal_of types n.bytes)) _ (value-fine n.place E10 (λ e. cc) (ordinal_of types n.bytes))
    (λ found. then-fine (value_or v.place E10 (number_of found.1.values v.bytes)) _ (value-fine v.place E10 (λ e. cc) (number_of found.1.values v.bytes)) (λ number. tt))

-- ---- operators

one-fine : (at : Place) (rule : _) (part : Typed) → IsNotE06 (one_typed at rule part)
one-fine at rule part = value-fine at E12 (λ e. cc) _

pair-fine : (at : Place) (rule : _) (l r : Typed) → IsNotE06 (pair_typed at rule l r)
pair-fine at rule l r = value-fine at E12 (λ e. cc) _

logic-fine : (at : Place) (connected : _) (l r : Typed) → IsNotE06 (logic_typed at connected l r)
logic-fine at connected l r = value-fine at E12 (λ e. cc) _

mutual
  pub scalar-fine : (types : List OrdinalNames) (heading : Heading) (s : ScalarP) → ScalarIn has_no_value s → IsNotE06 (typed_scalar types heading s)
  scalar-fine types heading (syntax.OneConj c) h = conj-fine types heading c h
  scalar-fine types heading (syntax.Or l at r) h = two-fine (typed_scalar types heading l) (typed_conj types heading r) (logic_typed at or_expr) (scalar-fine types heading l h.0) (conj-fine types heading r h.1) (logic-fine at or_expr)

  conj-fine : (types : List OrdinalNames) (heading : Heading) (s : ConjP) → ConjIn has_no_value s → IsNotE06 (typed_conj types heading s)
  conj-fine types heading (syntax.OneNeg n) h = neg-fine types heading n h
  conj-fine types heading (syntax.And l at r) h = two-fine (typed_conj types heading l) (typed_neg types heading r) (logic_typed at and_expr) (conj-fine types heading l h.0) (neg-fine types heading r h.1) (logic-fine at and_expr)

  neg-fine : (types : List OrdinalNames) (heading : Heading) (s : NegP) → NegIn has_no_value s → IsNotE06 (typed_neg types heading s)
  neg-fine types heading (syntax.Not at n) h = then-fine (typed_neg types heading n) (one_typed at not_rule) (neg-fine types heading n h) (one-fine at not_rule)
  neg-fine types heading (syntax.OneCmp c) h = cmp-fine types heading c h

  cmp-fine : (types : List OrdinalNames) (heading : Heading) (s : CmpP) → CmpIn has_no_value s → IsNotE06 (typed_cmp types heading s)
  cmp-fine types heading (syntax.OneSum s) h = sum-fine types heading s h
  cmp-fine types heading (syntax.Compare l at w r) h = two-fine (typed_sum types heading l) (typed_sum types heading r) (pair_typed at (comparison_rule w)) (sum-fine types heading l h.0) (sum-fine types heading r h.1) (pair-fine at (comparison_rule w))

  sum-fine : (types : List OrdinalNames) (heading : Heading) (s : SumP) → SumIn has_no_value s → IsNotE06 (typed_sum types heading s)
  sum-fine types heading (syntax.OneProd p) h = prod-fine types heading p h
  sum-fine types heading (syntax.Add l at w r) h = two-fine (typed_sum types heading l) (typed_prod types heading r) (pair_typed at (sum_rule w)) (sum-fine types heading l h.0) (prod-fine types heading r h.1) (pair-fine at (sum_rule w))

  prod-fine : (types : List OrdinalNames) (heading : Heading) (s : ProdP) → ProdIn has_no_value s → IsNotE06 (typed_prod types heading s)
  prod-fine types heading (syntax.OneSign s) h = sign-fine types heading s h
  prod-fine types heading (syntax.Multiply l at w r) h = two-fine (typed_prod types heading l) (typed_sign types heading r) (pair_typed at (product_rule w)) (prod-fine types heading l h.0) (sign-fine types heading r h.1) (pair-fine at (product_rule w))

  sign-fine : (types : List OrdinalNames) (heading : Heading) (s : SignP) → SignIn has_no_value s → IsNotE06 (typed_sign types heading s)
  sign-fine types heading (syntax.NegativeInteger at digits bytes) h = negative-fine at digits bytes h
  sign-fine types heading (syntax.Negate at s) h = then-fine (typed_sign types heading s) (one_typed at negate_rule) (sign-fine types heading s h) (one-fine at negate_rule)
  sign-fine types heading (syntax.OnePrimary p) h = primary-fine types heading p h

  primary-fine : (types : List OrdinalNames) (heading : Heading) (s : PrimaryP) → PrimaryIn has_no_value s → IsNotE06 (typed_primary types heading s)
  primary-fine types heading (syntax.IntegerLiteral at bytes) h = integer-fine at at bytes h
  primary-fine types heading (syntax.TextLiteral at bytes) h = text-fine at bytes h
  primary-fine types heading (syntax.DateLiteral at quoted bytes) h = date-fine at quoted bytes h
  primary-fine types heading (syntax.MomentLiteral at quoted bytes) h = moment-fine at quoted bytes h
  primary-fine types heading (syntax.TrueLiteral at) h = tt
  primary-fine types heading (syntax.FalseLiteral at) h = tt
  primary-fine types heading (syntax.AttributeName w) h = attribute-fine heading w
  primary-fine types heading (syntax.Dotted n v) h = ordinal-fine types n v
  primary-fine types heading (syntax.Paren at s) h = scalar-fine types heading s h
  primary-fine types heading (syntax.Selector at b l r e) h = two-fine (typed_scalar types heading l) (typed_scalar types heading r) (pair_typed at (selector_rule (ends_of b e))) (scalar-fine types heading l h.0) (scalar-fine types heading r h.1) (pair-fine at (selector_rule (ends_of b e)))
  primary-fine types heading (syntax.Extreme at w p) h = then-fine (point_type types p) _ (point-fine types p) (λ kind. tt)
  primary-fine types heading (syntax.Function at w s) h = then-fine (typed_scalar types heading s) (one_typed at (function_rule w)) (scalar-fine types heading s h) (one-fine at (function_rule w))
  primary-fine types heading (syntax.PairFunction at w l r) h = two-fine (typed_scalar types heading l) (typed_scalar types heading r) (pair_typed at (pairing_rule w)) (scalar-fine types heading l h.0) (scalar-fine types heading r h.1) (pair-fine at (pairing_rule w))
