-- Row expressions that stand elsewhere, beside more ordinal types: what is typed is typed there, but for places.
--     scalar-follows .. primary-follows      the typing of the moved form follows
use Rattle.std.proofs.Common.{true, false, List, ◌++◌}
use Rattle.point_core.specs.declared.fault.Place.{Place}
use Rattle.point_core.specs.Faults.{OrFault}
use Rattle.utd_syntax.specs.Plain as syntax
use Rattle.utd_syntax.specs.Plain.{ScalarP, ConjP, NegP, CmpP, SumP, ProdP, SignP, PrimaryP}
use Rattle.value_core.specs.declared.kind.Kind.{Kind}
use Rattle.value_core.specs.declared.list.OrdinalNames.{OrdinalNames}
use Rattle.value_core.specs.Values.{Heading}
use Rattle.scalar_core.specs.Expressions.{and_expr, or_expr}
use Rattle.scalar_typing.specs.Typings.{Typed, ◌>>=◌}
use Rattle.scalar_typing.specs.Literals.{integer_of, negative_of, truth_constant}
use Rattle.scalar_typing.specs.Operators.{OneRule, PairRule, not_rule, negate_rule, function_rule, sum_rule, product_rule, comparison_rule, pairing_rule, ends_of, selector_rule, one_typed, pair_typed, logic_typed}
use Rattle.scalar_typing.specs.Scalars.{typed_scalar, typed_conj, typed_neg, typed_cmp, typed_sum, typed_prod, typed_sign, typed_primary}
use Rattle.place_laws.specs.Moved.{moved_scalar, moved_conj, moved_neg, moved_cmp, moved_sum, moved_prod, moved_sign, moved_primary}
use Rattle.row_typing_laws.specs.Followings.{Follows, moved_typed}
use Rattle.row_typing_laws.proofs.Parts.{given-follows, then-follows}
use Rattle.row_typing_laws.proofs.ElsewhereOperators.{one-follows, pair-follows, and-follows, or-follows, integer-follows, text-follows, date-follows, moment-follows}
use Rattle.row_typing_laws.proofs.ElsewhereNames.{attribute-follows, value-name-follows, extreme-follows}

-- two parts, left to right, and an operator on them
two-follow : (f : Place → Place) (x y u v : OrFault Typed) (g k : Typed → Typed → OrFault Typed) → Follows (moved_typed f) x u → Follows (moved_typed f) y v
    → ((l r : Typed) → Follows (moved_typed f) (g l r) (k (moved_typed f l) (moved_typed f r))) → Follows (moved_typed f) (x >>= (λ l. y >>= (λ r. g l r))) (u >>= (λ l. v >>= (λ r. k l r)))
two-follow f x y u v g k left right on =
    then-follows (moved_typed f) (moved_typed f) x u (λ l. y >>= (λ r. g l r)) (λ l. v >>= (λ r. k l r)) left
    (λ l. then-follows (moved_typed f) (moved_typed f) y v (g l) (k (moved_typed f l)) right (on l))

-- two parts and an operator of the table; one part and an operator
pair-follow : (f : Place → Place) (at : Place) (rule : Kind → Kind → PairRule) (x y u v : OrFault Typed) → Follows (moved_typed f) x u → Follows (moved_typed f) y v
    → Follows (moved_typed f) (x >>= (λ l. y >>= (λ r. pair_typed at rule l r))) (u >>= (λ l. v >>= (λ r. pair_typed (f at) rule l r)))
pair-follow f at rule x y u v left right = two-follow f x y u v (pair_typed at rule) (pair_typed (f at) rule) left right (pair-follows f at rule)

part-follows : (f : Place → Place) (at : Place) (rule : Kind → OneRule) (x u : OrFault Typed) → Follows (moved_typed f) x u
    → Follows (moved_typed f) (x >>= (λ part. one_typed at rule part)) (u >>= (λ part. one_typed (f at) rule part))
part-follows f at rule x u given = then-follows (moved_typed f) (moved_typed f) x u (one_typed at rule) (one_typed (f at) rule) given (one-follows f at rule)

module _ (f : Place → Place) (types more : List OrdinalNames) (heading : Heading) where
  mutual
    pub scalar-follows : (s : ScalarP) → Follows (moved_typed f) (typed_scalar types heading s) (typed_scalar (types ++ more) heading (moved_scalar f s))
    scalar-follows (syntax.OneConj c) = conj-follows c
    scalar-follows (syntax.Or l at r) =
        two-follow f (typed_scalar types heading l) (typed_conj types heading r) _ _ (logic_typed at or_expr) (logic_typed (f at) or_expr) (scalar-follows l) (conj-follows r) (or-follows f at)

    pub conj-follows : (s : ConjP) → Follows (moved_typed f) (typed_conj types heading s) (typed_conj (types ++ more) heading (moved_conj f s))
    conj-follows (syntax.OneNeg n) = neg-follows n
    conj-follows (syntax.And l at r) =
        two-follow f (typed_conj types heading l) (typed_neg types heading r) _ _ (logic_typed at and_expr) (logic_typed (f at) and_expr) (conj-follows l) (neg-follows r) (and-follows f at)

    pub neg-follows : (s : NegP) → Follows (moved_typed f) (typed_neg types heading s) (typed_neg (types ++ more) heading (moved_neg f s))
    neg-follows (syntax.Not at n) =
        part-follows f at not_rule (typed_neg types heading n) _ (neg-follows n)
    neg-follows (syntax.OneCmp c) = cmp-follows c

    pub cmp-follows : (s : CmpP) → Follows (moved_typed f) (typed_cmp types heading s) (typed_cmp (types ++ more) heading (moved_cmp f s))
    cmp-follows (syntax.OneSum s) = sum-follows s
    cmp-follows (syntax.Compare l at w r) =
        pair-follow f at (comparison_rule w) (typed_sum types heading l) (typed_sum types heading r) _ _ (sum-follows l) (sum-follows r)

    pub sum-follows : (s : SumP) → Follows (moved_typed f) (typed_sum types heading s) (typed_sum (types ++ more) heading (moved_sum f s))
    sum-follows (syntax.OneProd p) = prod-follows p
    sum-follows (syntax.Add l at w r) =
        pair-follow f at (sum_rule w) (typed_sum types heading l) (typed_prod types heading r) _ _ (sum-follows l) (prod-follows r)

    pub prod-follows : (s : ProdP) → Follows (moved_typed f) (typed_prod types heading s) (typed_prod (types ++ more) heading (moved_prod f s))
    prod-follows (syntax.OneSign s) = sign-follows s
    prod-follows (syntax.Multiply l at w r) =
        pair-follow f at (product_rule w) (typed_prod types heading l) (typed_sign types heading r) _ _ (prod-follows l) (sign-follows r)

    pub sign-follows : (s : SignP) → Follows (moved_typed f) (typed_sign types heading s) (typed_sign (types ++ more) heading (moved_sign f s))
    sign-follows (syntax.NegativeInteger at digits bytes) = integer-follows f at digits (negative_of bytes)
    sign-follows (syntax.Negate at s) =
        part-follows f at negate_rule (typed_sign types heading s) _ (sign-follows s)
    sign-follows (syntax.OnePrimary p) = primary-follows p

    pub primary-follows : (s : PrimaryP) → Follows (moved_typed f) (typed_primary types heading s) (typed_primary (types ++ more) heading (moved_primary f s))
    primary-follows (syntax.IntegerLiteral at bytes) = integer-follows f at at (integer_of bytes)
    primary-follows (syntax.TextLiteral at bytes) = text-follows f at bytes
    primary-follows (syntax.DateLiteral at quoted bytes) = date-follows f at quoted bytes
    primary-follows (syntax.MomentLiteral at quoted bytes) = moment-follows f at quoted bytes
    primary-follows (syntax.TrueLiteral at) = given-follows (moved_typed f) (truth_constant at true)
    primary-follows (syntax.FalseLiteral at) = given-follows (moved_typed f) (truth_constant at false)
    primary-follows (syntax.AttributeName w) = attribute-follows f types more heading w
    primary-follows (syntax.Dotted n v) = value-name-follows f types more n v
    primary-follows (syntax.Paren at s) = scalar-follows s
    primary-follows (syntax.Selector at b l r e) =
        pair-follow f at (selector_rule (ends_of b e)) (typed_scalar types heading l) (typed_scalar types heading r) _ _ (scalar-follows l) (scalar-follows r)
    primary-follows (syntax.Extreme at w p) = extreme-follows f types more at w p
    primary-follows (syntax.Function at w s) =
        part-follows f at (function_rule w) (typed_scalar types heading s) _ (scalar-follows s)
    primary-follows (syntax.PairFunction at w l r) =
        pair-follow f at (pairing_rule w) (typed_scalar types heading l) (typed_scalar types heading r) _ _ (scalar-follows l) (scalar-follows r)
