-- The typing of row expressions: the typed expression, or the first refusal. The parts of a node are typed before it, left
-- to right. Parentheses make no node, and a `-` before an integer is one literal with it.
--     typed_scalar types heading s      over a heading, with these ordinal types
use Rattle.std.specs.Prelude.{List, true, false, Ok}
use Rattle.point_core.specs.Faults.{OrFault}
use Rattle.utd_syntax.specs.Plain as syntax
use Rattle.utd_syntax.specs.Plain.{ScalarP, ConjP, NegP, CmpP, SumP, ProdP, SignP, PrimaryP}
use Rattle.value_core.specs.declared.list.OrdinalNames.{OrdinalNames}
use Rattle.value_core.specs.Values.{Heading}
use Rattle.scalar_core.specs.Expressions.{and_expr, or_expr}
use Rattle.scalar_typing.specs.Typings.{Typed, ◌>>=◌}
use Rattle.scalar_typing.specs.Literals.{integer_of, negative_of, integer_literal, text_literal, date_literal, moment_literal, truth_constant}
use Rattle.scalar_typing.specs.Names.{attribute_typed, ordinal_value, extreme_typed}
use Rattle.scalar_typing.specs.Operators.{not_rule, negate_rule, function_rule, sum_rule, product_rule, comparison_rule, pairing_rule, ends_of, selector_rule, one_typed, pair_typed, logic_typed}

abbrev mutual
  pub typed_scalar : List OrdinalNames → Heading → ScalarP → OrFault Typed
  typed_scalar types heading (syntax.OneConj c) = typed_conj types heading c
  typed_scalar types heading (syntax.Or l at r) = do
    left ← typed_scalar types heading l
    right ← typed_conj types heading r
    logic_typed at or_expr left right

  pub typed_conj : List OrdinalNames → Heading → ConjP → OrFault Typed
  typed_conj types heading (syntax.OneNeg n) = typed_neg types heading n
  typed_conj types heading (syntax.And l at r) = do
    left ← typed_conj types heading l
    right ← typed_neg types heading r
    logic_typed at and_expr left right

  pub typed_neg : List OrdinalNames → Heading → NegP → OrFault Typed
  typed_neg types heading (syntax.Not at n) = do
    part ← typed_neg types heading n
    one_typed at not_rule part
  typed_neg types heading (syntax.OneCmp c) = typed_cmp types heading c

  pub typed_cmp : List OrdinalNames → Heading → CmpP → OrFault Typed
  typed_cmp types heading (syntax.OneSum s) = typed_sum types heading s
  typed_cmp types heading (syntax.Compare l at w r) = do
    left ← typed_sum types heading l
    right ← typed_sum types heading r
    pair_typed at (comparison_rule w) left right

  pub typed_sum : List OrdinalNames → Heading → SumP → OrFault Typed
  typed_sum types heading (syntax.OneProd p) = typed_prod types heading p
  typed_sum types heading (syntax.Add l at w r) = do
    left ← typed_sum types heading l
    right ← typed_prod types heading r
    pair_typed at (sum_rule w) left right

  pub typed_prod : List OrdinalNames → Heading → ProdP → OrFault Typed
  typed_prod types heading (syntax.OneSign s) = typed_sign types heading s
  typed_prod types heading (syntax.Multiply l at w r) = do
    left ← typed_prod types heading l
    right ← typed_sign types heading r
    pair_typed at (product_rule w) left right

  pub typed_sign : List OrdinalNames → Heading → SignP → OrFault Typed
  typed_sign types heading (syntax.NegativeInteger at digits bytes) = integer_literal at digits (negative_of bytes)
  typed_sign types heading (syntax.Negate at s) = do
    part ← typed_sign types heading s
    one_typed at negate_rule part
  typed_sign types heading (syntax.OnePrimary p) = typed_primary types heading p

  pub typed_primary : List OrdinalNames → Heading → PrimaryP → OrFault Typed
  typed_primary types heading (syntax.IntegerLiteral at bytes) = integer_literal at at (integer_of bytes)
  typed_primary types heading (syntax.TextLiteral at bytes) = text_literal at bytes
  typed_primary types heading (syntax.DateLiteral at quoted bytes) = date_literal at quoted bytes
  typed_primary types heading (syntax.MomentLiteral at quoted bytes) = moment_literal at quoted bytes
  typed_primary types heading (syntax.TrueLiteral at) = Ok (truth_constant at true)
  typed_primary types heading (syntax.FalseLiteral at) = Ok (truth_constant at false)
  typed_primary types heading (syntax.AttributeName w) = attribute_typed heading w
  typed_primary types heading (syntax.Dotted n v) = ordinal_value types n v
  typed_primary types heading (syntax.Paren at s) = typed_scalar types heading s
  typed_primary types heading (syntax.Selector at b l r e) = do
    left ← typed_scalar types heading l
    right ← typed_scalar types heading r
    pair_typed at (selector_rule (ends_of b e)) left right
  typed_primary types heading (syntax.Extreme at w p) = extreme_typed types at w p
  typed_primary types heading (syntax.Function at w s) = do
    part ← typed_scalar types heading s
    one_typed at (function_rule w) part
  typed_primary types heading (syntax.PairFunction at w l r) = do
    left ← typed_scalar types heading l
    right ← typed_scalar types heading r
    pair_typed at (pairing_rule w) left right
