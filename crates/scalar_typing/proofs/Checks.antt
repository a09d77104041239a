-- Small expressions and what the rules give for them, by computation, so that a wrong rule does not check.
use Rattle.std.specs.Prelude.{◌≡◌, ℕ, List, [], ◌∷◌, pos, negsuc, Ok, Err, refl}
use Rattle.point_core.specs.declared.fault.Place.{Place}
use Rattle.point_core.specs.declared.fault.Code.TheVariants.{E06, E10, E12, E14}
use Rattle.point_core.specs.declared.any_type.AnyType.TheVariants.{Integer, Ordinal, Moment}
use Rattle.point_core.specs.Faults.{fault}
use Rattle.point_core.specs.Points.{integers, values_of, seconds}
use Rattle.interval_core.specs.declared.selector.Ends.TheVariants as ends
use Rattle.utd_syntax.specs.declared.words.ComparisonWord.TheVariants as comparison
use Rattle.utd_syntax.specs.declared.words.SumWord.TheVariants as sums
use Rattle.utd_syntax.specs.declared.words.ExtremeWord.TheVariants as extremes
use Rattle.utd_syntax.specs.declared.words.FunctionWord.TheVariants as functions
use Rattle.utd_syntax.specs.declared.words.BeginBracket.TheVariants as begins
use Rattle.utd_syntax.specs.declared.words.EndBracket.TheVariants as finishes
use Rattle.utd_syntax.specs.Plain.{word, ScalarP, OneConj, Or, OneNeg, Not, OneCmp, CmpP, OneSum, Compare, SumP, OneProd, Add, ProdP, OneSign, NegativeInteger, Negate, OnePrimary, PrimaryP, IntegerLiteral, MomentLiteral, TrueLiteral, AttributeName, Dotted, Paren, Selector, Extreme, Function, IntegerType, MomentType, NamedType}
use Rattle.value_core.specs.declared.kind.Kind.TheVariants.{Truth, Char, Point}
use Rattle.value_core.specs.declared.list.OrdinalNames.{OrdinalNames}
use Rattle.value_core.specs.Values.{Heading, point}
use Rattle.scalar_core.specs.declared.operators.OneOp.TheVariants as one_op
use Rattle.scalar_core.specs.declared.operators.PairOp.TheVariants as pair_op
use Rattle.scalar_core.specs.declared.tree.CompareWord.TheVariants as compare
use Rattle.scalar_core.specs.Expressions.{constant, attribute, one, pair}
use Rattle.scalar_typing.specs.Scalars.{typed_scalar}

abbrev at : ℕ → Place
at column = record { line = 1; column = column }

-- an expression of one operand, up to a sum, a comparison and a whole
abbrev factor : PrimaryP → ProdP
factor p = OneSign (OnePrimary p)

abbrev term : PrimaryP → SumP
term p = OneProd (factor p)

abbrev of_sum : SumP → ScalarP
of_sum s = OneConj (OneNeg (OneCmp (OneSum s)))

abbrev of_cmp : CmpP → ScalarP
of_cmp c = OneConj (OneNeg (OneCmp c))

abbrev whole : PrimaryP → ScalarP
whole p = of_sum (term p)

-- `1`, `2` and a name
abbrev one_at : ℕ → PrimaryP
one_at column = IntegerLiteral (at column) (49 ∷ [])

abbrev named : ℕ → List ℕ → PrimaryP
named column name = AttributeName (word (at column) name)

-- TYPE SIZE ORDINAL {S, M, L}, and a heading {A CHAR, N INTEGER}
abbrev size : List ℕ
size = 83 ∷ 73 ∷ 90 ∷ 69 ∷ []

abbrev types : List OrdinalNames
types = record { name = size; values = (83 ∷ []) ∷ (77 ∷ []) ∷ (76 ∷ []) ∷ [] } ∷ []

abbrev heading : Heading
heading = (65 ∷ [], Char) ∷ (78 ∷ [], Point Integer) ∷ []

-- COUNT([FIRST(INTEGER):LAST(INTEGER)])
counted : typed_scalar types [] (whole (Function (at 1) functions.Count (whole (Selector (at 7) begins.Closed (whole (Extreme (at 8) extremes.First (IntegerType (at 14))))
    (whole (Extreme (at 23) extremes.Last (IntegerType (at 28)))) finishes.Closed))))
    ≡ Ok (
      one (one_op.CountOf Integer) (at 1) (pair (pair_op.Select ends.Closed Integer) (at 7) (constant (at 8) (Point Integer) (point integers (negsuc 9223372036854775807)))
          (constant (at 23) (Point Integer) (point integers (pos 9223372036854775807)))),
      Point Integer,
    )
counted = refl

-- `1 + TRUE` is refused at the operator, `X + TRUE` at the name before
sum_of_truth : typed_scalar types heading (of_sum (Add (term (one_at 1)) (at 3) sums.Plus (factor (TrueLiteral (at 5))))) ≡ Err (fault (at 3) E12)
sum_of_truth = refl

name_first : typed_scalar types heading (of_sum (Add (term (named 1 (88 ∷ []))) (at 3) sums.Plus (factor (TrueLiteral (at 5))))) ≡ Err (fault (at 1) E14)
name_first = refl

-- `TRUE + X`: the right part is typed before the operator
right_before_operator : typed_scalar types heading (of_sum (Add (term (TrueLiteral (at 1))) (at 6) sums.Plus (factor (named 8 (88 ∷ []))))) ≡ Err (fault (at 8) E14)
right_before_operator = refl

-- `(1) = - 5`: no node for the parentheses, and one literal
literal_minus : typed_scalar types [] (of_cmp (Compare (term (Paren (at 1) (whole (one_at 2)))) (at 5) comparison.Equal (OneProd (OneSign (NegativeInteger (at 7) (at 9) (53 ∷ []))))))
    ≡ Ok (pair (pair_op.Compare compare.Equal) (at 5) (constant (at 2) (Point Integer) (point integers (pos 1))) (constant (at 7) (Point Integer) (point integers (negsuc 4))), Truth)
literal_minus = refl

-- `- (1)` is the operator
minus_of_one : typed_scalar types [] (of_sum (OneProd (OneSign (Negate (at 1) (OnePrimary (Paren (at 3) (whole (one_at 4))))))))
    ≡ Ok (one one_op.Negate (at 1) (constant (at 4) (Point Integer) (point integers (pos 1))), Point Integer)
minus_of_one = refl

-- the integers end at 64 bits, with their sign
too_great : typed_scalar types [] (whole (IntegerLiteral (at 1) (57 ∷ 50 ∷ 50 ∷ 51 ∷ 51 ∷ 55 ∷ 50 ∷ 48 ∷ 51 ∷ 54 ∷ 56 ∷ 53 ∷ 52 ∷ 55 ∷ 55 ∷ 53 ∷ 56 ∷ 48 ∷ 56 ∷ []))) ≡ Err (fault (at 1) E06)
too_great = refl

least : typed_scalar types [] (of_sum (OneProd (OneSign (NegativeInteger (at 1) (at 2) (57 ∷ 50 ∷ 50 ∷ 51 ∷ 51 ∷ 55 ∷ 50 ∷ 48 ∷ 51 ∷ 54 ∷ 56 ∷ 53 ∷ 52 ∷ 55 ∷ 55 ∷ 53 ∷ 56 ∷ 48 ∷ 56 ∷ [])))))
    ≡ Ok (constant (at 1) (Point Integer) (point integers (negsuc 9223372036854775807)), Point Integer)
least = refl

-- SIZE.M, SIZE.X, N.X and LAST(SIZE)
value_of_type : typed_scalar types [] (whole (Dotted (word (at 1) size) (word (at 6) (77 ∷ [])))) ≡ Ok (constant (at 1) (Point (Ordinal 0 2)) (point (values_of 0) (pos 1)), Point (Ordinal 0 2))
value_of_type = refl

no_value : typed_scalar types [] (whole (Dotted (word (at 1) size) (word (at 6) (88 ∷ [])))) ≡ Err (fault (at 6) E10)
no_value = refl

no_type : typed_scalar types [] (whole (Dotted (word (at 1) (78 ∷ [])) (word (at 3) (88 ∷ [])))) ≡ Err (fault (at 1) E10)
no_type = refl

last_of_type : typed_scalar types [] (whole (Extreme (at 1) extremes.Last (NamedType (word (at 6) size)))) ≡ Ok (constant (at 1) (Point (Ordinal 0 2)) (point (values_of 0) (pos 2)), Point (Ordinal 0 2))
last_of_type = refl

-- LAST(MOMENT), and no hour 24: refused at the text
last_moment : typed_scalar types [] (whole (Extreme (at 1) extremes.Last (MomentType (at 6)))) ≡ Ok (constant (at 1) (Point Moment) (point seconds (pos 253402300799)), Point Moment)
last_moment = refl

no_moment : typed_scalar types [] (whole (MomentLiteral (at 1) (at 8) (50 ∷ 48 ∷ 49 ∷ 50 ∷ 45 ∷ 48 ∷ 49 ∷ 45 ∷ 48 ∷ 49 ∷ 84 ∷ 50 ∷ 52 ∷ 58 ∷ 48 ∷ 48 ∷ 58 ∷ 48 ∷ 48 ∷ []))) ≡ Err (fault (at 8) E06)
no_moment = refl

-- an attribute by its position
second_attribute : typed_scalar types heading (whole (named 1 (78 ∷ []))) ≡ Ok (attribute (at 1) 1, Point Integer)
second_attribute = refl

-- `1 OR TRUE` and `NOT 1`
or_of_one : typed_scalar types [] (Or (whole (one_at 1)) (at 3) (OneNeg (OneCmp (OneSum (term (TrueLiteral (at 6))))))) ≡ Err (fault (at 3) E12)
or_of_one = refl

not_of_one : typed_scalar types [] (OneConj (OneNeg (Not (at 1) (OneCmp (OneSum (term (one_at 5))))))) ≡ Err (fault (at 1) E12)
not_of_one = refl

-- `A < N` over two kinds, and `[1:A)` at its bracket
unlike : typed_scalar types heading (of_cmp (Compare (term (named 1 (65 ∷ []))) (at 3) comparison.Less (term (named 5 (78 ∷ []))))) ≡ Err (fault (at 3) E12)
unlike = refl

no_interval : typed_scalar types heading (whole (Selector (at 1) begins.Closed (whole (one_at 2)) (whole (named 4 (65 ∷ []))) finishes.Open)) ≡ Err (fault (at 1) E12)
no_interval = refl
