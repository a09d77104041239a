-- The rows of row expressions and of parts of statements keep a range.
use Rattle.std.proofs.Common.{[], ◌∷◌}
use Rattle.utd_syntax.specs.declared.terminal.Terminal.TheVariants as t
use Rattle.utd_syntax.specs.declared.words.SumWord.TheVariants as sum_words
use Rattle.utd_syntax.specs.declared.words.ProductWord.TheVariants as product_words
use Rattle.utd_syntax.specs.Plain.{word, OneConj, Or, OneNeg, And, Not, OneCmp, OneProd, Add, OneSign, Multiply, NegativeInteger, Negate, OnePrimary, BooleanKind, CharKind, PointKind, IntervalKind}
use Rattle.utd_syntax.specs.Table.{TheName, Comma, DateText, MomentText, NegativeDigits, ThePrimary, AfterName, AfterScalar, EndOfSelector, InParens, InPair, InPoint, TheSign, TheProd, MoreProd, TheSum, MoreSum, TheCmp, MoreCmp, TheNeg, TheConj, MoreAnd, TheScalar, MoreOr, ThePoint, TheKind, TheAttribute, MoreAttributes, InHeading, TheHeading, MoreNames, InNames, InList, Plain, Opens, on, before, name_rows, comma_rows, date_text_rows, moment_text_rows, negative_digits_rows, primary_rows, after_name_rows, after_scalar_rows, end_of_selector_rows, in_parens_rows, in_pair_rows, in_point_rows, sign_rows, prod_rows, more_prod_rows, sum_rows, more_sum_rows, cmp_rows, more_cmp_rows, neg_rows, conj_rows, more_and_rows, scalar_rows, more_or_rows, point_rows, kind_rows, attribute_rows, more_attributes_rows, in_heading_rows, heading_rows, more_names_rows, in_names_rows, in_list_rows}
use Rattle.utd_syntax.proofs.FormValues.{over_makes, make_name, make_comma, make_date_text, make_moment_text, make_negative_digits, make_primary, make_after_name, make_after_scalar, make_end_of_selector, make_in_parens, make_in_pair, make_in_point, make_sign, make_prod, make_more_prod, make_sum, make_more_sum, make_cmp, make_more_cmp, make_neg, make_conj, make_more_and, make_scalar, make_more_or, make_point, make_kind, make_attribute, make_more_attributes, make_in_heading, make_heading, make_more_names, make_in_names, make_in_list}
use Rattle.utd_ranges.specs.Ranges.{Range}
use Rattle.utd_ranges.proofs.RangeForms.{RowsIn, over-in, then-in, append-in}

pub name-in : (out : Range) → RowsIn out TheName name_rows make_name
name-in out = ((λ p b o v h. o), tt)

pub comma-in : (out : Range) → RowsIn out Comma comma_rows make_comma
comma-in out = ((λ p b o v h. tt), tt)

pub date_text-in : (out : Range) → RowsIn out DateText date_text_rows make_date_text
date_text-in out = ((λ p b o v h. o), tt)

pub moment_text-in : (out : Range) → RowsIn out MomentText moment_text_rows make_moment_text
moment_text-in out = ((λ p b o v h. o), tt)

pub negative_digits-in : (out : Range) → RowsIn out NegativeDigits negative_digits_rows make_negative_digits
negative_digits-in out = ((λ p b o v h. o), tt)

pub primary-in : (out : Range) → RowsIn out ThePrimary primary_rows make_primary
primary-in out = ((λ p b o v h. o), ((λ p b o v h. o), ((λ p b o v h. h.0), ((λ p b o v h. h.0), ((λ p b o v h. tt), ((λ p b o v h. tt), ((λ p b o v h. (h.0 (word p b) o)), ((λ p b o v h. (h.1.0 p v.0 h.0)), ((λ p b o v h. (h.0, h.1.1.0)), ((λ p b o v h. h.0), ((λ p b o v h. h.0), ((λ p b o v h. h.0), ((λ p b o v h. h.0), ((λ p b o v h. h.0), ((λ p b o v h. h.0), ((λ p b o v h. h.0), ((λ p b o v h. h.0), ((λ p b o v h. h.0), ((λ p b o v h. (h.0.0, h.0.1)), ((λ p b o v h. (h.0.0, h.0.1)), ((λ p b o v h. (h.0.0, h.0.1)), tt)))))))))))))))))))))

pub after_name-in : (out : Range) → RowsIn out AfterName after_name_rows make_after_name
after_name-in out = ((λ p b o v h w hw. (hw, h.0)), tt)

pub after_scalar-in : (out : Range) → RowsIn out AfterScalar after_scalar_rows make_after_scalar
after_scalar-in out = ((λ p b o v h q s hs. hs), ((λ p b o v h q s hs. (hs, h.0)), tt))

pub end_of_selector-in : (out : Range) → RowsIn out EndOfSelector end_of_selector_rows make_end_of_selector
end_of_selector-in out = ((λ p b o v h. tt), ((λ p b o v h. tt), tt))

pub in_parens-in : (out : Range) → RowsIn out InParens in_parens_rows make_in_parens
in_parens-in out = ((λ p b o v h. h.0), tt)

pub in_pair-in : (out : Range) → RowsIn out InPair in_pair_rows make_in_pair
in_pair-in out = ((λ p b o v h. (h.0, h.1.1.0)), tt)

pub in_point-in : (out : Range) → RowsIn out InPoint in_point_rows make_in_point
in_point-in out = ((λ p b o v h. h.0), tt)

pub sign-in : (out : Range) → RowsIn out TheSign sign_rows make_sign
sign-in out = append-in out TheSign (before t.Dash t.Digits Plain (NegativeDigits ∷ []) (Opens (TheSign ∷ [])) [] ∷ []) primary_rows (((λ p b v. NegativeInteger p v.0.place v.0.bytes), (λ p b v. Negate p v.0)), tt) (over_makes ThePrimary TheSign (λ u. OnePrimary u) primary_rows make_primary) (((λ p b o v h. h.0), (λ p b o v h. h.0)), tt) (over-in out ThePrimary TheSign (λ u. OnePrimary u) (λ u hu. hu) primary_rows make_primary (primary-in out))

pub prod-in : (out : Range) → RowsIn out TheProd prod_rows make_prod
prod-in out = then-in out TheSign TheProd MoreProd (λ u w. w (OneSign u)) (λ u w hu hw. (hw (OneSign u) hu)) sign_rows make_sign (sign-in out)

pub more_prod-in : (out : Range) → RowsIn out MoreProd more_prod_rows make_more_prod
more_prod-in out = ((λ p b o v h x hx. (h.1.0 (Multiply x p product_words.Times v.0) (hx, h.0))), ((λ p b o v h x hx. (h.1.0 (Multiply x p product_words.Divide v.0) (hx, h.0))), tt))

pub sum-in : (out : Range) → RowsIn out TheSum sum_rows make_sum
sum-in out = then-in out TheProd TheSum MoreSum (λ u w. w (OneProd u)) (λ u w hu hw. (hw (OneProd u) hu)) prod_rows make_prod (prod-in out)

pub more_sum-in : (out : Range) → RowsIn out MoreSum more_sum_rows make_more_sum
more_sum-in out = ((λ p b o v h x hx. (h.1.0 (Add x p sum_words.Plus v.0) (hx, h.0))), ((λ p b o v h x hx. (h.1.0 (Add x p sum_words.Minus v.0) (hx, h.0))), ((λ p b o v h x hx. (h.1.0 (Add x p sum_words.Concat v.0) (hx, h.0))), tt)))

pub cmp-in : (out : Range) → RowsIn out TheCmp cmp_rows make_cmp
cmp-in out = then-in out TheSum TheCmp MoreCmp (λ u w. w u) (λ u w hu hw. (hw u hu)) sum_rows make_sum (sum-in out)

pub more_cmp-in : (out : Range) → RowsIn out MoreCmp more_cmp_rows make_more_cmp
more_cmp-in out = ((λ p b o v h x hx. (hx, h.0)), ((λ p b o v h x hx. (hx, h.0)), ((λ p b o v h x hx. (hx, h.0)), ((λ p b o v h x hx. (hx, h.0)), ((λ p b o v h x hx. (hx, h.0)), ((λ p b o v h x hx. (hx, h.0)), ((λ p b o v h x hx. (hx, h.0)), ((λ p b o v h x hx. (hx, h.0)), ((λ p b o v h x hx. (hx, h.0)), ((λ p b o v h x hx. (hx, h.0)), ((λ p b o v h x hx. (hx, h.0)), ((λ p b o v h x hx. (hx, h.0)), ((λ p b o v h x hx. (hx, h.0)), ((λ p b o v h x hx. (hx, h.0)), ((λ p b o v h x hx. (hx, h.0)), ((λ p b o v h x hx. (hx, h.0)), tt))))))))))))))))

pub neg-in : (out : Range) → RowsIn out TheNeg neg_rows make_neg
neg-in out = append-in out TheNeg (on t.Not (Opens (TheNeg ∷ [])) [] ∷ []) cmp_rows ((λ p b v. Not p v.0), tt) (over_makes TheCmp TheNeg (λ u. OneCmp u) cmp_rows make_cmp) ((λ p b o v h. h.0), tt) (over-in out TheCmp TheNeg (λ u. OneCmp u) (λ u hu. hu) cmp_rows make_cmp (cmp-in out))

pub conj-in : (out : Range) → RowsIn out TheConj conj_rows make_conj
conj-in out = then-in out TheNeg TheConj MoreAnd (λ u w. w (OneNeg u)) (λ u w hu hw. (hw (OneNeg u) hu)) neg_rows make_neg (neg-in out)

pub more_and-in : (out : Range) → RowsIn out MoreAnd more_and_rows make_more_and
more_and-in out = ((λ p b o v h x hx. (h.1.0 (And x p v.0) (hx, h.0))), tt)

pub scalar-in : (out : Range) → RowsIn out TheScalar scalar_rows make_scalar
scalar-in out = then-in out TheConj TheScalar MoreOr (λ u w. w (OneConj u)) (λ u w hu hw. (hw (OneConj u) hu)) conj_rows make_conj (conj-in out)

pub more_or-in : (out : Range) → RowsIn out MoreOr more_or_rows make_more_or
more_or-in out = ((λ p b o v h x hx. (h.1.0 (Or x p v.0) (hx, h.0))), tt)

pub point-in : (out : Range) → RowsIn out ThePoint point_rows make_point
point-in out = ((λ p b o v h. tt), ((λ p b o v h. tt), ((λ p b o v h. tt), ((λ p b o v h. o), tt))))

pub kind-in : (out : Range) → RowsIn out TheKind kind_rows make_kind
kind-in out = append-in out TheKind (on t.Boolean Plain [] ∷ on t.Char Plain [] ∷ on t.Interval Plain (InPoint ∷ []) ∷ []) point_rows ((λ p b v. BooleanKind p), ((λ p b v. CharKind p), ((λ p b v. IntervalKind p v.0), tt))) (over_makes ThePoint TheKind (λ u. PointKind u) point_rows make_point) ((λ p b o v h. tt), ((λ p b o v h. tt), ((λ p b o v h. h.0), tt))) (over-in out ThePoint TheKind (λ u. PointKind u) (λ u hu. hu) point_rows make_point (point-in out))

pub attribute-in : (out : Range) → RowsIn out TheAttribute attribute_rows make_attribute
attribute-in out = ((λ p b o v h. (o, h.0)), tt)

pub more_attributes-in : (out : Range) → RowsIn out MoreAttributes more_attributes_rows make_more_attributes
more_attributes-in out = ((λ p b o v h. (h.0, h.1.0)), tt)

pub in_heading-in : (out : Range) → RowsIn out InHeading in_heading_rows make_in_heading
in_heading-in out = ((λ p b o v h. tt), ((λ p b o v h. ((o, h.0), h.1.0)), tt))

pub heading-in : (out : Range) → RowsIn out TheHeading heading_rows make_heading
heading-in out = ((λ p b o v h. h.0), tt)

pub more_names-in : (out : Range) → RowsIn out MoreNames more_names_rows make_more_names
more_names-in out = ((λ p b o v h. (h.0, h.1.0)), tt)

pub in_names-in : (out : Range) → RowsIn out InNames in_names_rows make_in_names
in_names-in out = ((λ p b o v h. tt), ((λ p b o v h. (o, h.0)), tt))

pub in_list-in : (out : Range) → RowsIn out InList in_list_rows make_in_list
in_list-in out = ((λ p b o v h. tt), ((λ p b o v h. (o, h.0)), tt))
