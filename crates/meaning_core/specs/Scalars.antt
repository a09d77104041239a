-- Which expressions a row can be given to.
use Rattle.std.specs.Prelude.{List, [], ◌∷◌, IsTrue}
use Rattle.std.specs.List.{All}
use Rattle.value_core.specs.declared.kind.Kind.TheVariants.{Truth}
use Rattle.value_core.specs.Values.{Heading, Row, fits_heading}
use Rattle.scalar_core.specs.Expressions.{Expr}
use Rattle.scalar_core.specs.Kinds.{IsTyped, IsTypedOver}
use Rattle.tree_core.specs.Trees.{PlainSets, PlainAggregateForm, count_rows, sum_of, min_of, max_of, PlainAggregate}

-- a condition for a heading that the row has
pub record IsConditionOver (row : Row) (c : Expr) : Type 0 where
  pub heading : Heading
  pub fits : IsTrue (fits_heading heading row)
  pub typed : IsTyped heading c Truth

-- items whose expressions are typed for a heading that the row has
abbrev pub AreTypedOver : Row → PlainSets → Type 0
AreTypedOver row [] = Unit {0}
AreTypedOver row (s ∷ sets) = IsTypedOver row s.1 × AreTypedOver row sets

-- each of the rows has a heading for which the expression is typed
abbrev pub AllOver : List Row → Expr → Type 0
AllOver rows e = All (λ (row : Row). IsTypedOver row e) rows

abbrev pub IsSummedOver : List Row → PlainAggregateForm → Type 0
IsSummedOver rows count_rows = Unit {0}
IsSummedOver rows (sum_of e) = AllOver rows e
IsSummedOver rows (min_of e) = AllOver rows e
IsSummedOver rows (max_of e) = AllOver rows e

-- aggregates whose expressions are typed for a heading that each row has
abbrev pub AreSummedOver : List Row → List PlainAggregate → Type 0
AreSummedOver rows [] = Unit {0}
AreSummedOver rows (a ∷ aggregates) = IsSummedOver rows a.form × AreSummedOver rows aggregates
