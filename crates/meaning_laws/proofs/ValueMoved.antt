-- An expression over rows that has a value has it at other places too.
--     value-moved      the law
--     extended_row-moved, literal_rows-moved, group_row-moved      of the rows that nodes make
use Rattle.std.proofs.Common.{◌≡◌, ℕ, Bool, true, false, List, [], ◌∷◌, ◌++◌, map, refl, sym, ap, subst, ℤ, pos, neg_ℤ, ◌+ℤ◌, ◌-ℤ◌, ◌*ℤ◌, length, Option, Some, None, Result, Ok, Err}
use Rattle.std.specs.Prelude.{if◌then◌else◌, nat_le, int_div}
use Rattle.std.specs.Ordering.{int_eq}
use Rattle.base_core.specs.Outcomes.{first_of_all}
use Rattle.interval_core.specs.Members.{Span}
use Rattle.interval_core.specs.Operators.{count, union, intersect, minus}
use Rattle.interval_core.specs.Selector.{selected}
use Rattle.interval_core.specs.declared.selector.SelectFault.{SelectFault}
use Rattle.interval_core.specs.declared.selector.SelectFault.TheVariants.{NoPoint, Empty}
use Rattle.point_core.specs.declared.any_type.AnyType.{AnyType}
use Rattle.point_core.specs.declared.any_type.AnyType.TheVariants.{Integer as IntegerType}
use Rattle.point_core.specs.declared.fault.Place.{Place}
use Rattle.point_core.specs.declared.fault.Code.TheVariants.{E30, E31, E36}
use Rattle.point_core.specs.Faults.{fault}
use Rattle.point_core.specs.Orders.{fault_order}
use Rattle.point_core.specs.Points.{integers, is_number, first_of, last_of, next_of, prior_of}
use Rattle.value_core.specs.Attributes.{span_of}
use Rattle.value_core.specs.Limits.{most_text_bytes}
use Rattle.value_core.specs.Values.{Name, Value, text, point, Row, Heading}
use Rattle.relation_core.specs.Agreement.{names_of}
use Rattle.scalar_core.specs.declared.operators.OneOp.{OneOp}
use Rattle.scalar_core.specs.declared.operators.OneOp.TheVariants.{Not, Negate, BeginOf, EndOf, PreOf, PostOf, CountOf, NextOf, PriorOf}
use Rattle.scalar_core.specs.declared.operators.PairOp.{PairOp}
use Rattle.scalar_core.specs.declared.operators.PairOp.TheVariants.{Add, Subtract, Multiply, Divide, Concat, Compare, Allen, Member, Select, UnionOf, IntersectOf, MinusOf}
use Rattle.scalar_core.specs.Expressions.{Expr, constant, attribute, one, pair, and_expr, or_expr}
use Rattle.scalar_core.specs.Operations.{is_true, number_of, bytes_of, integer, point_or, interval_or, selector_or, quotient, joined_text, one_of, pair_of}
use Rattle.scalar_core.specs.ScalarValues.{value}
use Rattle.tree_core.specs.Trees.{PlainSets, PlainAggregateForm, count_rows, sum_of, min_of, max_of, PlainAggregate}
use Rattle.u_summary.specs.Summaries.{total}
use Rattle.meaning_core.specs.Meanings.{literal_rows, condition}
use Rattle.meaning_core.specs.Places.{places}
use Rattle.meaning_core.specs.Rows.{set_names, values_on, extended_at, extended_row, literal_row, values_over, aggregate_value, aggregate_names, aggregates_on, group_at, group_row}
use Rattle.meaning_laws.specs.Gives.{Gives}
use Rattle.meaning_laws.specs.Moved.{moved_expr, moved_sets, moved_aggregate_form, moved_aggregate}
use Rattle.meaning_laws.proofs.GivesLemmas.{then-gives, both-gives, if-gives, chosen-gives, least-gives}

-- ---- operators at two places

module _ (p q : Place) where
  integer-gives : (z : ℤ) → Gives (integer p z) (integer q z)
  integer-gives z = if-gives (is_number IntegerType z) (point integers z) (fault p E30) (fault q E30)

  quotient-gives : (a b : ℤ) → Gives (quotient p a b) (quotient q a b)
  quotient-gives a b = by (int_eq b (pos 0))
    where
      by : (t : Bool) → Gives (if t then Err (fault p E31) else integer p (int_div a b)) (if t then Err (fault q E31) else integer q (int_div a b))
      by true y e = absurd cc
      by false y e = integer-gives (int_div a b) y e

  joined-gives : (bytes : List ℕ) → Gives (joined_text p bytes) (joined_text q bytes)
  joined-gives bytes = if-gives (nat_le (length bytes) most_text_bytes) (text bytes) (fault p E36) (fault q E36)

  point_or-gives : (t : AnyType) (o : Option ℤ) → Gives (point_or p t o) (point_or q t o)
  point_or-gives t None y e = absurd cc
  point_or-gives t (Some z) y e = e

  interval_or-gives : (t : AnyType) (o : Option Span) → Gives (interval_or p t o) (interval_or q t o)
  interval_or-gives t None y e = absurd cc
  interval_or-gives t (Some i) y e = e

  selector_or-gives : (t : AnyType) (r : Result Span SelectFault) → Gives (selector_or p t r) (selector_or q t r)
  selector_or-gives t (Ok i) y e = e
  selector_or-gives t (Err NoPoint) y e = absurd cc
  selector_or-gives t (Err Empty) y e = absurd cc

  one-gives : (op : OneOp) (v : Value) → Gives (one_of op p v) (one_of op q v)
  one-gives Not v = λ y e. e
  one-gives Negate v = integer-gives (neg_ℤ (number_of v))
  one-gives BeginOf v = λ y e. e
  one-gives EndOf v = λ y e. e
  one-gives (PreOf t) v = point_or-gives t (prior_of t (span_of v).0)
  one-gives (PostOf t) v = point_or-gives t (next_of t (span_of v).1)
  one-gives (CountOf t) v = integer-gives (pos (count (span_of v)))
  one-gives (NextOf t) v = point_or-gives t (next_of t (number_of v))
  one-gives (PriorOf t) v = point_or-gives t (prior_of t (number_of v))

  pair-gives : (op : PairOp) (a b : Value) → Gives (pair_of op p a b) (pair_of op q a b)
  pair-gives Add a b = integer-gives (number_of a +ℤ number_of b)
  pair-gives Subtract a b = integer-gives (number_of a -ℤ number_of b)
  pair-gives Multiply a b = integer-gives (number_of a *ℤ number_of b)
  pair-gives Divide a b = quotient-gives (number_of a) (number_of b)
  pair-gives Concat a b = joined-gives (bytes_of a ++ bytes_of b)
  pair-gives (Compare w) a b = λ y e. e
  pair-gives (Allen w t) a b = λ y e. e
  pair-gives (Member t) a b = λ y e. e
  pair-gives (Select s t) a b = selector_or-gives t (selected (first_of t) (last_of t) s (number_of a) (number_of b))
  pair-gives (UnionOf t) a b = interval_or-gives t (union (span_of a) (span_of b))
  pair-gives (IntersectOf t) a b = interval_or-gives t (intersect (span_of a) (span_of b))
  pair-gives (MinusOf t) a b = interval_or-gives t (minus (span_of a) (span_of b))

module _ (f : Place → Place) where
  -- ---- expressions

  pub value-moved : (e : Expr) (row : Row) → Gives (value e row) (value (moved_expr f e) row)
  value-moved (constant place kind v) row = λ y e. e
  value-moved (attribute place i) row = λ y e. e
  value-moved (one op place e) row =
      then-gives (value e row) (value (moved_expr f e) row) (one_of op place) (one_of op (f place)) (value-moved e row) (one-gives place (f place) op)
  value-moved (pair op place l r) row =
      both-gives (value l row) (value (moved_expr f l) row) (value r row) (value (moved_expr f r) row) (pair_of op place) (pair_of op (f place)) (value-moved l row) (value-moved r row)
      (pair-gives place (f place) op)
  value-moved (and_expr place l r) row =
      then-gives (value l row) (value (moved_expr f l) row) _ _ (value-moved l row)
      (λ a. chosen-gives (is_true a) (value r row) (value (moved_expr f r) row) (Ok a) (Ok a) (value-moved r row) (λ y e. e))
  value-moved (or_expr place l r) row =
      then-gives (value l row) (value (moved_expr f l) row) _ _ (value-moved l row)
      (λ a. chosen-gives (is_true a) (Ok a) (Ok a) (value r row) (value (moved_expr f r) row) (λ y e. e) (value-moved r row))

  pub condition-moved : (c : Expr) (row : Row) → Gives (condition c row) (condition (moved_expr f c) row)
  condition-moved c row = then-gives (value c row) (value (moved_expr f c) row) _ _ (value-moved c row) (λ v y e. e)

  -- ---- rows with new values

  pub set_names-moved : (sets : PlainSets) → set_names (moved_sets f sets) ≡ set_names sets
  set_names-moved [] = refl
  set_names-moved (s ∷ sets) = ap (λ (names : List Name). s.0 ∷ names) (set_names-moved sets)

  values_on-moved : (row : Row) (sets : PlainSets) → Gives (values_on row sets) (values_on row (moved_sets f sets))
  values_on-moved row [] = λ y e. e
  values_on-moved row (s ∷ sets) =
      both-gives (value s.1 row) (value (moved_expr f s.1) row) (values_on row sets) (values_on row (moved_sets f sets)) _ _ (value-moved s.1 row) (values_on-moved row sets) (λ v vs y e. e)

  pub extended_row-moved : (from to : Heading) (sets : PlainSets) (row : Row) → Gives (extended_row from to sets row) (extended_row from to (moved_sets f sets) row)
  extended_row-moved from to sets row =
      subst (λ (names : List Name). Gives (extended_row from to sets row) (extended_at (places (names ++ names_of from) to) (moved_sets f sets) row)) (sym (set_names-moved sets))
      (then-gives (values_on row sets) (values_on row (moved_sets f sets)) _ _ (values_on-moved row sets) (λ made y e. e))

  literal-all : (heading : Heading) (tuples : List PlainSets) → Gives (first_of_all (map (literal_row heading) tuples)) (first_of_all (map (literal_row heading) (map (moved_sets f) tuples)))
  literal-all heading [] = λ y e. e
  literal-all heading (t ∷ tuples) =
      both-gives (literal_row heading t) (literal_row heading (moved_sets f t)) (first_of_all (map (literal_row heading) tuples))
      (first_of_all (map (literal_row heading) (map (moved_sets f) tuples))) _ _
      (extended_row-moved [] heading t []) (literal-all heading tuples) (λ v vs y e. e)

  pub literal_rows-moved : (heading : Heading) (tuples : List PlainSets) → Gives (literal_rows heading tuples) (literal_rows heading (map (moved_sets f) tuples))
  literal_rows-moved heading tuples =
      then-gives (first_of_all (map (literal_row heading) tuples)) (first_of_all (map (literal_row heading) (map (moved_sets f) tuples))) _ _ (literal-all heading tuples) (λ rows y e. e)

  -- ---- the row of a group

  values_over-moved : (e : Expr) (rows : List Row) → Gives (values_over e rows) (values_over (moved_expr f e) rows)
  values_over-moved e rows = least-gives fault_order (value e) (value (moved_expr f e)) (value-moved e) rows

  aggregate_value-moved : (place : Place) (form : PlainAggregateForm) (group : List Row) → Gives (aggregate_value place form group) (aggregate_value (f place) (moved_aggregate_form f form) group)
  aggregate_value-moved place count_rows group = λ y e. e
  aggregate_value-moved place (sum_of e) group =
      then-gives (values_over e group) (values_over (moved_expr f e) group) _ _ (values_over-moved e group) (λ vs. integer-gives place (f place) (total (map number_of vs)))
  aggregate_value-moved place (min_of e) group = then-gives (values_over e group) (values_over (moved_expr f e) group) _ _ (values_over-moved e group) (λ vs y d. d)
  aggregate_value-moved place (max_of e) group = then-gives (values_over e group) (values_over (moved_expr f e) group) _ _ (values_over-moved e group) (λ vs y d. d)

  aggregates_on-moved : (group : List Row) (aggregates : List PlainAggregate) → Gives (aggregates_on group aggregates) (aggregates_on group (map (moved_aggregate f) aggregates))
  aggregates_on-moved group [] = λ y e. e
  aggregates_on-moved group (a ∷ aggregates) =
      both-gives (aggregate_value a.place a.form group) (aggregate_value (f a.place) (moved_aggregate_form f a.form) group) (aggregates_on group aggregates)
      (aggregates_on group (map (moved_aggregate f) aggregates)) _ _ (aggregate_value-moved a.place a.form group) (aggregates_on-moved group aggregates) (λ v vs y e. e)

  pub aggregate_names-moved : (aggregates : List PlainAggregate) → aggregate_names (map (moved_aggregate f) aggregates) ≡ aggregate_names aggregates
  aggregate_names-moved [] = refl
  aggregate_names-moved (a ∷ aggregates) = ap (λ (names : List Name). a.name ∷ names) (aggregate_names-moved aggregates)

  pub group_row-moved : (from to : Heading) (aggregates : List PlainAggregate) (group : List Row)
      → Gives (group_row from to aggregates group) (group_row from to (map (moved_aggregate f) aggregates) group)
  group_row-moved from to aggregates group =
      subst (λ (names : List Name). Gives (group_row from to aggregates group) (group_at (places (names ++ names_of from) to) (map (moved_aggregate f) aggregates) group))
      (sym (aggregate_names-moved aggregates))
      (then-gives (aggregates_on group aggregates) (aggregates_on group (map (moved_aggregate f) aggregates)) _ _ (aggregates_on-moved group aggregates) (λ made y e. e))
