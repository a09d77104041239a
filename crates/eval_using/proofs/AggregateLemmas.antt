-- What aggregates give of a group depends on which rows are in it alone, and not on attributes that they do not name.
use Rattle.std.proofs.Common.{◌≡◌, ℕ, ℤ, pos, false, List, [], ◌∷◌, map, Ok, Err, Some, None, refl, sym, ap, ap₂, ◌∙◌}
use Rattle.std.specs.Bool.{IsTrue}
use Rattle.std.specs.List.{list_all}
use Rattle.std.proofs.lemmas.Bool.{and_parts, not-true}
use Rattle.std.proofs.lemmas.List.{length-map}
use Rattle.base_core.specs.Outcomes.{then_give, first_of_all, least_of_all, with_lesser}
use Rattle.point_core.specs.Faults.{OrFault}
use Rattle.point_core.specs.Orders.{fault_order}
use Rattle.point_core.specs.Points.{integers}
use Rattle.point_core.specs.declared.fault.Fault.{Fault}
use Rattle.point_core.specs.declared.fault.Place.{Place}
use Rattle.value_core.specs.Order.{row_total, row_separates}
use Rattle.value_core.specs.Values.{Value, truth, point, Row, row_cmp}
use Rattle.scalar_core.specs.AtPlaces.{at_place}
use Rattle.scalar_core.specs.Expressions.{Expr}
use Rattle.scalar_core.specs.Operations.{integer, number_of}
use Rattle.scalar_core.specs.ScalarValues.{value}
use Rattle.scalar_core.specs.Sweeping.{names_any}
use Rattle.scalar_core.proofs.SweepLemmas.{at_place-other, unnamed}
use Rattle.tree_core.specs.Trees.{PlainAggregateForm, count_rows, sum_of, min_of, max_of, PlainAggregate}
use Rattle.u_summary.specs.Summaries.{total, is_before}
use Rattle.u_summary.proofs.ExtremeLemmas.{before_ranks, after_ranks}
use Rattle.meaning_core.specs.Rows.{extreme, values_over, aggregate_value, aggregates_on}
use Rattle.meaning_core.specs.Typing.{names_none}
use Rattle.eval_using.proofs.OrderLemmas.{AreApart, HaveSame, weights, total_is, counted, weights_same, extreme_same, before_ties, map_same}
use Rattle.eval_using.proofs.FaultsAlike.{faults_alike}
use Rattle.eval_using.proofs.FaultLemmas.{err_of}

-- ---- the values of an expression

abbrev ok_of : OrFault Value → Value
ok_of (Ok v) = v
ok_of (Err e) = truth false

abbrev own : Expr → Row → Value
own e x = ok_of (value e x)

more_values : (r : OrFault Value) (s : OrFault (List Value)) (vs zs : List Value) → ((us : List Value) → s ≡ Ok us → us ≡ zs) → with_lesser fault_order r s ≡ Ok vs → vs ≡ ok_of r ∷ zs
more_values (Ok v) (Ok us) vs zs k h = let e : v ∷ us ≡ vs = cc in sym e ∙ ap (λ (ws : List Value). v ∷ ws) (k us refl)
more_values (Ok v) (Err d) vs zs k h = absurd cc
more_values (Err c) (Ok us) vs zs k h = absurd cc
more_values (Err c) (Err d) vs zs k h = absurd cc

values_are : (e : Expr) (xs : List Row) (vs : List Value) → values_over e xs ≡ Ok vs → vs ≡ map (own e) xs
values_are e [] vs h = let q : [] ≡ vs = cc in sym q
values_are e (x ∷ xs) vs h = more_values (value e x) (values_over e xs) vs (map (own e) xs) (λ us q. values_are e xs us q) h

-- two results with one fault or values that are worth the same
alike_results : (k : List Value → OrFault Value) (r s : OrFault (List Value)) → err_of r ≡ err_of s → ((vs ws : List Value) → r ≡ Ok vs → s ≡ Ok ws → k vs ≡ k ws) → then_give r k ≡ then_give s k
alike_results k (Ok vs) (Ok ws) e h = h vs ws refl refl
alike_results k (Ok vs) (Err d) e h = absurd (let q : None ≡ Some d = e in cc)
alike_results k (Err c) (Ok ws) e h = absurd (let q : Some c ≡ None = e in cc)
alike_results k (Err c) (Err d) e h = let q : c ≡ d = cc in ap (λ (f : Fault). Err f) q

over_same : (e : Expr) (k : List Value → OrFault Value) (xs ys : List Row) → HaveSame xs ys → k (map (own e) xs) ≡ k (map (own e) ys) → then_give (values_over e xs) k ≡ then_give (values_over e ys) k
over_same e k xs ys h q =
    alike_results k (values_over e xs) (values_over e ys) (faults_alike (value e) xs ys h)
    (λ vs ws a b. ap k (values_are e xs vs a) ∙ q ∙ ap k (sym (values_are e ys ws b)))

aggregate_same : (place : Place) (form : PlainAggregateForm) (xs ys : List Row) → AreApart xs → AreApart ys → HaveSame xs ys → aggregate_value place form xs ≡ aggregate_value place form ys
aggregate_same place count_rows xs ys d c h =
    ap (λ (n : ℤ). Ok (point integers n)) (sym (counted xs) ∙ weights_same row_cmp row_total row_separates (λ x. pos 1) xs ys d c h ∙ counted ys)
aggregate_same place (sum_of e) xs ys d c h =
    let w : Row → ℤ = λ x. number_of (own e x) in
    let sums : (zs : List Row) → total (map number_of (map (own e) zs)) ≡ weights w zs = λ zs. ap total (twice e zs) ∙ total_is w zs in
    over_same e (λ vs. integer place (total (map number_of vs))) xs ys h
    (ap (integer place) (sums xs ∙ weights_same row_cmp row_total row_separates w xs ys d c h ∙ sym (sums ys)))
  where
    twice : (e : Expr) (zs : List Row) → map number_of (map (own e) zs) ≡ map (λ x. number_of (own e x)) zs
    twice e [] = refl
    twice e (z ∷ zs) = ap (λ (ns : List ℤ). number_of (own e z) ∷ ns) (twice e zs)
aggregate_same place (min_of e) xs ys d c h =
    over_same e (λ vs. Ok (extreme is_before vs)) xs ys h
    (ap (λ (v : Value). Ok v) (extreme_same is_before before_ranks before_ties (map (own e) xs) (map (own e) ys) (map_same (own e) xs ys h)))
aggregate_same place (max_of e) xs ys d c h =
    over_same e (λ vs. Ok (extreme (λ v w. is_before w v) vs)) xs ys h
    (ap (λ (v : Value). Ok v) (extreme_same (λ v w. is_before w v) after_ranks (λ a b p q. before_ties a b q p) (map (own e) xs) (map (own e) ys) (map_same (own e) xs ys h)))

-- the aggregates of a group are those of its rows in any order
pub aggregates_same : (aggregates : List PlainAggregate) (xs ys : List Row) → AreApart xs → AreApart ys → HaveSame xs ys → aggregates_on xs aggregates ≡ aggregates_on ys aggregates
aggregates_same aggregates xs ys d c h = ap first_of_all (each aggregates)
  where
    each : (gs : List PlainAggregate) → map (λ a. aggregate_value a.place a.form xs) gs ≡ map (λ a. aggregate_value a.place a.form ys) gs
    each [] = refl
    each (g ∷ gs) = ap₂ (λ (r : OrFault Value) (rs : List (OrFault Value)). r ∷ rs) (aggregate_same g.place g.form xs ys d c h) (each gs)

-- ---- attributes that are not named

values_placed : (commalist : List ℕ) (place : List ℤ) (e : Expr) (xs : List Row) → names_any commalist e ≡ false → map (value e) (map (at_place commalist place) xs) ≡ map (value e) xs
values_placed commalist place e [] h = refl
values_placed commalist place e (x ∷ xs) h =
    ap₂ (λ (r : OrFault Value) (rs : List (OrFault Value)). r ∷ rs) (unnamed commalist x (at_place commalist place x) e (at_place-other commalist place x) h) (values_placed commalist place e xs h)

aggregate_placed : (commalist : List ℕ) (place : List ℤ) (at : Place) (form : PlainAggregateForm) (xs : List Row) → IsTrue (names_none commalist form)
    → aggregate_value at form (map (at_place commalist place) xs) ≡ aggregate_value at form xs
aggregate_placed commalist place at count_rows xs h = ap (λ (n : ℕ). Ok (point integers (pos n))) (length-map xs (at_place commalist place))
aggregate_placed commalist place at (sum_of e) xs h =
    ap (λ rs. then_give (least_of_all fault_order rs) (λ vs. integer at (total (map number_of vs)))) (values_placed commalist place e xs (not-true (names_any commalist e) h))
aggregate_placed commalist place at (min_of e) xs h =
    ap (λ rs. then_give (least_of_all fault_order rs) (λ vs. Ok (extreme is_before vs))) (values_placed commalist place e xs (not-true (names_any commalist e) h))
aggregate_placed commalist place at (max_of e) xs h =
    ap (λ rs. then_give (least_of_all fault_order rs) (λ vs. Ok (extreme (λ v w. is_before w v) vs))) (values_placed commalist place e xs (not-true (names_any commalist e) h))

-- the aggregates of rows at a place are those of the rows
pub aggregates_placed : (commalist : List ℕ) (place : List ℤ) (aggregates : List PlainAggregate) (xs : List Row) → IsTrue (list_all (λ a. names_none commalist a.form) aggregates)
    → aggregates_on (map (at_place commalist place) xs) aggregates ≡ aggregates_on xs aggregates
aggregates_placed commalist place aggregates xs h = ap first_of_all (each aggregates h)
  where
    each : (gs : List PlainAggregate) → IsTrue (list_all (λ a. names_none commalist a.form) gs)
        → map (λ a. aggregate_value a.place a.form (map (at_place commalist place) xs)) gs ≡ map (λ a. aggregate_value a.place a.form xs) gs
    each [] k = refl
    each (g ∷ gs) k =
        let w = and_parts (names_none commalist g.form) (list_all (λ a. names_none commalist a.form) gs) k in
        ap₂ (λ (r : OrFault Value) (rs : List (OrFault Value)). r ∷ rs) (aggregate_placed commalist place g.place g.form xs w.0) (each gs w.1)
