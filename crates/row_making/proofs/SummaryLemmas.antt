-- The values of aggregates, and the rows of groups.
use Rattle.std.proofs.Common.{◌≡◌, ◌↔◌, ℕ, zero, suc, ◌<◌, Bool, false, List, [], ◌∷◌, length, map, get_or, refl, sym, ap, ◌∙◌, subst, arith, Option, Some, None, IsNone, IfSome}
use Rattle.std.specs.Cmp.{IsStrictWeakOrder}
use Rattle.std.specs.List.{IsFirstBest}
use Rattle.std.proofs.lemmas.List.MinMax.{IsFirstBest-unique, IsFirstBest-from_best_of}
use Rattle.std.proofs.lemmas.List.{get_or_default}
use Rattle.point_core.specs.Faults.{OrFault}
use Rattle.base_core.specs.Outcomes.{least_of_all}
use Rattle.value_core.specs.declared.value.Value.{Value}
use Rattle.value_core.specs.Plain.{plain}
use Rattle.value_core.specs.Values.{Row, truth, Value as PlainValue}
use Rattle.scalar_core.specs.Expressions.{Expr}
use Rattle.scalar_core.specs.ScalarValues.{value}
use Rattle.relation_core.specs.Groups.{rows_at}
use Rattle.point_core.specs.Orders.{fault_order}
use Rattle.tree_core.specs.Trees.{read_aggregate, read_aggregate_form}
use Rattle.tree_core.specs.declared.tree.Aggregate.{Aggregate}
use Rattle.meaning_core.specs.Rows.{extreme, picked, values_over}
use Rattle.meaning_core.specs.Scalars.{AreSummedOver, IsSummedOver}

-- ---- extremes

pub picked_best : (beats : PlainValue → PlainValue → Bool) → IsStrictWeakOrder beats → (values : List Value) (best : Option ℕ)
    → IfSome best (IsFirstBest beats (map plain values) (length (map plain values))) → (IsNone best ↔ (values ≡ [])) → picked best (map plain values) ≡ extreme beats (map plain values)
picked_best beats o [] None first none = refl
picked_best beats o [] (Some i) first none = absurd (omega (arith, first.0))
picked_best beats o (w ∷ ws) None first none = let e : w ∷ ws ≡ [] = none.0 refl in absurd (cc)
picked_best beats o (w ∷ ws) (Some i) first none =
    let best = IsFirstBest-from_best_of o (plain w) (map plain ws) in
    let same : i ≡ best.0 = IsFirstBest-unique o (map plain (w ∷ ws)) (length (map plain (w ∷ ws))) i best.0 (plain w) first best.1 in
    get_or_default (map plain (w ∷ ws)) i (truth false) (plain w) first.0 ∙ (ap (λ (j : ℕ). get_or (map plain (w ∷ ws)) j (plain w)) same ∙ best.2)

-- ---- the rows of a group

pub summed_at : (rows : List Row) (aggregates : List Aggregate) (i : ℕ) (a : Aggregate) → AreSummedOver rows (map read_aggregate aggregates) → i < length aggregates → a ≡ get_or aggregates i a
    → IsSummedOver rows (read_aggregate_form a.form)
summed_at rows [] i a h l is = absurd (omega arith)
summed_at rows (b ∷ aggregates) zero a h l is = subst (λ (z : Aggregate). IsSummedOver rows (read_aggregate_form z.form)) (sym is) h.0
summed_at rows (b ∷ aggregates) (suc i) a h l is = summed_at rows aggregates i a h.1 (omega arith) is

pub over_numbers : (e : Expr) (rows : List Row) (numbers : List ℕ) → map (λ (i : ℕ). value e (get_or rows i [])) numbers ≡ map (value e) (rows_at rows numbers)
over_numbers e rows [] = refl
over_numbers e rows (n ∷ numbers) = ap (λ (vs : List (OrFault PlainValue)). value e (get_or rows n []) ∷ vs) (over_numbers e rows numbers)

pub values_by_numbers : (e : Expr) (rows : List Row) (numbers : List ℕ) → least_of_all fault_order (map (λ (i : ℕ). value e (get_or rows i [])) numbers) ≡ values_over e (rows_at rows numbers)
values_by_numbers e rows numbers = ap (least_of_all fault_order) (over_numbers e rows numbers)

pub row_at : (rows : List Row) (i : ℕ) (x : Row) → i < length rows → x ≡ get_or rows i x → x ≡ get_or rows i []
row_at rows i x l is = is ∙ get_or_default rows i x [] l
