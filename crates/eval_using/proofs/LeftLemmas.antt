-- What is left of all rows of a relation is what the condition leaves of its unpacked rows.
use Rattle.std.proofs.Common.{◌≡◌, ◌↔◌, ◌⊎◌, ℕ, ◌+◌, ◌<◌, ℤ, List, [], ◌∷◌, map, length, get_or, Ok, Err, Option, Some, sym, ap, ◌∙◌, subst}
use Rattle.std.proofs.lemmas.List.{get_or-map, get_or_default}
use Rattle.point_core.specs.Faults.{OrFault}
use Rattle.point_core.specs.declared.fault.Fault.{Fault}
use Rattle.cell_packing.specs.Boxed.{Boxed, InBoxes, packed_boxes}
use Rattle.cell_packing.specs.Packed.{Has}
use Rattle.value_core.specs.RowPacking.{packed}
use Rattle.value_core.specs.Values.{Row, Relation, IsRelation, row_cmp, rows_of}
use Rattle.scalar_core.specs.Expressions.{Expr}
use Rattle.point_core.specs.LeastFault.{IsLeast}
use Rattle.relation_core.proofs.FilterLemmas.{rows_ascend}
use Rattle.u_set.specs.Boxes.{AreIntervals, boxed, unboxed, spans_at}
use Rattle.u_set.proofs.CoalescingLemmas.{given}
use Rattle.u_set.proofs.RelationLemmas.{relation_shaped}
use Rattle.u_row.specs.Rules.{InRule}
use Rattle.u_row.proofs.AllRowsLemmas.{InRuleBelow, HasFaultBelow, places_step, fault_step}
use Rattle.eval_using.specs.Swept.{met, swept, swept_rows}
use Rattle.eval_using.proofs.RestrictionLemmas.{holding}
use Rattle.eval_using.proofs.WhereLemmas.{held_given}

-- ---- one row more

module _ (at to : ℕ) (f : Row → OrFault (Option Row)) (rows : List Row) (i : ℕ) (row : Row) (l : i < length rows) (is : row ≡ get_or rows i row) where
  abbrev commalist : List ℕ
  commalist = at ∷ []

  abbrev means : ℕ → List ℤ → OrFault (Option Row)
  means = swept_rows commalist (to ∷ []) f rows

  own_row : get_or rows i [] ≡ row
  own_row = get_or_default rows i [] row l ∙ sym is

  own_box : get_or (map (spans_at commalist) rows) i [] ≡ spans_at commalist row
  own_box = get_or-map (spans_at commalist) rows i [] [] l ∙ ap (spans_at commalist) own_row

  pub row_places : (old new : List (Boxed Row)) → ((m : Row) (place : List ℤ) → InBoxes old m place ↔ InRuleBelow means (map (spans_at commalist) rows) i m place)
      → ((m : Row) (place : List ℤ) → InBoxes new m place ↔ InBoxes old m place ⊎ (Has (spans_at commalist row) place × (swept commalist (to ∷ []) f row place ≡ Ok (Some m))))
      → (m : Row) (place : List ℤ) → InBoxes new m place ↔ InRuleBelow means (map (spans_at commalist) rows) (i + 1) m place
  row_places old new ho hn =
      places_step means (map (spans_at commalist) rows) i (spans_at commalist row) own_box old new ho
      (subst (λ (x : Row). (m : Row) (place : List ℤ) → InBoxes new m place ↔ InBoxes old m place ⊎ (Has (spans_at commalist row) place × (swept commalist (to ∷ []) f x place ≡ Ok (Some m)))) (sym own_row) hn)

  pub row_least : (a b : Option Fault) → IsLeast (HasFaultBelow means (map (spans_at commalist) rows) i) a
      → IsLeast (λ e. (a ≡ Some e) ⊎ ((place : List ℤ) × Has (spans_at commalist row) place × (swept commalist (to ∷ []) f row place ≡ Err e))) b
      → IsLeast (HasFaultBelow means (map (spans_at commalist) rows) (i + 1)) b
  row_least a b ha hb =
      fault_step means (map (spans_at commalist) rows) i (spans_at commalist row) own_box a b ha
      (subst (λ (x : Row). IsLeast (λ e. (a ≡ Some e) ⊎ ((place : List ℤ) × Has (spans_at commalist row) place × (swept commalist (to ∷ []) f x place ≡ Err e))) b) (sym own_row) hb)

-- ---- all rows

module _ (r : Relation) (is : IsRelation r) (commalist : List ℕ) (intervals : AreIntervals r.heading commalist) (c : Expr) where
  abbrev HasPlaces : List Row → Type 0
  HasPlaces rows = (m : Row) (place : List ℤ) → InBoxes (map (boxed commalist) rows) m place ↔ InRule (swept_rows commalist commalist (met c) r.rows) (map (spans_at commalist) r.rows) m place

  -- what is left of all rows, packed, are the rows for which the condition holds, packed
  pub left_given : (at : ℕ) → at ∷ [] ≡ commalist → (rows : List Row) → HasPlaces rows → given r.heading at rows ≡ packed commalist (holding r is commalist intervals c)
  left_given at back rows places =
      let list : List ℕ → List Row = λ ps. rows_of (map (unboxed r.heading ps) (packed_boxes row_cmp (length ps) (map (boxed ps) rows))) in
      ap list back ∙ sym (held_given r.heading commalist intervals r.rows (rows_ascend r is) (relation_shaped r is commalist intervals) c rows places)
