-- The rows that items make of a relation, packed.
use Rattle.std.proofs.Common.{◌≡◌, ◌↔◌, ℕ, ◌<◌, ℤ, List, [], ◌∷◌, map, length, get_or, Ok, Err, Option, Some, None, refl, sym, ap, ◌∙◌, subst}
use Rattle.base_core.specs.Outcomes.{then_give, least_of_all}
use Rattle.std.specs.List.{All}
use Rattle.std.proofs.lemmas.List.Elements.{Contains-get_or}
use Rattle.base_core.proofs.SetLemmas.{In, In-from_Contains}
use Rattle.point_core.specs.declared.fault.Fault.{Fault}
use Rattle.point_core.specs.declared.fault.Place.{Place}
use Rattle.value_core.specs.RowPacking.{packed, unpacked}
use Rattle.value_core.specs.Values.{Row, Heading, Relation, IsRelation, row_cmp, rows_of, most_rows}
use Rattle.relation_core.specs.Operators.{extended}
use Rattle.point_core.specs.Orders.{fault_order}
use Rattle.relation_core.proofs.FilterLemmas.{rows_ascend, rows_fit}
use Rattle.tree_core.specs.Trees.{PlainSets}
use Rattle.cell_packing.specs.Boxed.{Boxed, InBoxes, packed_boxes}
use Rattle.point_core.specs.LeastFault.{IsLeast}
use Rattle.u_set.specs.Boxes.{IsShaped, spans_at, boxed, unboxed}
use Rattle.u_set.proofs.CoalescingLemmas.{given}
use Rattle.u_set.proofs.BridgeLemmas.{AreRowsOf}
use Rattle.u_set.proofs.KeptLemmas.{one_listed}
use Rattle.u_set.proofs.RelationLemmas.{relation_shaped, too_many}
use Rattle.u_row.specs.Rules.{InRule, HasRuleFault, IsRuleForm}
use Rattle.meaning_core.specs.Meanings.{limited}
use Rattle.meaning_core.specs.Rows.{extended_at}
use Rattle.eval_using.specs.Extended.{made_of, AreItems, CanMake}
use Rattle.eval_using.specs.Swept.{swept_rows}
use Rattle.eval_using.proofs.ExtensionLemmas.{extended_given, extended_rows, extended_boxes, extended_fault}

module _ (r : Relation) (is : IsRelation r) (heading : Heading) (commalist to : List ℕ) (sets : PlainSets) (at : List ℕ) (items : AreItems r.heading heading commalist to sets at) where
  shaped : (x : Row) → In x r.rows → IsShaped r.heading commalist x
  shaped = relation_shaped r is commalist items.here

  -- the same with one listed attribute, at its positions
  pub on_one : length commalist ≡ 1 → AreItems r.heading heading (get_or commalist 0 0 ∷ []) (get_or to 0 0 ∷ []) sets at
  on_one one =
      let here = one_listed commalist (get_or commalist 0 0) one refl in
      let there = one_listed to (get_or to 0 0) (items.count ∙ one) refl in
      subst (λ (w : List ℕ × List ℕ). AreItems r.heading heading w.0 w.1 sets at) (λ t. (sym here t, sym there t)) items

  pub all_make : length commalist ≡ 1 → All (CanMake r.heading heading (get_or commalist 0 0) (get_or to 0 0) sets at) r.rows
  all_make one = λ i d l. record {
    items = on_one one;
    fits = rows_fit r is (get_or r.rows i d) (In-from_Contains r.rows (get_or r.rows i d) (Contains-get_or r.rows i d l));
  }

  abbrev pub IsLeastThere : Option Fault → Type 0
  IsLeastThere o = IsLeast (HasRuleFault (swept_rows commalist to (made_of at sets) r.rows) (map (spans_at commalist) r.rows)) o

  abbrev pub AreMade : List Row → Type 0
  AreMade vs = least_of_all fault_order (map (extended_at at sets) (unpacked commalist r.rows)) ≡ Ok vs

  pub made_rows : IsLeastThere None → (vs : List Row) × AreMade vs
  made_rows h = extended_given r.heading heading commalist to sets at items r.rows (rows_ascend r is) shaped (rows_fit r is) h

  pub fault_meant : (place : Place) (e : Fault) → IsLeastThere (Some e) → then_give (extended (extended_at at sets) (unpacked commalist r.rows)) (λ rows. limited place (packed to rows)) ≡ Err e
  fault_meant place e h = ap (λ o. then_give o (λ rows. limited place (packed to rows))) (extended_fault r.heading heading commalist to sets at items r.rows (rows_ascend r is) shaped (rows_fit r is) e h)

  module _ (vs : List Row) (made : AreMade vs) where
    pub rows_made : (form : List (Boxed Row)) → IsRuleForm row_cmp (length commalist) (swept_rows commalist to (made_of at sets) r.rows) (map (spans_at commalist) r.rows) form → AreRowsOf heading to (packed to (rows_of vs)) form
    rows_made form h = extended_rows r.heading heading commalist to sets at items r.rows (rows_ascend r is) shaped (rows_fit r is) vs made form h

    -- rows with the labels that are given at places, packed, are the rows that are made, packed
    pub made_given : (position : ℕ) → position ∷ [] ≡ to → (left : List Row)
        → ((l : Row) (place : List ℤ) → InBoxes (map (boxed to) left) l place ↔ InRule (swept_rows commalist to (made_of at sets) r.rows) (map (spans_at commalist) r.rows) l place)
        → given heading position left ≡ packed to (rows_of vs)
    made_given position back left places =
        let list : List ℕ → List Row = λ ps. rows_of (map (unboxed heading ps) (packed_boxes row_cmp (length ps) (map (boxed ps) left))) in
        ap list back ∙ sym (extended_boxes r.heading heading commalist to sets at items r.rows (rows_ascend r is) shaped (rows_fit r is) vs made left places)

    pub made_meant : (place : Place) → limited place (packed to (rows_of vs)) ≡ then_give (extended (extended_at at sets) (unpacked commalist r.rows)) (λ rows. limited place (packed to rows))
    made_meant place = ap (λ o. then_give (then_give o (λ given. Ok (rows_of given))) (λ rows. limited place (packed to rows))) (sym made)

    -- the form that is too long has as many boxes as the packed rows
    pub too_many_there : ((form : List (Boxed Row)) × IsRuleForm {L = Row} {F = Fault} row_cmp (length commalist) (swept_rows commalist to (made_of at sets) r.rows) (map (spans_at commalist) r.rows) form × (most_rows < length form))
        → most_rows < length (packed to (rows_of vs))
    too_many_there f = too_many heading to (packed to (rows_of vs)) f.0 (rows_made f.0 f.1) most_rows f.2
