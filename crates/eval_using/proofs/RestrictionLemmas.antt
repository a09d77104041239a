-- A condition can be asked of the rows of a relation, and what its packed form says of them.
use Rattle.std.proofs.Common.{◌≡◌, ℕ, ◌<◌, List, map, length, Err, Option, Some, None, sym, ap}
use Rattle.std.specs.List.{All, filter}
use Rattle.base_core.specs.Outcomes.{then_give}
use Rattle.base_core.proofs.SetLemmas.{In}
use Rattle.point_core.specs.Points.{number, IsPointOf}
use Rattle.point_core.specs.declared.any_type.AnyPoint.{AnyPoint}
use Rattle.point_core.specs.declared.fault.Fault.{Fault}
use Rattle.point_core.specs.declared.fault.Place.{Place}
use Rattle.value_core.specs.RowPacking.{packed, unpacked}
use Rattle.value_core.specs.Values.{Row, Relation, IsRelation, row_cmp, most_rows}
use Rattle.value_core.specs.declared.kind.Kind.TheVariants.{Truth}
use Rattle.scalar_core.specs.Expressions.{Expr}
use Rattle.scalar_core.specs.Kinds.{IsTyped}
use Rattle.scalar_core.specs.Sweeping.{IsSweepable}
use Rattle.relation_core.specs.Operators.{restricted, is_true}
use Rattle.relation_core.proofs.FilterLemmas.{rows_ascend}
use Rattle.cell_packing.specs.Boxed.{Boxed}
use Rattle.point_core.specs.LeastFault.{IsLeast}
use Rattle.cell_core.specs.Boxes.{IsBox}
use Rattle.cell_core.specs.Cells.{row_numbers}
use Rattle.u_set.specs.Boxes.{AreIntervals, IsShaped, types_at, spans_at, boxed}
use Rattle.u_set.proofs.BridgeLemmas.{AreRowsOf}
use Rattle.u_set.proofs.RelationLemmas.{relation_shaped, too_many}
use Rattle.u_row.specs.Rules.{HasRuleFault, IsRuleForm}
use Rattle.meaning_core.specs.Meanings.{condition, limited}
use Rattle.eval_using.specs.Swept.{CanSweep, met, swept_rows}
use Rattle.eval_using.proofs.RelationBoxes.{are_boxed}
use Rattle.eval_using.proofs.WhereLemmas.{restricted_rows, restricted_fault, restricted_given}

-- ---- the boxes of a relation

pub can_sweep : (r : Relation) (commalist : List ℕ) (c : Expr) → IsRelation r → AreIntervals r.heading commalist → IsTyped r.heading c Truth → IsSweepable commalist c
    → (boxes : List (Row × List (AnyPoint × AnyPoint))) → map (row_numbers number) boxes ≡ map (boxed commalist) r.rows → All (λ b. IsBox IsPointOf (types_at r.heading commalist) b.1) boxes
    → (rows : List Row) → rows ≡ r.rows → (i : ℕ) → i < length boxes → CanSweep commalist c rows boxes i
can_sweep r commalist c is intervals typed sweepable boxes same points rows e i l = record { boxed = are_boxed r commalist is intervals boxes same points rows e i l; typed = typed; sweepable = sweepable }

-- ---- what is meant

module _ (r : Relation) (is : IsRelation r) (commalist : List ℕ) (intervals : AreIntervals r.heading commalist) (c : Expr) where
  shaped : (x : Row) → In x r.rows → IsShaped r.heading commalist x
  shaped = relation_shaped r is commalist intervals

  -- the rows for which the condition holds
  abbrev pub holding : List Row
  holding = filter (λ x. is_true (condition c x)) (unpacked commalist r.rows)

  abbrev pub IsLeastThere : Option Fault → Type 0
  IsLeastThere o = IsLeast (HasRuleFault (swept_rows commalist commalist (met c) r.rows) (map (spans_at commalist) r.rows)) o

  pub holding_rows : (form : List (Boxed Row)) → IsRuleForm row_cmp (length commalist) (swept_rows commalist commalist (met c) r.rows) (map (spans_at commalist) r.rows) form → AreRowsOf r.heading commalist (packed commalist holding) form
  holding_rows form h = restricted_rows r.heading commalist intervals r.rows (rows_ascend r is) shaped c form h

  pub holding_meant : (place : Place) → IsLeastThere None
      → limited place (packed commalist holding) ≡ then_give (restricted (condition c) (unpacked commalist r.rows)) (λ rows. limited place (packed commalist rows))
  holding_meant place h = ap (λ o. then_give o (λ rows. limited place (packed commalist rows))) (sym (restricted_given r.heading commalist intervals r.rows (rows_ascend r is) shaped c h))

  pub fault_meant : (place : Place) (e : Fault) → IsLeastThere (Some e) → then_give (restricted (condition c) (unpacked commalist r.rows)) (λ rows. limited place (packed commalist rows)) ≡ Err e
  fault_meant place e h = ap (λ o. then_give o (λ rows. limited place (packed commalist rows))) (restricted_fault r.heading commalist intervals r.rows (rows_ascend r is) shaped c e h)

  -- the form that is too long has as many boxes as the packed rows
  abbrev pub IsTooLong : Type 0
  IsTooLong =
      IsLeastThere None
      × ((form : List (Boxed Row)) × IsRuleForm {L = Row} {F = Fault} row_cmp (length commalist) (swept_rows commalist commalist (met c) r.rows) (map (spans_at commalist) r.rows) form × (most_rows < length form))

  pub too_many_there : IsTooLong → most_rows < length (packed commalist holding)
  too_many_there w = let f = w.1 in too_many r.heading commalist (packed commalist holding) f.0 (holding_rows f.0 f.1) most_rows f.2
