-- Conditions under USING: the rows for which a condition holds, at each place.
use Rattle.std.proofs.Common.{◌≡◌, ◌↔◌, ℕ, ℤ, Bool, true, false, List, map, length, Ok, Err, Option, Some, None, refl, sym, ap, ◌∙◌, subst}
use Rattle.std.specs.Prelude.{if◌then◌else◌}
use Rattle.std.specs.Bool.{IsTrue}
use Rattle.std.specs.List.{filter}
use Rattle.base_core.specs.Outcomes.{then_give}
use Rattle.base_core.proofs.MemberLemmas.{In-filter}
use Rattle.base_core.proofs.SetLemmas.{In, Ascends}
use Rattle.base_core.proofs.SetOperatorLemmas.{Ascends-filter}
use Rattle.point_core.specs.Faults.{OrFault}
use Rattle.point_core.specs.declared.fault.Fault.{Fault}
use Rattle.interval_core.specs.Members.{Span}
use Rattle.value_core.specs.RowPacking.{packed, unpacked}
use Rattle.value_core.specs.Values.{Row, Heading, row_cmp, rows_of}
use Rattle.scalar_core.specs.Expressions.{Expr}
use Rattle.relation_core.specs.Operators.{restricted, is_true}
use Rattle.cell_packing.specs.Boxed.{Boxed, InBoxes, packed_boxes}
use Rattle.point_core.specs.LeastFault.{IsLeast}
use Rattle.u_set.specs.Boxes.{AreIntervals, IsShaped, spans_at, boxed, unboxed}
use Rattle.u_set.proofs.BridgeLemmas.{AreRowsOf, unpacked_ascends}
use Rattle.u_row.specs.Rules.{InRule, HasRuleFault, IsRuleForm}
use Rattle.meaning_core.specs.Meanings.{condition}
use Rattle.cell_sweep.proofs.Turns.{least_iff}
use Rattle.eval_using.specs.Swept.{met, swept_rows}
use Rattle.eval_using.proofs.FaultLemmas.{least_over}
use Rattle.eval_using.proofs.SweptLemmas.{fault_there, swept_given, swept_rows_of}

-- ---- one row

abbrev kept : Row → Bool → OrFault (Option Row)
kept x true = Ok (Some x)
kept x false = Ok None

met_from : (c : Expr) (x : Row) (r : OrFault Bool) → condition c x ≡ r → met c x ≡ then_give r (kept x)
met_from c x (Ok true) e = ap (λ (z : OrFault Bool). then_give z (λ b. Ok (if b then Some x else None))) e
met_from c x (Ok false) e = ap (λ (z : OrFault Bool). then_give z (λ b. Ok (if b then Some x else None))) e
met_from c x (Err d) e = ap (λ (z : OrFault Bool). then_give z (λ b. Ok (if b then Some x else None))) e

gives_row : (x y : Row) (r : OrFault Bool) → then_give r (kept x) ≡ Ok (Some y) → IsTrue (is_true r) × (x ≡ y)
gives_row x y (Ok true) h = (refl, cc)
gives_row x y (Ok false) h = absurd cc
gives_row x y (Err e) h = absurd cc

row_given : (x : Row) (r : OrFault Bool) → IsTrue (is_true r) → then_give r (kept x) ≡ Ok (Some x)
row_given x (Ok true) h = refl
row_given x (Ok false) h = absurd cc
row_given x (Err e) h = absurd cc

fault_given : (x : Row) (r : OrFault Bool) (e : Fault) → (then_give r (kept x) ≡ Err e) ↔ (r ≡ Err e)
fault_given x (Ok true) e = (λ h. absurd cc, λ h. absurd cc)
fault_given x (Ok false) e = (λ h. absurd cc, λ h. absurd cc)
fault_given x (Err d) e = (λ h. ap (λ z. Err z) cc, λ h. ap (λ z. Err z) cc)

module _ (heading : Heading) (commalist : List ℕ) (intervals : AreIntervals heading commalist) (rows : List Row) (ascends : Ascends row_cmp rows) (shaped : (x : Row) → In x rows → IsShaped heading commalist x) (c : Expr) where
  abbrev pub boxes : List (List Span)
  boxes = map (spans_at commalist) rows

  abbrev pub means : ℕ → List ℤ → OrFault (Option Row)
  means = swept_rows commalist commalist (met c) rows

  abbrev given : List Row
  given = filter (λ x. is_true (condition c x)) (unpacked commalist rows)

  members : (y : Row) → In y given ↔ ((x : Row) × In x (unpacked commalist rows) × (met c x ≡ Ok (Some y)))
  members y =
      let all = In-filter (λ x. is_true (condition c x)) y (unpacked commalist rows) in (
        λ m. let w = all.0 m in (y, w.0, met_from c y (condition c y) refl ∙ row_given y (condition c y) w.1),
        λ w.
            let g = gives_row w.0 y (condition c w.0) (sym (met_from c w.0 (condition c w.0) refl) ∙ w.2) in
            all.1 (subst (λ z. In z (unpacked commalist rows)) g.1 w.1, subst (λ z. IsTrue (is_true (condition c z))) g.1 g.0),
      )

  made : (x y : Row) → In x (unpacked commalist rows) → IsShaped heading commalist x → met c x ≡ Ok (Some y) → IsShaped heading commalist y × (spans_at commalist y ≡ spans_at commalist x)
  made x y m h e =
      let g = gives_row x y (condition c x) (sym (met_from c x (condition c x) refl) ∙ e) in
      (subst (IsShaped heading commalist) g.1 h, ap (spans_at commalist) (sym g.1))

  -- the rows for which it holds, packed, are those of the labels that are given at places
  pub restricted_rows : (form : List (Boxed Row)) → IsRuleForm row_cmp (length commalist) means boxes form → AreRowsOf heading commalist (packed commalist given) form
  restricted_rows form h =
      swept_rows_of heading commalist intervals rows ascends shaped (met c) commalist heading intervals refl given
      (Ascends-filter row_cmp (λ x. is_true (condition c x)) (unpacked commalist rows) (unpacked_ascends heading commalist intervals rows ascends shaped))
      members made form h

  given_ascends : Ascends row_cmp given
  given_ascends = Ascends-filter row_cmp (λ x. is_true (condition c x)) (unpacked commalist rows) (unpacked_ascends heading commalist intervals rows ascends shaped)

  -- other rows with the labels that are given at places have the packed rows in their boxes
  pub held_given : (left : List Row) → ((l : Row) (place : List ℤ) → InBoxes (map (boxed commalist) left) l place ↔ InRule means boxes l place)
      → packed commalist given ≡ rows_of (map (unboxed heading commalist) (packed_boxes row_cmp (length commalist) (map (boxed commalist) left)))
  held_given = swept_given heading commalist intervals rows ascends shaped (met c) commalist heading intervals refl given given_ascends members made

  least_there : (o : Option Fault) → IsLeast (HasRuleFault means boxes) o → IsLeast (λ e. (x : Row) × In x (unpacked commalist rows) × (condition c x ≡ Err e)) o
  least_there o h =
      least_iff (HasRuleFault means boxes) (λ e. (x : Row) × In x (unpacked commalist rows) × (condition c x ≡ Err e)) o (λ e.
      let all = fault_there heading commalist intervals rows ascends shaped (met c) commalist e in (
        λ q. let w = all.0 q in (w.0, w.1, (fault_given w.0 (condition c w.0) e).0 (sym (met_from c w.0 (condition c w.0) refl) ∙ w.2)),
        λ w. all.1 (w.0, w.1, met_from c w.0 (condition c w.0) refl ∙ (fault_given w.0 (condition c w.0) e).1 w.2),
      )) h

  -- its least fault is that at places
  pub restricted_fault : (e : Fault) → IsLeast (HasRuleFault means boxes) (Some e) → restricted (condition c) (unpacked commalist rows) ≡ Err e
  restricted_fault e h = ap (λ r. then_give r (λ _. Ok given)) ((least_over (condition c) (unpacked commalist rows) (Some e) (least_there (Some e) h)).0 e refl)

  -- and without one the rows are given
  pub restricted_given : IsLeast (HasRuleFault means boxes) None → restricted (condition c) (unpacked commalist rows) ≡ Ok given
  restricted_given h =
      let w = (least_over (condition c) (unpacked commalist rows) None (least_there None h)).1 refl in
      ap (λ r. then_give r (λ _. Ok given)) w.1
