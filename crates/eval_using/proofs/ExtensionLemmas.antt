-- Items under USING: the rows that they make, at each place.
use Rattle.std.proofs.Common.{◌≡◌, ◌↔◌, ℕ, suc, ◌+◌, ◌<◌, ℤ, false, List, [], ◌∷◌, ◌++◌, map, length, get_or, Ok, Err, Option, Some, None, refl, sym, ap, ap₂, ◌∙◌, subst, arith}
use Rattle.std.specs.Bool.{IsTrue}
use Rattle.std.proofs.lemmas.List.{length-map, get_or-map, get_or-append-add}
use Rattle.base_core.specs.Outcomes.{then_give, least_of_all}
use Rattle.base_core.proofs.MemberLemmas.{In-map}
use Rattle.base_core.proofs.OutcomeLemmas.{length-first_of_all, first_of_all-Ok, least_of_all-Ok}
use Rattle.base_core.proofs.SetLemmas.{In, Ascends, In-in_order, Ascends-in_order}
use Rattle.point_core.specs.Faults.{OrFault}
use Rattle.point_core.specs.declared.fault.Fault.{Fault}
use Rattle.interval_core.specs.Members.{Span}
use Rattle.value_core.specs.Attributes.{value_at, span_of}
use Rattle.value_core.specs.Order.{row_total, row_separates}
use Rattle.value_core.specs.RowPacking.{packed, unpacked}
use Rattle.value_core.specs.Values.{Name, Row, Value, Heading, truth, row_cmp, rows_of, fits_heading}
use Rattle.scalar_core.specs.Expressions.{Expr}
use Rattle.scalar_core.specs.ScalarValues.{value}
use Rattle.point_core.specs.LeastFault.{fault_total, IsLeast}
use Rattle.relation_core.specs.Agreement.{part_of}
use Rattle.relation_core.specs.Operators.{extended}
use Rattle.point_core.specs.Orders.{fault_order}
use Rattle.tree_core.specs.Trees.{PlainSets}
use Rattle.cell_packing.specs.Boxed.{Boxed, InBoxes, packed_boxes}
use Rattle.point_core.specs.LeastFault.{IsLeast}
use Rattle.u_set.specs.Boxes.{IsShaped, spans_at, boxed, unboxed}
use Rattle.u_set.proofs.BoxLemmas.{shaped_from_fit, value_at-get}
use Rattle.u_set.proofs.BridgeLemmas.{AreRowsOf}
use Rattle.u_row.specs.Rules.{InRule, HasRuleFault, IsRuleForm}
use Rattle.meaning_core.specs.Rows.{values_on, extended_at}
use Rattle.meaning_core.proofs.MadeLemmas.{split_ok}
use Rattle.eval_using.specs.Extended.{made_of, AreItems}
use Rattle.eval_using.specs.PlaceRows.{unpacked_grid_points, within_has}
use Rattle.eval_using.specs.Swept.{swept_rows}
use Rattle.eval_using.proofs.FaultLemmas.{least_over}
use Rattle.scalar_core.proofs.AtPlaceLemmas.{at_place-fits}
use Rattle.cell_sweep.proofs.Turns.{least_iff}
use Rattle.eval_using.proofs.SweptLemmas.{fault_there, swept_given, swept_rows_of}

-- ---- one row

abbrev some_row : Row → OrFault (Option Row)
some_row x = Ok (Some x)

some_made : (r : OrFault Row) (y : Row) → (then_give r some_row ≡ Ok (Some y)) ↔ (r ≡ Ok y)
some_made (Ok x) y = (λ h. ap (λ z. Ok z) cc, λ h. ap (λ z. Ok (Some z)) cc)
some_made (Err e) y = (λ h. absurd cc, λ h. absurd cc)

made_fault : (r : OrFault Row) (e : Fault) → (then_give r some_row ≡ Err e) ↔ (r ≡ Err e)
made_fault (Ok x) e = (λ h. absurd cc, λ h. absurd cc)
made_fault (Err d) e = (λ h. ap (λ z. Err z) cc, λ h. ap (λ z. Err z) cc)

same_ok : (a b : Row) (r s : OrFault Row) → r ≡ Ok a → s ≡ Ok b → r ≡ s → a ≡ b
same_ok a b r s p q h = cc

-- all of a list, where none has a fault
pub all_made : (f : Row → OrFault Row) (xs vs : List Row) → least_of_all fault_order (map f xs) ≡ Ok vs → (y : Row) → In y vs ↔ ((x : Row) × In x xs × (f x ≡ Ok y))
all_made f xs vs h y =
    let each : map f xs ≡ map (λ v. Ok v) vs = first_of_all-Ok (map f xs) vs ((least_of_all-Ok fault_order fault_total (map f xs) vs).0 h) in (
      λ m.
          let w = (In-map f (Ok y) xs).0 (subst (λ rs. In (Ok y) rs) (sym each) ((In-map (λ v. Ok v) (Ok y) vs).1 (y, m, refl))) in
          (w.0, w.1, sym w.2),
      λ w.
          let n : In (Ok y) (map (λ v. Ok v) vs) = subst (λ rs. In (Ok y) rs) each ((In-map f (Ok y) xs).1 (w.0, w.1, sym w.2)) in
          let v = (In-map (λ v. Ok v) (Ok y) vs).0 n in
          subst (λ z. In z vs) (sym (same_ok y v.0 (Ok y) (Ok v.0) refl refl v.2)) v.1,
    )

-- ---- the listed values of a made row are the row's own

same_maps : {X : Type 0} (h k : ℕ → X) (to commalist : List ℕ) → length to ≡ length commalist → ((j : ℕ) → j < length to → h (get_or to j 0) ≡ k (get_or commalist j 0)) → map h to ≡ map k commalist
same_maps h k [] [] n e = refl
same_maps h k [] (a ∷ commalist) n e = absurd (omega (arith, n))
same_maps h k (t ∷ to) [] n e = absurd (omega (arith, n))
same_maps h k (t ∷ to) (a ∷ commalist) n e = ap₂ (λ x xs. x ∷ xs) (e 0 (omega arith)) (same_maps h k to commalist (omega (arith, n)) (λ j l. e (suc j) (omega (arith, l))))

module _ (from heading : Heading) (commalist to : List ℕ) (sets : PlainSets) (at : List ℕ) (items : AreItems from heading commalist to sets at) (rows : List Row)
    (ascends : Ascends row_cmp rows) (shaped : (x : Row) → In x rows → IsShaped from commalist x) (fitting : (x : Row) → In x rows → IsTrue (fits_heading from x)) where
  abbrev pub boxes : List (List Span)
  boxes = map (spans_at commalist) rows

  abbrev pub means : ℕ → List ℤ → OrFault (Option Row)
  means = swept_rows commalist to (made_of at sets) rows

  abbrev f : Row → OrFault Row
  f = extended_at at sets

  unpacked_fits : (x : Row) → In x (unpacked commalist rows) → IsTrue (fits_heading from x)
  unpacked_fits x m =
      let w = (unpacked_grid_points commalist items.here.different rows x).0 m in
      let fit = fitting w.0 w.2 in
      subst (λ z. IsTrue (fits_heading from z)) (sym w.4) (at_place-fits from w.0 w.0 commalist w.1 fit fit (within_has commalist w.0 w.1 w.3))

  own_value : (x y : Row) → f x ≡ Ok y → (j : ℕ) → j < length to → value_at y (get_or to j 0) ≡ value_at x (get_or commalist j 0)
  own_value x y e j l =
      let p = split_ok (values_on x sets) (λ (made : Row). part_of at (made ++ x)) y e in
      let made : List Value = p.0 in
      let long : length made ≡ length sets = length-first_of_all (map (λ (s : Name × Expr). value s.1 x) sets) made p.1 ∙ length-map sets (λ (s : Name × Expr). value s.1 x) in
      let w = items.there.within j 0 l in
      let n = items.long in
      let k : get_or at (get_or to j 0) 0 ≡ length made + get_or commalist j 0 = items.kept j l ∙ ap (λ m. m + get_or commalist j 0) (sym long) in
      sym (ap (λ (r : Row). value_at r (get_or to j 0)) p.2)
      ∙ value_at-get (part_of at (made ++ x)) (get_or to j 0)
      ∙ get_or-map (λ i. get_or (made ++ x) i (truth false)) at (get_or to j 0) 0 (truth false) (omega (arith, w, n))
      ∙ ap (λ m. get_or (made ++ x) m (truth false)) k ∙ get_or-append-add made x (get_or commalist j 0) (truth false) ∙ sym (value_at-get x (get_or commalist j 0))

  made : (x y : Row) → In x (unpacked commalist rows) → IsShaped from commalist x → made_of at sets x ≡ Ok (Some y) → IsShaped heading to y × (spans_at to y ≡ spans_at commalist x)
  made x y m h e =
      let g = (some_made (f x) y).0 e in (
        shaped_from_fit heading to items.there y (items.fitting x y (unpacked_fits x m) g),
        same_maps (λ i. span_of (value_at y i)) (λ i. span_of (value_at x i)) to commalist items.count (λ j l. ap span_of (own_value x y g j l)),
      )

  abbrev pub IsLeastThere : Option Fault → Type 0
  IsLeastThere o = IsLeast (HasRuleFault means boxes) o

  least_there : (o : Option Fault) → IsLeastThere o → IsLeast (λ e. (x : Row) × In x (unpacked commalist rows) × (f x ≡ Err e)) o
  least_there o h =
      least_iff (HasRuleFault means boxes) (λ e. (x : Row) × In x (unpacked commalist rows) × (f x ≡ Err e)) o (λ e.
      let all = fault_there from commalist items.here rows ascends shaped (made_of at sets) to e in (
        λ q. let w = all.0 q in (w.0, w.1, (made_fault (f w.0) e).0 w.2),
        λ w. all.1 (w.0, w.1, (made_fault (f w.0) e).1 w.2),
      )) h

  -- without a fault rows are made of all
  pub extended_given : IsLeastThere None → (vs : List Row) × (least_of_all fault_order (map f (unpacked commalist rows)) ≡ Ok vs)
  extended_given h = (least_over f (unpacked commalist rows) None (least_there None h)).1 refl

  module _ (vs : List Row) (e : least_of_all fault_order (map f (unpacked commalist rows)) ≡ Ok vs) where
    members : (y : Row) → In y (rows_of vs) ↔ ((x : Row) × In x (unpacked commalist rows) × (made_of at sets x ≡ Ok (Some y)))
    members y =
        let set = In-in_order row_cmp row_total row_separates y vs in
        let each = all_made f (unpacked commalist rows) vs e y in (
          λ m. let w = each.0 (set.0 m) in (w.0, w.1, (some_made (f w.0) y).1 w.2),
          λ w. set.1 (each.1 (w.0, w.1, (some_made (f w.0) y).0 w.2)),
        )

    -- they, packed, are those of the labels that are given at places
    pub extended_rows : (form : List (Boxed Row)) → IsRuleForm row_cmp (length commalist) means boxes form → AreRowsOf heading to (packed to (rows_of vs)) form
    extended_rows =
        swept_rows_of from commalist items.here rows ascends shaped (made_of at sets) to heading items.there items.count (rows_of vs) (Ascends-in_order row_cmp row_total row_separates vs) members made

    -- so are other rows with these labels
    pub extended_boxes : (left : List Row) → ((l : Row) (place : List ℤ) → InBoxes (map (boxed to) left) l place ↔ InRule means boxes l place)
        → packed to (rows_of vs) ≡ rows_of (map (unboxed heading to) (packed_boxes row_cmp (length to) (map (boxed to) left)))
    extended_boxes =
        swept_given from commalist items.here rows ascends shaped (made_of at sets) to heading items.there items.count (rows_of vs) (Ascends-in_order row_cmp row_total row_separates vs) members made

  -- the least fault is that at places
  pub extended_fault : (e : Fault) → IsLeastThere (Some e) → extended f (unpacked commalist rows) ≡ Err e
  extended_fault e h = ap (λ r. then_give r (λ given. Ok (rows_of given))) ((least_over f (unpacked commalist rows) (Some e) (least_there (Some e) h)).0 e refl)
