-- What a function of rows gives of the unpacked rows is what it gives at each place of each row.
use Rattle.std.proofs.Common.{◌≡◌, ◌↔◌, inl, inr, ℕ, suc, ◌<◌, ℤ, List, [], ◌∷◌, map, length, get_or, Ok, Err, Option, Some, None, refl, sym, ap, ◌∙◌, subst, arith}
use Rattle.std.specs.Bool.{IsTrue}
use Rattle.base_core.specs.Outcomes.{then_give}
use Rattle.std.proofs.lemmas.List.{length-map, get_or-map}
use Rattle.std.proofs.lemmas.List.Elements.{Contains-get_or}
use Rattle.base_core.proofs.SetLemmas.{In, Ascends, In-from_Contains, Ascends-from_sorted}
use Rattle.base_core.proofs.MemberLemmas.{In-map}
use Rattle.point_core.specs.Faults.{OrFault}
use Rattle.point_core.specs.Points.{line_of}
use Rattle.point_core.specs.declared.fault.Fault.{Fault}
use Rattle.interval_core.specs.Members.{Span, at_point}
use Rattle.value_core.specs.Attributes.{among}
use Rattle.value_core.specs.RowPacking.{packed, unpacked}
use Rattle.value_core.specs.Values.{Row, Heading, row_cmp, rows_of}
use Rattle.scalar_core.specs.AtPlaces.{at_place}
use Rattle.cell_packing.specs.Boxed.{Boxed, InBoxes, packed_boxes}
use Rattle.cell_packing.specs.Packed.{Has}
use Rattle.cell_packing.proofs.PackedBoxes.{among_in}
use Rattle.relation_core.specs.Parts.{kind_at}
use Rattle.u_set.specs.Boxes.{AreIntervals, type_of, IsShaped, others, spans_at, boxed, unboxed}
use Rattle.u_set.proofs.BridgeLemmas.{AreRowsOf, IsFormOf, boxes_have, closed_by_boxes, closed_by_form, box_cmp}
use Rattle.u_set.proofs.PlaceLemmas.{opened_shaped}
use Rattle.u_row.specs.Rules.{InRule, HasRuleFault, IsRuleForm}
use Rattle.eval_using.specs.Swept.{labelled_if, swept_rows}
use Rattle.eval_using.specs.PlaceRows.{unpacked_grid_points, HasSpans, among_itself, at_place_spans, point_has}

-- ---- rows by their numbers

pub numbered : {X : Type 0} (xs : List X) (x d : X) → In x xs → (r : ℕ) × (r < length xs) × (get_or xs r d ≡ x)
numbered [] x d m = absurd m
numbered (y ∷ xs) x d m = elim m [
  | inl e ↦ (0, omega arith, sym e)
  | inr n ↦ let w = numbered xs x d n in let l = w.1 in (suc w.0, omega (arith, l), w.2)
]

-- ---- what is given at a place

given_label : (to : List ℕ) (given : OrFault (Option Row)) (l : Row) → then_give given (labelled_if to) ≡ Ok (Some l) → (y : Row) × (given ≡ Ok (Some y)) × (others to y ≡ l)
given_label to (Ok (Some y)) l h = (y, refl, cc)
given_label to (Ok None) l h = absurd cc
given_label to (Err e) l h = absurd cc

given_fault : (to : List ℕ) (given : OrFault (Option Row)) (e : Fault) → then_give given (labelled_if to) ≡ Err e → given ≡ Err e
given_fault to (Ok (Some y)) e h = absurd cc
given_fault to (Ok None) e h = absurd cc
given_fault to (Err d) e h = h

pub shaped_spans : (from : Heading) (all commalist : List ℕ) (x : Row) → IsShaped from all x → ((a : ℕ) → In a commalist → IsTrue (among all a)) → HasSpans commalist x
shaped_spans from all [] x h m = tt
shaped_spans from all (a ∷ commalist) x h m = ((line_of (type_of (kind_at from a)), h.spans a (m a (inl refl))), shaped_spans from all commalist x h (λ k n. m k (inr n)))

module _ (from : Heading) (commalist : List ℕ) (intervals : AreIntervals from commalist) (rows : List Row) (ascends : Ascends row_cmp rows) (shaped : (x : Row) → In x rows → IsShaped from commalist x)
    (f : Row → OrFault (Option Row)) (to : List ℕ) where
  abbrev pub boxes : List (List Span)
  boxes = map (spans_at commalist) rows

  abbrev pub means : ℕ → List ℤ → OrFault (Option Row)
  means = swept_rows commalist to f rows

  row_at : (x : Row) → In x rows → (r : ℕ) × (r < length boxes) × (get_or rows r [] ≡ x) × (get_or boxes r [] ≡ spans_at commalist x)
  row_at x m =
      let w = numbered rows x [] m in
      let l = w.1 in
      let n = length-map rows (spans_at commalist) in
      (w.0, omega (arith, l, n), w.2, get_or-map (spans_at commalist) rows w.0 [] [] l ∙ ap (spans_at commalist) w.2)

  row_of : (r : ℕ) → r < length boxes → In (get_or rows r []) rows × (get_or boxes r [] ≡ spans_at commalist (get_or rows r []))
  row_of r l =
      let n = length-map rows (spans_at commalist) in
      let below : r < length rows = omega (arith, l, n) in
      (In-from_Contains rows (get_or rows r []) (Contains-get_or rows r [] below), get_or-map (spans_at commalist) rows r [] [] below)

  has_spans : (x : Row) → IsShaped from commalist x → HasSpans commalist x
  has_spans x h = shaped_spans from commalist commalist x h (among_itself commalist)

  -- faults at places are those of the unpacked rows
  pub fault_there : (e : Fault) → HasRuleFault means boxes e ↔ ((x : Row) × In x (unpacked commalist rows) × (f x ≡ Err e))
  fault_there e = (
    λ w.
        let o = row_of w.0 w.2 in
        let row : Row = get_or rows w.0 [] in
        let x : Row = at_place commalist w.1 row in
        (x, (unpacked_grid_points commalist intervals.different rows x).1 (row, w.1, o.0, subst (λ (is : List Span). Has is w.1) o.1 w.3, refl), given_fault to (f x) e w.4),
    λ w.
        let v = (unpacked_grid_points commalist intervals.different rows w.0).0 w.1 in
        let a = row_at v.0 v.2 in
        let same : at_place commalist v.1 (get_or rows a.0 []) ≡ w.0 = ap (at_place commalist v.1) a.2 ∙ sym v.4 in
        (a.0, v.1, a.1, subst (λ (is : List Span). Has is v.1) (sym a.3) v.3, ap (λ z. then_give (f z) (labelled_if to)) same ∙ ap (λ r. then_give r (labelled_if to)) w.2),
  )

  -- ---- the given rows

  module _ (heading : Heading) (here : AreIntervals heading to) (same_count : length to ≡ length commalist) (given : List Row) (up : Ascends row_cmp given)
      (is : (y : Row) → In y given ↔ ((x : Row) × In x (unpacked commalist rows) × (f x ≡ Ok (Some y))))
      (made : (x y : Row) → In x (unpacked commalist rows) → IsShaped from commalist x → f x ≡ Ok (Some y) → IsShaped heading to y × (spans_at to y ≡ spans_at commalist x)) where
    given_shaped : (y : Row) → In y given → IsShaped heading to y
    given_shaped y m = let w = (is y).0 m in (made w.0 y w.1 (opened_shaped from commalist intervals rows ascends shaped w.0 w.1) w.2).0

    spans_given : (row : Row) (place : List ℤ) → In row rows → Has (spans_at commalist row) place → (y : Row) → In (at_place commalist place row) (unpacked commalist rows) → f (at_place commalist place row) ≡ Ok (Some y)
        → spans_at to y ≡ map at_point place
    spans_given row place m h y n e =
        (made (at_place commalist place row) y n (opened_shaped from commalist intervals rows ascends shaped (at_place commalist place row) n) e).1
        ∙ at_place_spans commalist row place intervals.different (has_spans row (shaped row m)) h

    -- they have at each place the labels that are given there
    pub labels_there : (l : Row) (place : List ℤ) → InBoxes (map (boxed to) given) l place ↔ InRule means boxes l place
    labels_there l place = (
      λ w.
          let b = (In-map (boxed to) (l, w.0) given).0 ((among_in (l, w.0) (map (boxed to) given)).0 w.1) in
          let y : Row = b.0 in
          let label : l ≡ others to y = ap (λ (z : Boxed Row). z.0) b.2 in
          let sides : w.0 ≡ spans_at to y = ap (λ (z : Boxed Row). z.1) b.2 in
          let u = (is y).0 b.1 in
          let v = (unpacked_grid_points commalist intervals.different rows u.0).0 u.1 in
          let row : Row = v.0 in
          let fx : f (at_place commalist v.1 row) ≡ Ok (Some y) = ap f (sym v.4) ∙ u.2 in
          let spans = spans_given row v.1 v.2 v.3 y (subst (λ z. In z (unpacked commalist rows)) v.4 u.1) fx in
          let e : v.1 ≡ place = (point_has v.1 place).0 (subst (λ (is : List Span). Has is place) (sides ∙ spans) w.2) in
          let a = row_at row v.2 in
          let gives : means a.0 v.1 ≡ Ok (Some l) = ap (λ z. then_give (f (at_place commalist v.1 z)) (labelled_if to)) a.2 ∙ ap (λ r. then_give r (labelled_if to)) fx ∙ ap (λ z. Ok (Some z)) (sym label) in
          (a.0, a.1, subst (λ (is : List Span). Has is place) (sym a.3) (subst (Has (spans_at commalist row)) e v.3), subst (λ ps. means a.0 ps ≡ Ok (Some l)) e gives),
      λ w.
          let o = row_of w.0 w.1 in
          let row : Row = get_or rows w.0 [] in
          let x : Row = at_place commalist place row in
          let h : Has (spans_at commalist row) place = subst (λ (is : List Span). Has is place) o.1 w.2 in
          let n : In x (unpacked commalist rows) = (unpacked_grid_points commalist intervals.different rows x).1 (row, place, o.0, h, refl) in
          let g = given_label to (f x) l w.3 in
          let spans = spans_given row place o.0 h g.0 n g.1 in
          let m : In g.0 given = (is g.0).1 (x, n, g.1) in
          let b : boxed to g.0 ≡ (l, map at_point place) = (λ t. (g.2 t, spans t)) in
          (map at_point place, (among_in (l, map at_point place) (map (boxed to) given)).1 ((In-map (boxed to) (l, map at_point place) given).1 (g.0, m, sym b)), (point_has place place).1 refl),
    )

    -- so their packed form is that of the labels
    pub swept_rows_of : (form : List (Boxed Row)) → IsRuleForm row_cmp (length commalist) means boxes form → AreRowsOf heading to (packed to given) form
    swept_rows_of form h =
        closed_by_form heading to here given up given_shaped (InRule means boxes) form
        (subst (λ k. IsFormOf k (InRule means boxes) form) (sym same_count) (record { ascends = Ascends-from_sorted box_cmp form h.sorted; members = h.members }))
        labels_there

    -- and rows with these labels have the packed rows in their boxes
    pub swept_given : (left : List Row) → ((l : Row) (place : List ℤ) → InBoxes (map (boxed to) left) l place ↔ InRule means boxes l place)
        → packed to given ≡ rows_of (map (unboxed heading to) (packed_boxes row_cmp (length to) (map (boxed to) left)))
    swept_given left h =
        (closed_by_boxes heading to here given up given_shaped (map (boxed to) left) (boxes_have heading to here left) (λ l place. (
          λ w. (h l place).1 ((labels_there l place).0 w),
          λ w. (labels_there l place).1 ((h l place).0 w),
        ))).are
