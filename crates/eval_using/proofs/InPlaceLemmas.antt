-- What is left of a row at one position, and of all rows.
use Rattle.std.proofs.Common.{◌≡◌, ◌↔◌, ◌⊎◌, inl, inr, ℕ, zero, suc, ◌+◌, ◌<◌, ℤ, ◌≤ℤ◌, Bool, true, false, List, [], ◌∷◌, ◌++◌, map, take, length, get_or, Ok, Err, Option, Some, refl, sym, ap, ◌∙◌, subst, arith}
use Rattle.std.specs.Prelude.{pos, int_le, ◌&&◌}
use Rattle.std.specs.Bool.{IsTrue}
use Rattle.std.specs.List.{All}
use Rattle.std.proofs.lemmas.List.{map-append, map_more}
use Rattle.std.proofs.lemmas.Bool.{and_from}
use Rattle.base_core.specs.Outcomes.{then_give}
use Rattle.base_core.proofs.MemberLemmas.{In-append, list_all-In}
use Rattle.base_core.proofs.BoolLemmas.{and_left, and_right}
use Rattle.base_core.proofs.IntLemmas.{le-int_le}
use Rattle.point_core.specs.Faults.{OrFault}
use Rattle.point_core.specs.Points.{Line, number, line, line_of, is_number, IsPointOf}
use Rattle.point_core.specs.declared.any_type.AnyPoint.{AnyPoint}
use Rattle.point_core.specs.declared.any_type.AnyType.{AnyType}
use Rattle.point_core.specs.declared.fault.Fault.{Fault}
use Rattle.interval_core.specs.Members.{Span, HasEndsIn}
use Rattle.cell_packing.specs.Boxed.{Boxed, InBoxes}
use Rattle.cell_packing.specs.Covering.{Among}
use Rattle.cell_packing.specs.Packed.{Has}
use Rattle.value_core.specs.Attributes.{value_at, span_of, with_span, put_span, among}
use Rattle.value_core.specs.Relations.{all_fit}
use Rattle.value_core.specs.Values.{Value, Row, Heading, truth, text, point, interval, fits, fits_heading, is_interval, same_line}
use Rattle.value_core.specs.declared.kind.Kind.{Kind}
use Rattle.value_core.specs.declared.kind.Kind.TheVariants.{Truth, Char, Point, Span as SpanOf}
use Rattle.scalar_core.specs.AtPlaces.{IsWithin, IsSteady}
use Rattle.scalar_core.specs.Cuts.{IsBeside, inner_cuts}
use Rattle.scalar_core.specs.Expressions.{Expr}
use Rattle.scalar_core.specs.Operations.{is_true}
use Rattle.scalar_core.proofs.AtPlaceLemmas.{at_place-fits}
use Rattle.scalar_core.proofs.PointLemmas.{number-is_number}
use Rattle.scalar_core.proofs.SweepLemmas.{span_there}
use Rattle.point_core.specs.LeastFault.{IsLeast}
use Rattle.relation_core.specs.Parts.{kind_at}
use Rattle.cell_core.specs.Cells.{box_numbers}
use Rattle.cell_core.specs.Numbering.{numbers_of}
use Rattle.u_set.specs.Boxes.{AreIntervals, type_of, others, boxed, spans_at}
use Rattle.u_set.proofs.BoxLemmas.{shaped_from_fit, span_fits, others-set}
use Rattle.u_row.specs.Cutting.{AreCuts, pieces}
use Rattle.meaning_core.specs.Meanings.{condition}
use Rattle.meaning_core.specs.Scalars.{IsConditionOver}
use Rattle.cell_sweep.proofs.Turns.{least_iff}
use Rattle.cell_core.proofs.PackedGridPoints.{both_boxes}
use Rattle.eval_using.specs.BoxedLaws.{cuts_inside, some_point}
use Rattle.eval_using.specs.Holding.{at_number, InSpans, HoldsIn, FailsIn, CanAsk, IsPart}
use Rattle.eval_using.specs.PlaceRows.{at_place_others, among_itself}
use Rattle.eval_using.specs.SteadyLaws.{kept_label, label_from, one_cuts}
use Rattle.eval_using.specs.Swept.{met, swept}
use Rattle.eval_using.proofs.RunLemmas.{first_within, holds_at_all, fails_at_all}

-- ---- one row

module _ (at : ℕ) (row : Row) (l : Line) (is : value_at row at ≡ interval l (span_of (value_at row at))) where
  abbrev commalist : List ℕ
  commalist = at ∷ []

  -- the box of the row with another interval
  pub box_put : (s : Span) → boxed commalist (put_span row at s) ≡ (others commalist row, s ∷ [])
  box_put s =
      let z : at ≡ 0 + at = omega arith in
      let label : others commalist (put_span row at s) ≡ others commalist row = others-set 0 commalist row at (with_span (value_at row at) s) (subst (λ k. IsTrue (among commalist k)) z (among_itself commalist at (inl refl))) in
      let side : span_of (value_at (put_span row at s) at) ≡ s = ap span_of (span_there row at s) ∙ ap (λ v. span_of (with_span v s)) is in
      λ t. (label t, side t ∷ [])

  -- one number of one of the spans
  abbrev AtOne : List Span → List ℤ → Type 0
  AtOne spans place = (p : ℤ) × (place ≡ p ∷ []) × InSpans spans p

  abbrev put_boxes : List Span → List (Boxed Row)
  put_boxes spans = map (λ s. (others commalist row, s ∷ [])) spans

  boxes_put : (spans : List Span) → map (boxed commalist) (map (put_span row at) spans) ≡ put_boxes spans
  boxes_put [] = refl
  boxes_put (s ∷ spans) = λ t. box_put s t ∷ boxes_put spans t

  one_place : (s : Span) (place : List ℤ) → Has (s ∷ []) place → (p : ℤ) × (place ≡ p ∷ []) × IsWithin s p
  one_place s [] h = absurd h
  one_place s (p ∷ []) h = (p, refl, (h.0, h.1))
  one_place s (p ∷ q ∷ place) h = absurd h.2

  in_put : (spans : List Span) (m : Row) (place : List ℤ) → InBoxes (put_boxes spans) m place → AtOne spans place × (others commalist row ≡ m)
  in_put [] m place w = absurd w.1
  in_put (s ∷ spans) m place w = elim w.1 [
    | inl e ↦
        let side : s ∷ [] ≡ w.0 = ap (λ (x : Boxed Row). x.1) e in
        let v = one_place s place (subst (λ (is : List Span). Has is place) (sym side) w.2) in
        ((v.0, v.1, inl v.2), ap (λ (x : Boxed Row). x.0) e)
    | inr n ↦ let v = in_put spans m place (w.0, n, w.2) in let u = v.0 in ((u.0, u.1, inr u.2), v.1)
  ]

  put_in : (spans : List Span) (m : Row) (p : ℤ) → InSpans spans p → others commalist row ≡ m → InBoxes (put_boxes spans) m (p ∷ [])
  put_in [] m p w e = absurd w
  put_in (s ∷ spans) m p w e = elim w [
    | inl h ↦ (s ∷ [], inl (λ t. (e t, s ∷ [])), (h.0, h.1, tt))
    | inr n ↦ let v = put_in spans m p n e in (v.0, inr v.1, v.2)
  ]

  -- ---- what the condition gives at a place

  module _ (c : Expr) where
    abbrev asked : ℤ → OrFault Bool
    asked p = condition c (at_number at row p)

    abbrev given : List ℤ → OrFault (Option Row)
    given place = swept commalist commalist (met c) row place

    given_at : (p : ℤ) → given (p ∷ []) ≡ then_give (asked p) (kept_label (others commalist row))
    given_at p = label_from commalist (at_number at row p) (asked p) ∙ ap (λ m. then_give (asked p) (kept_label m)) (at_place_others commalist (p ∷ []) row)

    label_given : (m k : Row) (r : OrFault Bool) → then_give r (kept_label k) ≡ Ok (Some m) ↔ ((r ≡ Ok true) × (k ≡ m))
    label_given m k (Ok true) = (λ h. (refl, cc), λ w. ap (λ x. Ok (Some x)) w.1)
    label_given m k (Ok false) = (λ h. absurd cc, λ w. absurd cc)
    label_given m k (Err e) = (λ h. absurd cc, λ w. absurd cc)

    fault_given : (k : Row) (e : Fault) (r : OrFault Bool) → then_give r (kept_label k) ≡ Err e ↔ (r ≡ Err e)
    fault_given k e (Ok true) = (λ h. absurd cc, λ h. absurd cc)
    fault_given k e (Ok false) = (λ h. absurd cc, λ h. absurd cc)
    fault_given k e (Err d) = (λ h. ap (λ x. Err x) cc, λ h. ap (λ x. Err x) cc)

    abbrev own : Span
    own = span_of (value_at row at)

    -- the rows with the runs have at each place the label that is given there
    pub left_grid_points : (spans : List Span) → ((p : ℤ) → InSpans spans p ↔ (IsWithin own p × (asked p ≡ Ok true))) → (old new : List Row) → new ≡ old ++ map (put_span row at) spans
        → (m : Row) (place : List ℤ) → InBoxes (map (boxed commalist) new) m place ↔ InBoxes (map (boxed commalist) old) m place ⊎ (Has (spans_at commalist row) place × (given place ≡ Ok (Some m)))
    left_grid_points spans h old new e m place =
        let same : map (boxed commalist) new ≡ map (boxed commalist) old ++ put_boxes spans = ap (map (boxed commalist)) e ∙ map-append (boxed commalist) old (map (put_span row at) spans) ∙ ap (λ bs. map (boxed commalist) old ++ bs) (boxes_put spans) in
        let both = both_boxes (map (boxed commalist) old) (put_boxes spans) m place in (
          λ w. elim (both.0 (subst (λ (bs : List (Boxed Row)). InBoxes bs m place) same w)) [ inl a ↦ inl a | inr b ↦ inr (there (in_put spans m place b)) ],
          λ w.
              let which : InBoxes (map (boxed commalist) old) m place ⊎ InBoxes (put_boxes spans) m place = elim w [ inl a ↦ inl a | inr b ↦ inr (back b) ] in
              subst (λ (bs : List (Boxed Row)). InBoxes bs m place) (sym same) (both.1 which),
        )
      where
        there : AtOne spans place × (others commalist row ≡ m) → Has (spans_at commalist row) place × (given place ≡ Ok (Some m))
        there w =
            let p = w.0.0 in
            let v = (h p).0 w.0.2 in
            let g : given (p ∷ []) ≡ Ok (Some m) = given_at p ∙ (label_given m (others commalist row) (asked p)).1 (v.1, w.1) in
            subst (λ (ps : List ℤ). Has (spans_at commalist row) ps × (given ps ≡ Ok (Some m))) (sym w.0.1) ((v.0.0, v.0.1, tt), g)

        back : Has (spans_at commalist row) place × (given place ≡ Ok (Some m)) → InBoxes (put_boxes spans) m place
        back w =
            let v = one_place own place w.0 in
            let p = v.0 in
            let g : given (p ∷ []) ≡ Ok (Some m) = ap given (sym v.1) ∙ w.1 in
            let u = (label_given m (others commalist row) (asked p)).0 (sym (given_at p) ∙ g) in
            subst (λ (ps : List ℤ). InBoxes (put_boxes spans) m ps) (sym v.1) (put_in spans m p ((h p).1 (v.2, u.0)) u.1)

    pub left_faults : (e : Fault) → ((p : ℤ) × IsWithin own p × (asked p ≡ Err e)) ↔ ((place : List ℤ) × Has (spans_at commalist row) place × (given place ≡ Err e))
    left_faults e = (
      λ w. (w.0 ∷ [], (w.1.0, w.1.1, tt), given_at w.0 ∙ (fault_given (others commalist row) e (asked w.0)).1 w.2),
      λ w.
          let v = one_place own w.0 w.1 in
          let g : given (v.0 ∷ []) ≡ Err e = ap given (sym v.1) ∙ w.2 in
          (v.0, v.2, (fault_given (others commalist row) e (asked v.0)).0 (sym (given_at v.0) ∙ g)),
    )

    pub left_least : (o b : Option Fault) → IsLeast (λ e. (o ≡ Some e) ⊎ ((p : ℤ) × IsWithin own p × (asked p ≡ Err e))) b
        → IsLeast (λ e. (o ≡ Some e) ⊎ ((place : List ℤ) × Has (spans_at commalist row) place × (given place ≡ Err e))) b
    left_least o b = least_iff (λ e. (o ≡ Some e) ⊎ ((p : ℤ) × IsWithin own p × (asked p ≡ Err e))) (λ e. (o ≡ Some e) ⊎ ((place : List ℤ) × Has (spans_at commalist row) place × (given place ≡ Err e))) b (λ e.
        let all = left_faults e in (
          λ w. elim w [ inl a ↦ inl a | inr v ↦ inr (all.0 v) ],
          λ w. elim w [ inl a ↦ inl a | inr v ↦ inr (all.1 v) ],
        ))

-- ---- a row with a heading

-- the row's interval
pub row_interval : (heading : Heading) (at : ℕ) (row : Row) → AreIntervals heading (at ∷ []) → IsTrue (fits_heading heading row) → (l : Line) × (value_at row at ≡ interval l (span_of (value_at row at)))
row_interval heading at row intervals fit =
    (line_of (type_of (kind_at heading at)), (shaped_from_fit heading (at ∷ []) intervals row fit).spans at (among_itself (at ∷ []) at (inl refl)))

pub own_interval : (heading : Heading) (at : ℕ) (c : Expr) (row : Row) → CanAsk heading at c row
    → (l : Line) × (value_at row at ≡ interval l (span_of (value_at row at)))
own_interval heading at c row can = row_interval heading at row can.intervals can.fits

module _ (heading : Heading) (at : ℕ) (row : Row) (intervals : AreIntervals heading (at ∷ [])) (fit : IsTrue (fits_heading heading row)) where
  pub row_within : at < length row
  row_within =
      let long = (shaped_from_fit heading (at ∷ []) intervals row fit).long in
      let l : at < length heading = intervals.within 0 at (omega arith) in
      omega (arith, long, l)

  pub row_line : (p : AnyPoint) → IsPointOf (type_of (kind_at heading at)) p → value_at row at ≡ interval (line p) (span_of (value_at row at))
  row_line p h =
      (shaped_from_fit heading (at ∷ []) intervals row fit).spans at (among_itself (at ∷ []) at (inl refl)) ∙ ap (λ (k : Line). interval k (span_of (value_at row at))) (sym h.0)

  pub row_fits : IsTrue (fits (SpanOf (type_of (kind_at heading at))) (value_at row at))
  row_fits = span_fits heading (at ∷ []) intervals row fit at (among_itself (at ∷ []) at (inl refl))

-- the row at a point of its interval
pub asked_over : (heading : Heading) (at : ℕ) (c : Expr) (row : Row) → CanAsk heading at c row → (p : ℤ) → IsWithin (span_of (value_at row at)) p → (x : Row) → x ≡ at_number at row p → IsConditionOver x c
asked_over heading at c row can p h x e = record {
  heading = heading;
  fits = subst (λ (y : Row). IsTrue (fits_heading heading y)) (sym e) (at_place-fits heading row row (at ∷ []) (p ∷ []) can.fits can.fits (h, tt));
  typed = can.typed;
}

-- between its cuts the condition gives the same at all points
pub steady_at : (at : ℕ) (c : Expr) (row : Row) (cs : List ℤ) → IsSteady c row (at ∷ []) 0 cs → (p q : ℤ) → IsWithin (span_of (value_at row at)) p → IsWithin (span_of (value_at row at)) q → IsBeside cs p q
    → condition c (at_number at row p) ≡ condition c (at_number at row q)
steady_at at c row cs s p q a b h = ap (λ r. then_give r (λ v. Ok (is_true v))) (s (pos 0 ∷ []) p q refl a b h)

-- ---- rows with another interval fit

interval_fits_as : (kind : Kind) (v : Value) (s : Span) → IsTrue (fits kind v) → ((t : AnyType) → kind ≡ SpanOf t → is_interval t s ≡ true) → IsTrue (fits kind (with_span v s))
interval_fits_as kind (truth b) s h n = h
interval_fits_as kind (text bytes) s h n = h
interval_fits_as kind (point l q) s h n = h
interval_fits_as Truth (interval l i) s h n = absurd cc
interval_fits_as Char (interval l i) s h n = absurd cc
interval_fits_as (Point t) (interval l i) s h n = absurd cc
interval_fits_as (SpanOf t) (interval l i) s h n =
    and_from (same_line l (line_of t)) (is_interval t s) (and_left (same_line l (line_of t)) (is_interval t i) h) (n t refl)

put_fits : (heading : Heading) (row : Row) (a : ℕ) (s : Span) → IsTrue (fits_heading heading row) → ((t : AnyType) → kind_at heading a ≡ SpanOf t → is_interval t s ≡ true)
    → IsTrue (fits_heading heading (put_span row a s))
put_fits [] [] a s h n = h
put_fits [] (v ∷ vs) a s h n = absurd cc
put_fits (b ∷ rest) [] a s h n = absurd cc
put_fits (b ∷ rest) (v ∷ vs) zero s h n =
    and_from (fits b.1 (with_span v s)) (fits_heading rest vs)
    (interval_fits_as b.1 v s (and_left (fits b.1 v) (fits_heading rest vs) h) n)
    (and_right (fits b.1 v) (fits_heading rest vs) h)
put_fits (b ∷ rest) (v ∷ vs) (suc a) s h n =
    and_from (fits b.1 v) (fits_heading rest (put_span vs a s)) (and_left (fits b.1 v) (fits_heading rest vs) h)
    (put_fits rest vs a s (and_right (fits b.1 v) (fits_heading rest vs) h) n)

pub part_fits : (heading : Heading) (at : ℕ) (row : Row) (i : AnyPoint × AnyPoint) → IsTrue (fits_heading heading row) → HasEndsIn IsPointOf (type_of (kind_at heading at)) i → number i.0 ≤ℤ number i.1
    → IsTrue (fits_heading heading (put_span row at (numbers_of number i)))
part_fits heading at row i h ends o = put_fits heading row at (numbers_of number i) h (λ t e.
    let same : type_of (kind_at heading at) ≡ t = ap type_of e in
    let here : HasEndsIn IsPointOf t i = subst (λ u. HasEndsIn IsPointOf u i) same ends in
    let a = number i.0 in
    let b = number i.1 in
    and_from (is_number t a) (is_number t b && int_le a b) (number-is_number t a (here.0).1)
    (and_from (is_number t b) (int_le a b) (number-is_number t b (here.1).1) (le-int_le a b o)))

-- ---- parts of the row's interval

among_numbers : (parts : List (AnyPoint × AnyPoint)) (j : ℕ) (d : AnyPoint × AnyPoint) → j < length parts → Among (numbers_of number (get_or parts j d)) (box_numbers number parts)
among_numbers [] j d l = absurd (omega arith)
among_numbers (x ∷ parts) zero d l = inl refl
among_numbers (x ∷ parts) (suc j) d l = inr (among_numbers parts j d (omega (arith, l)))

pub are_parts : (heading : Heading) (at : ℕ) (row : Row) (parts : List (AnyPoint × AnyPoint)) (ps : List Span) → box_numbers number parts ≡ ps → All (HasEndsIn IsPointOf (type_of (kind_at heading at))) parts
    → ((i : Span) → Among i ps → IsWithin (span_of (value_at row at)) i.0) → All (IsPart heading at row) parts
are_parts heading at row parts ps same points first = λ j d l. record {
  points = points j d l;
  first = first (numbers_of number (get_or parts j d)) (subst (Among (numbers_of number (get_or parts j d))) same (among_numbers parts j d l));
}

-- what the parts between the cuts tell of all points
module _ (heading : Heading) (at : ℕ) (c : Expr) (row : Row) (can : CanAsk heading at c row) (side : AnyPoint × AnyPoint) (here : numbers_of number side ≡ span_of (value_at row at))
    (cs : List ℤ) (are : cs ≡ inner_cuts (at ∷ []) at c row) where
  abbrev whole : Span
  whole = span_of (value_at row at)

  whole_cuts : AreCuts whole.0 whole.1 cs
  whole_cuts = subst (AreCuts whole.0 whole.1) (one_cuts (at ∷ []) c row at ∙ sym are) (cuts_inside (at ∷ []) (c ∷ []) row at)

  pub side_cuts : AreCuts (number side.0) (number side.1) cs
  side_cuts = subst (λ (i : Span). AreCuts i.0 i.1 cs) (sym here) whole_cuts

  whole_some : whole.0 ≤ℤ whole.1
  whole_some = some_point (type_of (kind_at heading at)) (value_at row at) (row_fits heading at row can.intervals can.fits)

  module _ (steady : IsSteady c row (at ∷ []) 0 cs) (parts : List (AnyPoint × AnyPoint)) (same : box_numbers number parts ≡ pieces (number side.0) (number side.1) cs) where
    whole_parts : box_numbers number parts ≡ pieces whole.0 whole.1 cs
    whole_parts = same ∙ ap (λ (i : Span). pieces i.0 i.1 cs) here

    pub parts_there : All (HasEndsIn IsPointOf (type_of (kind_at heading at))) parts → All (IsPart heading at row) parts
    parts_there points = are_parts heading at row parts (pieces whole.0 whole.1 cs) whole_parts points (first_within c at row whole.0 whole.1 cs whole_some whole_cuts (steady_at at c row cs steady))

    pub runs_there : (spans : List Span) → ((p : ℤ) → InSpans spans p ↔ HoldsIn c at row (box_numbers number parts) p) → (p : ℤ)
        → InSpans spans p ↔ (IsWithin whole p × (condition c (at_number at row p) ≡ Ok true))
    runs_there spans h p =
        let all = holds_at_all c at row whole.0 whole.1 cs whole_some whole_cuts (steady_at at c row cs steady) p in
        let k = subst (λ (is : List Span). InSpans spans p ↔ HoldsIn c at row is p) whole_parts (h p) in
        (λ w. all.0 (k.0 w), λ w. k.1 (all.1 w))

    pub least_there : (o b : Option Fault) → IsLeast (λ e. (o ≡ Some e) ⊎ FailsIn c at row (box_numbers number parts) e) b
        → IsLeast (λ e. (o ≡ Some e) ⊎ ((p : ℤ) × IsWithin whole p × (condition c (at_number at row p) ≡ Err e))) b
    least_there o b h =
        least_iff (λ e. (o ≡ Some e) ⊎ FailsIn c at row (pieces whole.0 whole.1 cs) e) (λ e. (o ≡ Some e) ⊎ ((p : ℤ) × IsWithin whole p × (condition c (at_number at row p) ≡ Err e))) b (λ e.
        let all = fails_at_all c at row whole.0 whole.1 cs whole_some whole_cuts (steady_at at c row cs steady) e in (
          λ w. elim w [ inl a ↦ inl a | inr v ↦ inr (all.0 v) ],
          λ w. elim w [ inl a ↦ inl a | inr v ↦ inr (all.1 v) ],
        )) (subst (λ (is : List Span). IsLeast (λ e. (o ≡ Some e) ⊎ FailsIn c at row is e) b) whole_parts h)

-- ---- rows more

pub rows_more : (row : Row) (at : ℕ) (intervals : List (AnyPoint × AnyPoint)) (k : ℕ) (i : AnyPoint × AnyPoint) (old out new : List Row) (x : Row) → k < length intervals → i ≡ get_or intervals k i
    → x ≡ put_span row at (numbers_of number i) → new ≡ out ++ x ∷ [] → out ≡ old ++ map (put_span row at) (box_numbers number (take k intervals))
    → new ≡ old ++ map (put_span row at) (box_numbers number (take (k + 1) intervals))
rows_more row at intervals k i old out new x l e is push inv =
    let f : Span → Row = put_span row at in
    let more : box_numbers number (take (k + 1) intervals) ≡ box_numbers number (take k intervals) ++ numbers_of number i ∷ [] =
    map_more (numbers_of number) intervals k i l ∙ (λ t. box_numbers number (take k intervals) ++ numbers_of number (sym e t) ∷ []) in
    push ∙ (λ t. inv t ++ is t ∷ []) ∙ assoc old (map f (box_numbers number (take k intervals))) (f (numbers_of number i) ∷ [])
    ∙ ap (λ ys. old ++ ys) (sym (map-append f (box_numbers number (take k intervals)) (numbers_of number i ∷ [])) ∙ ap (map f) (sym more))
  where
    assoc : (xs ys zs : List Row) → (xs ++ ys) ++ zs ≡ xs ++ (ys ++ zs)
    assoc [] ys zs = refl
    assoc (y ∷ xs) ys zs = ap (λ us. y ∷ us) (assoc xs ys zs)

pub fits_more : (heading : Heading) (out new : List Row) (x : Row) → new ≡ out ++ x ∷ [] → IsTrue (fits_heading heading x) → IsTrue (all_fit heading out) → IsTrue (all_fit heading new)
fits_more heading out new x e h all = subst (λ (rows : List Row). IsTrue (all_fit heading rows)) (sym e) ((list_all-In (fits_heading heading) (out ++ x ∷ [])).1 (λ y m. elim ((In-append y out (x ∷ [])).0 m) [
  | inl a ↦ (list_all-In (fits_heading heading) out).0 all y a
  | inr b ↦ elim b [ inl q ↦ subst (λ (z : Row). IsTrue (fits_heading heading z)) (sym q) h | inr n ↦ absurd n ]
]))
