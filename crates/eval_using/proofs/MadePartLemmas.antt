-- What items make of a row at the first points of parts of its interval, and so at all its points.
use Rattle.std.proofs.Common.{◌≡◌, ◌↔◌, ◌⊎◌, inl, inr, ℕ, ◌+◌, ◌<◌, ℤ, ◌≤ℤ◌, List, [], ◌∷◌, ◌++◌, map, take, length, get_or, Ok, Err, Option, Some, refl, sym, ap, ◌∙◌, subst}
use Rattle.std.specs.Prelude.{slice_index}
use Rattle.std.specs.Bool.{IsTrue}
use Rattle.std.specs.List.{All, flat_map}
use Rattle.std.proofs.lemmas.List.{append-nil, append_assoc, map-append, map_more}
use Rattle.base_core.specs.Outcomes.{then_give}
use Rattle.point_core.specs.Faults.{OrFault}
use Rattle.point_core.specs.Points.{number, line, IsPointOf}
use Rattle.point_core.specs.declared.any_type.AnyPoint.{AnyPoint}
use Rattle.point_core.specs.declared.any_type.AnyType.{AnyType}
use Rattle.point_core.specs.declared.fault.Fault.{Fault}
use Rattle.point_core.specs.LeastFault.{IsLeast}
use Rattle.interval_core.specs.Members.{Span, HasEndsIn, at_point}
use Rattle.cell_packing.specs.Boxed.{Boxed, InBoxes}
use Rattle.cell_packing.specs.Covering.{Among}
use Rattle.cell_packing.specs.Packed.{Has, firsts}
use Rattle.cell_packing.proofs.AmongLemmas.{among_append}
use Rattle.cell_sweep.proofs.Turns.{least_iff, least_kept}
use Rattle.value_core.specs.Attributes.{value_at, span_of, put_span}
use Rattle.value_core.specs.Relations.{all_fit}
use Rattle.value_core.specs.Values.{Row, Heading, interval, fits_heading}
use Rattle.scalar_core.specs.AtPlaces.{IsWithin}
use Rattle.scalar_core.proofs.AtPlaceLemmas.{at_place-fits}
use Rattle.relation_core.specs.Parts.{kind_at}
use Rattle.tree_core.specs.Trees.{PlainSets}
use Rattle.cell_core.specs.Cells.{box_numbers}
use Rattle.cell_core.specs.Numbering.{numbers_of}
use Rattle.u_set.specs.Boxes.{type_of, others, boxed, spans_at}
use Rattle.u_row.specs.Cutting.{AreCuts, AreCutsFrom, pieces, cells_of}
use Rattle.u_row.specs.Rules.{given, labelled}
use Rattle.u_row.proofs.AllRowsLemmas.{given_places}
use Rattle.u_row.proofs.CuttingLemmas.{piece_in, piece_some}
use Rattle.u_row.proofs.RuleLemmas.{cell_faults, least_chain}
use Rattle.meaning_core.specs.Rows.{extended_at}
use Rattle.eval_using.specs.BoxedLaws.{cuts_inside, some_point}
use Rattle.eval_using.specs.Cells.{scalars_of, cuts_of_all}
use Rattle.eval_using.specs.Extended.{made_of, label_made, alone, CanMake}
use Rattle.eval_using.specs.ExtensionLaws.{extended_steady}
use Rattle.eval_using.specs.Holding.{IsPart}
use Rattle.eval_using.specs.Swept.{labelled_if, swept}
use Rattle.eval_using.proofs.InPlaceLemmas.{box_put, are_parts, row_fits, row_line, row_within, part_fits, fits_more}
use Rattle.base_core.proofs.IntLemmas.{le_itself}

-- ---- one made row

module _ (from heading : Heading) (at to : ℕ) (sets : PlainSets) (places : List ℕ) (x : Row) (can : CanMake from heading at to sets places x) (y : Row) (e : extended_at places sets x ≡ Ok y)
    (part : AnyPoint × AnyPoint) (ends : HasEndsIn IsPointOf (type_of (kind_at from at)) part) where
  made_fits : IsTrue (fits_heading heading y)
  made_fits = can.items.fitting x y can.fits e

  made_ends : HasEndsIn IsPointOf (type_of (kind_at heading to)) part
  made_ends = subst (λ (t : AnyType). HasEndsIn IsPointOf t part) (ap (λ (ts : List AnyType). get_or ts 0 (type_of (kind_at from at))) can.items.types) ends

  pub made_within : to < length y
  made_within = row_within heading to y can.items.there made_fits

  pub made_line : value_at y to ≡ interval (line part.0) (span_of (value_at y to))
  made_line = row_line heading to y can.items.there made_fits part.0 made_ends.0

  label_ok : label_made to sets places x ≡ Ok (Some (others (to ∷ []) y))
  label_ok = ap (λ (r : OrFault Row). then_give (then_give r (λ z. Ok (Some z))) (labelled_if (to ∷ []))) e

  pub made_rows : (out new : List Row) (z : Row) → z ≡ put_span y to (numbers_of number part) → new ≡ out ++ z ∷ []
      → map (boxed (to ∷ [])) new ≡ map (boxed (to ∷ [])) out ++ given (label_made to sets places x) (numbers_of number part ∷ [])
  made_rows out new z is push =
      let s : Span = numbers_of number part in
      let box : Row → Boxed Row = boxed (to ∷ []) in
      ap (map box) (push ∙ (λ t. out ++ is t ∷ [])) ∙ map-append box out (put_span y to s ∷ [])
      ∙ (λ t. map box out ++ box_put to y (line part.0) made_line s t ∷ [])
      ∙ ap (λ (r : OrFault (Option Row)). map box out ++ given r (s ∷ [])) (sym label_ok)

  pub made_all_fit : (out new : List Row) (z : Row) → z ≡ put_span y to (numbers_of number part) → number part.0 ≤ℤ number part.1 → new ≡ out ++ z ∷ [] → IsTrue (all_fit heading out) → IsTrue (all_fit heading new)
  made_all_fit out new z is o push all =
      fits_more heading out new z push (subst (λ (r : Row). IsTrue (fits_heading heading r)) (sym is) (part_fits heading to y part made_fits made_ends o)) all

  pub made_least : (o : Option Fault) → IsLeast (λ d. (o ≡ Some d) ⊎ (label_made to sets places x ≡ Err d)) o
  made_least o = least_kept (λ d. label_made to sets places x ≡ Err d) o (λ d q. let k = label_ok in absurd cc)

-- ---- a fault

module _ (to : ℕ) (sets : PlainSets) (places : List ℕ) (x : Row) (d : Fault) (e : extended_at places sets x ≡ Err d) where
  label_err : label_made to sets places x ≡ Err d
  label_err = ap (λ (r : OrFault Row). then_give (then_give r (λ z. Ok (Some z))) (labelled_if (to ∷ []))) e

  pub failed_rows : (out : List Row) (s : List Span) → map (boxed (to ∷ [])) out ≡ map (boxed (to ∷ [])) out ++ given (label_made to sets places x) s
  failed_rows out s =
      sym (append-nil (map (boxed (to ∷ [])) out)) ∙ ap (λ (r : OrFault (Option Row)). map (boxed (to ∷ [])) out ++ given r s) (sym label_err)

  pub failed_least : (o b : Option Fault) → IsLeast (λ f. (o ≡ Some f) ⊎ (d ≡ f)) b → IsLeast (λ f. (o ≡ Some f) ⊎ (label_made to sets places x ≡ Err f)) b
  failed_least o b = least_iff (λ f. (o ≡ Some f) ⊎ (d ≡ f)) (λ f. (o ≡ Some f) ⊎ (label_made to sets places x ≡ Err f)) b (λ f. (
    λ w. elim w [ inl a ↦ inl a | inr q ↦ inr (label_err ∙ ap (λ z. Err z) q) ],
    λ w. elim w [ inl a ↦ inl a | inr q ↦ inr (let k = label_err in cc) ],
  ))

-- ---- one part more

labelled_more : (f : List ℤ → OrFault (Option Row)) (xs : List (List Span)) (x : List Span) → labelled f (xs ++ x ∷ []) ≡ labelled f xs ++ given (f (firsts x)) x
labelled_more f [] x = append-nil (given (f (firsts x)) x)
labelled_more f (y ∷ ys) x = ap (λ zs. given (f (firsts y)) y ++ zs) (labelled_more f ys x) ∙ sym (append_assoc (given (f (firsts y)) y) (labelled f ys) (given (f (firsts x)) x))

module _ (f : List ℤ → OrFault (Option Row)) (parts : List (AnyPoint × AnyPoint)) (k : ℕ) (part : AnyPoint × AnyPoint) (l : k < length parts) (e : part ≡ get_or parts k part) where
  abbrev done : List (List Span)
  done = alone (box_numbers number (take k parts))

  abbrev cell : List Span
  cell = numbers_of number part ∷ []

  one_more : alone (box_numbers number (take (k + 1) parts)) ≡ done ++ cell ∷ []
  one_more =
      ap alone (map_more (numbers_of number) parts k part l ∙ (λ t. box_numbers number (take k parts) ++ numbers_of number (sym e t) ∷ []))
      ∙ map-append (λ (s : Span). s ∷ []) (box_numbers number (take k parts)) (numbers_of number part ∷ [])

  pub part_rows : (old out new : List (Boxed Row)) → out ≡ old ++ labelled f done → new ≡ out ++ given (f (firsts cell)) cell → new ≡ old ++ labelled f (alone (box_numbers number (take (k + 1) parts)))
  part_rows old out new inv push =
      push ∙ (λ t. inv t ++ given (f (firsts cell)) cell) ∙ append_assoc old (labelled f done) (given (f (firsts cell)) cell)
      ∙ ap (λ ys. old ++ ys) (sym (labelled_more f done cell) ∙ ap (labelled f) (sym one_more))

  pub part_least : (o a b : Option Fault) → IsLeast (λ d. (o ≡ Some d) ⊎ ((c : List Span) × Among c done × (f (firsts c) ≡ Err d))) a → IsLeast (λ d. (a ≡ Some d) ⊎ (f (firsts cell) ≡ Err d)) b
      → IsLeast (λ d. (o ≡ Some d) ⊎ ((c : List Span) × Among c (alone (box_numbers number (take (k + 1) parts))) × (f (firsts c) ≡ Err d))) b
  part_least o a b ha hb =
      let Q : Fault → Type 0 = λ d. (o ≡ Some d) ⊎ ((c : List Span) × Among c done × (f (firsts c) ≡ Err d)) in
      let M : Fault → Type 0 = λ d. f (firsts cell) ≡ Err d in
      subst (λ (ys : List (List Span)). IsLeast (λ d. (o ≡ Some d) ⊎ ((c : List Span) × Among c ys × (f (firsts c) ≡ Err d))) b) (sym one_more)
      (least_iff (λ d. Q d ⊎ M d) (λ d. (o ≡ Some d) ⊎ ((c : List Span) × Among c (done ++ cell ∷ []) × (f (firsts c) ≡ Err d))) b (λ d. (
        λ w. elim w [
          | inl q ↦ elim q [ inl u ↦ inl u | inr v ↦ inr (v.0, (among_append v.0 done (cell ∷ [])).1 (inl v.1), v.2) ]
          | inr m ↦ inr (cell, (among_append cell done (cell ∷ [])).1 (inr (inl refl)), m)
        ],
        λ w. elim w [
          | inl u ↦ inl (inl u)
          | inr v ↦ elim ((among_append v.0 done (cell ∷ [])).0 v.1) [
            | inl m ↦ inl (inr (v.0, m, v.2))
            | inr m ↦ elim m [ inl q ↦ inr (subst (λ s. f (firsts s) ≡ Err d) (sym q) v.2) | inr n ↦ absurd n ]
          ]
        ],
      )) (least_chain Q M a b ha hb))

-- ---- all parts

module _ (from heading : Heading) (at to : ℕ) (sets : PlainSets) (places : List ℕ) (row : Row) (can : CanMake from heading at to sets places row) where
  abbrev own : Span
  own = span_of (value_at row at)

  abbrev all_cuts : List ℤ
  all_cuts = cuts_of_all (at ∷ []) (scalars_of sets) row at

  abbrev cuts : ℕ → List ℤ
  cuts side = cuts_of_all (at ∷ []) (scalars_of sets) row (slice_index (at ∷ []) side)

  abbrev f : List ℤ → OrFault (Option Row)
  f = swept (at ∷ []) (to ∷ []) (made_of places sets) row

  pub own_cuts : AreCuts own.0 own.1 all_cuts
  own_cuts = cuts_inside (at ∷ []) (scalars_of sets) row at

  own_some : own.0 ≤ℤ own.1
  own_some = some_point (type_of (kind_at from at)) (value_at row at) (row_fits from at row can.items.here can.fits)

  inside : AreCutsFrom cuts 0 (spans_at (at ∷ []) row)
  inside = ((own_some, own_cuts), tt)

  steady : (cell : List Span) (ps qs : List ℤ) → Among cell (cells_of cuts (spans_at (at ∷ []) row)) → Has cell ps → Has cell qs → f ps ≡ f qs
  steady cell ps qs m a b =
      extended_steady (at ∷ []) (to ∷ []) sets places row (can.items.typed row can.fits) can.items.sweepable can.items.free inside cell ps qs m a b

  -- a part begins within the interval
  pub first_within : (i : Span) → Among i (pieces own.0 own.1 all_cuts) → IsWithin own i.0
  first_within i m = piece_in own.0 own.1 all_cuts own_cuts i m i.0 (le_itself i.0) (piece_some own.0 own.1 all_cuts own_some own_cuts i m)

  pub parts_made : (parts : List (AnyPoint × AnyPoint)) → box_numbers number parts ≡ pieces own.0 own.1 all_cuts → All (HasEndsIn IsPointOf (type_of (kind_at from at))) parts → All (IsPart from at row) parts
  parts_made parts same points = are_parts from at row parts (pieces own.0 own.1 all_cuts) same points first_within

  -- the row at a point of its interval
  pub made_there : (p : ℤ) → IsWithin own p → (x : Row) → x ≡ put_span row at (at_point p) → CanMake from heading at to sets places x
  made_there p h x e = record {
    items = can.items;
    fits = subst (λ (y : Row). IsTrue (fits_heading from y)) (sym e) (at_place-fits from row row (at ∷ []) (p ∷ []) can.fits can.fits (h, tt));
  }

  alone_cells : (is : List Span) → flat_map (λ (p : Span). map (λ (ps : List Span). p ∷ ps) ([] ∷ [])) is ≡ alone is
  alone_cells [] = refl
  alone_cells (i ∷ is) = ap (λ (cs : List (List Span)). (i ∷ []) ∷ cs) (alone_cells is)

  parts_cells : (spans : List Span) → spans ≡ pieces own.0 own.1 all_cuts → alone spans ≡ cells_of cuts (spans_at (at ∷ []) row)
  parts_cells spans e = ap alone e ∙ sym (alone_cells (pieces own.0 own.1 all_cuts))

  module _ (spans : List Span) (same : spans ≡ pieces own.0 own.1 all_cuts) where
    pub places_made : (old new : List (Boxed Row)) → new ≡ old ++ labelled f (alone spans)
        → (l : Row) (place : List ℤ) → InBoxes new l place ↔ InBoxes old l place ⊎ (Has (spans_at (at ∷ []) row) place × (f place ≡ Ok (Some l)))
    places_made old new e = given_places f cuts (spans_at (at ∷ []) row) inside steady old new (e ∙ ap (λ cs. old ++ labelled f cs) (parts_cells spans same))

    pub least_made : (o b : Option Fault) → IsLeast (λ d. (o ≡ Some d) ⊎ ((c : List Span) × Among c (alone spans) × (f (firsts c) ≡ Err d))) b
        → IsLeast (λ d. (o ≡ Some d) ⊎ ((place : List ℤ) × Has (spans_at (at ∷ []) row) place × (f place ≡ Err d))) b
    least_made o b h =
        least_iff (λ d. (o ≡ Some d) ⊎ ((c : List Span) × Among c (cells_of cuts (spans_at (at ∷ []) row)) × (f (firsts c) ≡ Err d)))
        (λ d. (o ≡ Some d) ⊎ ((place : List ℤ) × Has (spans_at (at ∷ []) row) place × (f place ≡ Err d))) b (λ d.
        let all = cell_faults f cuts (spans_at (at ∷ []) row) inside steady d in (
          λ w. elim w [ inl a ↦ inl a | inr v ↦ inr (all.0 v) ],
          λ w. elim w [ inl a ↦ inl a | inr v ↦ inr (all.1 v) ],
        )) (subst (λ (cs : List (List Span)). IsLeast (λ d. (o ≡ Some d) ⊎ ((c : List Span) × Among c cs × (f (firsts c) ≡ Err d))) b) (parts_cells spans same) h)
