-- A box of one side comes back from its row.
use Rattle.std.proofs.Common.{◌≡◌, Option, Result, refl, ℕ, zero, suc, ◌+◌, ◌<◌, true, false, List, [], ◌∷◌, map, drop, length, get_or, sym, ap, ◌∙◌, subst, arith}
use Rattle.std.specs.Prelude.{slice_index_or, if◌then◌else◌}
use Rattle.std.specs.Bool.{IsTrue}
use Rattle.std.specs.List.{All}
use Rattle.std.specs.Option.{IfSome}
use Rattle.std.specs.Result.{MatchResult}
use Rattle.std.proofs.lemmas.Bool.{true≢false, and_parts}
use Rattle.std.proofs.lemmas.List.{length-map}
use Rattle.point_core.specs.declared.any_type.AnyPoint.{AnyPoint}
use Rattle.point_core.specs.Points.{Line, line_of, number, IsPointOf}
use Rattle.interval_core.specs.Members.{Span}
use Rattle.value_core.specs.declared.refuse.RowsRefuse.{RowsRefuse}
use Rattle.value_core.specs.Attributes.{value_at, span_of, among}
use Rattle.value_core.specs.Values.{Value, Row, Heading, Relation, truth, interval, fits, fits_heading, row_cmp, rows_of}
use Rattle.relation_core.specs.Answers.{IsAnswer, IsRefusal}
use Rattle.cell_packing.specs.Boxed.{packed_boxes}
use Rattle.cell_packing.specs.Packed.{nowhere}
use Rattle.cell_core.specs.Boxes.{IsBox}
use Rattle.cell_core.specs.Cells.{box_numbers, row_numbers}
use Rattle.cell_core.specs.Numbering.{numbers_of}
use Rattle.cell_core.proofs.BackLemmas.{box_length}
use Rattle.u_set.specs.Boxes.{AreIntervals, place_of, type_of, types_at, unless, others_from, others, boxed, unboxed_from, unboxed}
use Rattle.u_set.proofs.BoxLemmas.{listed_at, place_listed, value_at-get}
use Rattle.u_set.proofs.CoalescingLemmas.{answer_moved, given}

-- ---- the label and the side of the row that a box gives

others_back : (n : ℕ) (commalist : List ℕ) (heading : Heading) (label : Row) (spans : List Span) → IsTrue (fits_heading (others_from n commalist heading) label)
    → others_from n commalist (unboxed_from n commalist heading label spans) ≡ label
others_back n commalist [] [] spans f = refl
others_back n commalist [] (v ∷ label) spans f = absurd (true≢false (sym f))
others_back n commalist (a ∷ heading) [] spans f =
    let i : Value = interval (line_of (type_of a.1)) (get_or spans (place_of commalist n) nowhere) in
    elim (among commalist n) as (λ b. IsTrue (fits_heading (unless b a (others_from (suc n) commalist heading)) [])
    → unless b (if b then i else slice_index_or [] 0 (truth false)) (others_from (suc n) commalist (unboxed_from (suc n) commalist heading (if b then [] else drop 1 []) spans)) ≡ []) [
      | true ↦ λ g. others_back (suc n) commalist heading [] spans g
      | false ↦ λ g. absurd (true≢false (sym g))
    ] f
others_back n commalist (a ∷ heading) (v ∷ label) spans f =
    let i : Value = interval (line_of (type_of a.1)) (get_or spans (place_of commalist n) nowhere) in
    elim (among commalist n) as (λ b. IsTrue (fits_heading (unless b a (others_from (suc n) commalist heading)) (v ∷ label))
    → unless b (if b then i else slice_index_or (v ∷ label) 0 (truth false)) (others_from (suc n) commalist (unboxed_from (suc n) commalist heading (if b then v ∷ label else drop 1 (v ∷ label)) spans)) ≡ v ∷ label) [
      | true ↦ λ g. others_back (suc n) commalist heading (v ∷ label) spans g
      | false ↦ λ g. ap (λ r. v ∷ r) (others_back (suc n) commalist heading label spans (and_parts (fits a.1 v) (fits_heading (others_from (suc n) commalist heading) label) g).1)
    ] f

side_back : (n : ℕ) (commalist : List ℕ) (heading : Heading) (label : Row) (spans : List Span) (i : ℕ) (d : Value) → i < length heading → IsTrue (among commalist (n + i))
    → (l : Line) × (get_or (unboxed_from n commalist heading label spans) i d ≡ interval l (get_or spans (place_of commalist (n + i)) nowhere))
side_back n commalist [] label spans i d below h = absurd (omega arith)
side_back n commalist (a ∷ heading) label spans zero d below h =
    let z : n + 0 ≡ n = omega arith in
    let l : Line = line_of (type_of a.1) in
    let e : among commalist n ≡ true = subst (λ k. IsTrue (among commalist k)) z h in (
      l,
      (λ t. if e t then interval l (get_or spans (place_of commalist n) nowhere) else slice_index_or label 0 (truth false)) ∙ ap (λ k. interval l (get_or spans (place_of commalist k) nowhere)) (sym z),
    )
side_back n commalist (a ∷ heading) label spans (suc i) d below h =
    let s : n + suc i ≡ suc n + i = omega arith in
    let rest : Row = if among commalist n then label else drop 1 label in
    subst (λ k. (l : Line) × (get_or (unboxed_from (suc n) commalist heading rest spans) i d ≡ interval l (get_or spans (place_of commalist k) nowhere))) (sym s)
    (side_back (suc n) commalist heading rest spans i d (omega arith) (subst (λ k. IsTrue (among commalist k)) s h))

-- ---- a box with one side

module _ (heading : Heading) (at : ℕ) (intervals : AreIntervals heading (at ∷ [])) where
  box_back : (label : Row) (spans : List Span) → length spans ≡ 1 → IsTrue (fits_heading (others (at ∷ []) heading) label)
      → boxed (at ∷ []) (unboxed heading (at ∷ []) (label, spans)) ≡ (label, spans)
  box_back label [] one f = absurd (omega arith)
  box_back label (i ∷ j ∷ spans) one f = absurd (omega arith)
  box_back label (i ∷ []) one f =
      let row : Row = unboxed heading (at ∷ []) (label, i ∷ []) in
      let z : at ≡ 0 + at = omega arith in
      let listed : IsTrue (among (at ∷ []) (0 + at)) = subst (λ k. IsTrue (among (at ∷ []) k)) z (place_listed (at ∷ []) 0 (omega arith)) in
      let w = side_back 0 (at ∷ []) heading label (i ∷ []) at (truth false) (intervals.within 0 0 (omega arith)) listed in
      let below = (listed_at (at ∷ []) (0 + at) listed).0 in
      let first : place_of (at ∷ []) (0 + at) ≡ 0 = omega (arith, below) in
      let there : value_at row at ≡ interval w.0 i = value_at-get row at ∙ w.1 ∙ ap (λ k. interval w.0 (get_or (i ∷ []) k nowhere)) first in
      let same = others_back 0 (at ∷ []) heading label (i ∷ []) f in
      λ t. (same t, span_of (there t) ∷ [])

  boxes_back : (form : List (Row × List (AnyPoint × AnyPoint))) → All (λ b. IsBox IsPointOf (types_at heading (at ∷ [])) b.1) form → All (λ b. IsTrue (fits_heading (others (at ∷ []) heading) b.0)) form
      → map (boxed (at ∷ [])) (map (unboxed heading (at ∷ [])) (map (row_numbers number) form)) ≡ map (row_numbers number) form
  boxes_back [] sides labels = refl
  boxes_back (b ∷ form) sides labels =
      let spans : List Span = box_numbers number b.1 in
      let one : length spans ≡ 1 = length-map b.1 (numbers_of number) ∙ box_length IsPointOf (types_at heading (at ∷ [])) b.1 (sides 0 b (omega arith)) in
      let first : boxed (at ∷ []) (unboxed heading (at ∷ []) (b.0, spans)) ≡ (b.0, spans) = box_back b.0 spans one (labels 0 b (omega arith)) in
      let rest = boxes_back form (λ j d l. sides (suc j) d (omega arith)) (λ j d l. labels (suc j) d (omega arith)) in
      λ t. first t ∷ rest t

  -- what is answered to the rows of the boxes is the answer of the boxes
  pub answer_back : (form : List (Row × List (AnyPoint × AnyPoint))) → All (λ b. IsBox IsPointOf (types_at heading (at ∷ [])) b.1) form → All (λ b. IsTrue (fits_heading (others (at ∷ []) heading) b.0)) form
      → (rows : List Row) → rows ≡ map (unboxed heading (at ∷ [])) (map (row_numbers number) form) → (result : Result (Option Relation) RowsRefuse)
      → MatchResult result (λ o. IfSome o (IsAnswer heading (given heading at rows))) (IsRefusal (given heading at rows))
      → (let meant = rows_of (map (unboxed heading (at ∷ [])) (packed_boxes row_cmp 1 (map (row_numbers number) form))) in MatchResult result (λ o. IfSome o (IsAnswer heading meant)) (IsRefusal meant))
  answer_back form sides labels rows are result h =
      let same : map (boxed (at ∷ [])) rows ≡ map (row_numbers number) form = ap (map (boxed (at ∷ []))) are ∙ boxes_back form sides labels in
      let meant : List Row = rows_of (map (unboxed heading (at ∷ [])) (packed_boxes row_cmp 1 (map (row_numbers number) form))) in
      answer_moved heading heading (given heading at rows) meant refl (ap (λ bs. rows_of (map (unboxed heading (at ∷ [])) (packed_boxes row_cmp 1 bs))) same) result h
