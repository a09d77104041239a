-- An operand may be packed first: unpacked, it has the same rows.
use Rattle.std.proofs.Common.{◌≡◌, ◌↔◌, ℕ, ◌≤◌, ℤ, List, [], ◌∷◌, map, length, refl, sym, ap, ◌∙◌, subst, Result, Option}
use Rattle.std.specs.Prelude.{Some, None, IfSome, MatchResult}
use Rattle.base_core.specs.Sets.{in_order}
use Rattle.base_core.proofs.SetLemmas.{In, Ascends, In-in_order, in_order_by_members, in_order_of_ascending}
use Rattle.base_core.proofs.MemberLemmas.{In-map}
use Rattle.cell_packing.specs.Boxed.{Boxed, sides_from, packed_boxes, InBoxes}
use Rattle.cell_core.proofs.PackedGridPoints.{in_packed_box, from_packed_box}
use Rattle.value_core.specs.Order.{row_total, row_separates}
use Rattle.value_core.specs.RowPacking.{attribute, packed, unpacked}
use Rattle.value_core.specs.Values.{Row, Heading, Relation, IsRelation, row_cmp, most_rows}
use Rattle.value_core.specs.declared.refuse.RowsRefuse.{RowsRefuse}
use Rattle.relation_core.specs.Agreement.{unmatched}
use Rattle.relation_core.specs.Answers.{IsAnswer, IsRefusal}
use Rattle.relation_core.specs.Joins.{joined}
use Rattle.relation_core.proofs.FilterLemmas.{rows_ascend}
use Rattle.cell_core.proofs.UnpackedLemmas.{unpack_ascends}
use Rattle.u_set.specs.Boxes.{AreIntervals, IsShaped, boxed, unboxed}
use Rattle.u_set.proofs.BoxLemmas.{all_alike, unboxed-boxed}
use Rattle.u_set.proofs.BridgeLemmas.{box_cmp, box_total, box_separates, same_places, boxes_have}
use Rattle.u_set.proofs.CoalescingLemmas.{given, packed_given}
use Rattle.u_set.proofs.ImageLemmas.{IsImage, Ascends-pack, image-pack}
use Rattle.u_set.proofs.PlaceLemmas.{opened_at, opened_shaped}
use Rattle.u_set.proofs.RelationLemmas.{relation_shaped}

module _ (heading : Heading) (commalist : List ℕ) (intervals : AreIntervals heading commalist) (rows : List Row) (up : Ascends row_cmp rows) (shaped : (x : Row) → In x rows → IsShaped heading commalist x) where
  abbrev box : Row → Boxed Row
  box = boxed commalist

  abbrev form : List (Boxed Row)
  form = packed_boxes row_cmp (length commalist) (map box rows)

  image : IsImage (IsShaped heading commalist) box rows (in_order box_cmp (map box rows))
  image = record {
    shaped = shaped;
    to = λ x i. (In-in_order box_cmp box_total box_separates (box x) (map box rows)).1 ((In-map box (box x) rows).1 (x, i, refl));
    from = λ y i. (In-map box y rows).0 ((In-in_order box_cmp box_total box_separates y (map box rows)).0 i);
  }

  packed_image : IsImage (IsShaped heading commalist) box (packed commalist rows) form
  packed_image =
      image-pack row_cmp row_total row_separates box_cmp box_total box_separates (IsShaped heading commalist) box (unboxed heading commalist) (unboxed-boxed heading commalist intervals)
      (map attribute commalist) (sides_from 0 (length commalist)) (all_alike heading commalist intervals) rows (in_order box_cmp (map box rows)) image

  packed_up : Ascends row_cmp (packed commalist rows)
  packed_up = Ascends-pack row_cmp row_total row_separates (map attribute commalist) rows up

  -- the boxes of the packed rows have the places of those of the rows
  packed_places : (l : Row) (place : List ℤ) → InBoxes (map box (packed commalist rows)) l place ↔ InBoxes (map box rows) l place
  packed_places l place =
      let same = same_places (map box (packed commalist rows)) form (λ x. (
        λ i. let w = (In-map box x (packed commalist rows)).0 i in subst (λ z. In z form) (sym w.2) (packed_image.to w.0 w.1),
        λ i. (In-map box x (packed commalist rows)).1 (packed_image.from x i),
      )) l place in
      let have = boxes_have heading commalist intervals rows in (
        λ w. from_packed_box row_cmp row_total row_separates (length commalist) (map box rows) have l place (same.0 w),
        λ w. same.1 (in_packed_box row_cmp row_total row_separates (length commalist) (map box rows) have l place w),
      )

  pub unpacked_packed : unpacked commalist (packed commalist rows) ≡ unpacked commalist rows
  unpacked_packed =
      let members : (x : Row) → In x (unpacked commalist (packed commalist rows)) ↔ In x (unpacked commalist rows) = λ x. (
        λ i.
            let s = opened_shaped heading commalist intervals (packed commalist rows) packed_up packed_image.shaped x i in
            let w = (opened_at heading commalist intervals (packed commalist rows) packed_up packed_image.shaped x s).0 i in
            (opened_at heading commalist intervals rows up shaped x s).1 (w.0, (packed_places _ _).0 w.1),
        λ i.
            let s = opened_shaped heading commalist intervals rows up shaped x i in
            let w = (opened_at heading commalist intervals rows up shaped x s).0 i in
            (opened_at heading commalist intervals (packed commalist rows) packed_up packed_image.shaped x s).1 (w.0, (packed_places _ _).1 w.1),
      ) in
      sym (in_order_of_ascending row_cmp row_total row_separates (unpacked commalist (packed commalist rows)) (unpack_ascends row_cmp row_total row_separates (map attribute commalist) (packed commalist rows) packed_up))
      ∙ in_order_by_members row_cmp row_total row_separates (unpacked commalist (packed commalist rows)) (unpacked commalist rows) members
      ∙ in_order_of_ascending row_cmp row_total row_separates (unpacked commalist rows) (unpack_ascends row_cmp row_total row_separates (map attribute commalist) rows up)

-- a relation in whose place its packed rows stand
module _ (q r : Relation) (is : IsRelation r) (at : ℕ) (intervals : AreIntervals r.heading (at ∷ [])) (rows : q.rows ≡ packed (at ∷ []) r.rows) where
  pub unpacked_same : unpacked (at ∷ []) q.rows ≡ unpacked (at ∷ []) r.rows
  unpacked_same = ap (unpacked (at ∷ [])) rows ∙ unpacked_packed r.heading (at ∷ []) intervals r.rows (rows_ascend r is) (relation_shaped r is (at ∷ []) intervals)

-- the same answer is given to operands that are packed first
pub answer_same : (heading : Heading) (at here there : ℕ) (l r left right : Relation) → l.heading ≡ left.heading → r.heading ≡ right.heading
    → unpacked (here ∷ []) l.rows ≡ unpacked (here ∷ []) left.rows → unpacked (there ∷ []) r.rows ≡ unpacked (there ∷ []) right.rows → (result : Result (Option Relation) RowsRefuse)
    → (let rows = packed (at ∷ []) (joined l.heading r.heading (unpacked (here ∷ []) l.rows) (unpacked (there ∷ []) r.rows)) in MatchResult result (λ o. IfSome o (IsAnswer heading rows)) (IsRefusal rows))
    → (let rows = packed (at ∷ []) (joined left.heading right.heading (unpacked (here ∷ []) left.rows) (unpacked (there ∷ []) right.rows)) in MatchResult result (λ o. IfSome o (IsAnswer heading rows)) (IsRefusal rows))
answer_same heading at here there l r left right h k lefts rights result given =
    let is : joined l.heading r.heading (unpacked (here ∷ []) l.rows) (unpacked (there ∷ []) r.rows) ≡ joined left.heading right.heading (unpacked (here ∷ []) left.rows) (unpacked (there ∷ []) right.rows) =
    (λ t. joined (h t) (k t) (lefts t) (rights t)) in
    subst (λ (T : Type 0). T) (λ t. MatchResult result (λ o. IfSome o (IsAnswer heading (packed (at ∷ []) (is t)))) (IsRefusal (packed (at ∷ []) (is t)))) given

pub unmatched_answer : (here there : ℕ) (l left right : Relation) → l.heading ≡ left.heading → unpacked (here ∷ []) l.rows ≡ unpacked (here ∷ []) left.rows → (result : Result (Option Relation) RowsRefuse)
    → (let rows = packed (here ∷ []) (unmatched l.heading right.heading (unpacked (here ∷ []) l.rows) (unpacked (there ∷ []) right.rows)) in MatchResult result (λ o. IfSome o (IsAnswer l.heading rows)) (IsRefusal rows))
    → (let rows = packed (here ∷ []) (unmatched left.heading right.heading (unpacked (here ∷ []) left.rows) (unpacked (there ∷ []) right.rows)) in MatchResult result (λ o. IfSome o (IsAnswer left.heading rows)) (IsRefusal rows))
unmatched_answer here there l left right h lefts result given =
    let is : packed (here ∷ []) (unmatched l.heading right.heading (unpacked (here ∷ []) l.rows) (unpacked (there ∷ []) right.rows)) ≡ packed (here ∷ []) (unmatched left.heading right.heading (unpacked (here ∷ []) left.rows) (unpacked (there ∷ []) right.rows)) =
    (λ t. packed (here ∷ []) (unmatched (h t) right.heading (lefts t) (unpacked (there ∷ []) right.rows))) in
    subst (λ (T : Type 0). T) (λ t. MatchResult result (λ o. IfSome o (IsAnswer (h t) (is t))) (IsRefusal (is t))) given

-- what is answered to a copy of the rows
pub copy_packed : (r : Relation) → IsRelation r → (at : ℕ) → AreIntervals r.heading (at ∷ []) → (heading : Heading) (rows : List Row) → heading ≡ r.heading → rows ≡ r.rows → (o : Option Relation)
    → IfSome o (IsAnswer heading (given heading at rows)) → IfSome o (λ q. (q.heading ≡ r.heading) × (q.rows ≡ packed (at ∷ []) r.rows))
copy_packed r is at intervals heading rows same list None h = h
copy_packed r is at intervals heading rows same list (Some q) h =
    let all : given heading at rows ≡ packed (at ∷ []) r.rows = (λ t. given (same t) at (list t)) ∙ packed_given r is (at ∷ []) at refl refl intervals in
    (ap (λ (p : Relation). p.heading) h.is ∙ same, ap (λ (p : Relation). p.rows) h.is ∙ all)

pub copy_few : (heading : Heading) (rows : List Row) (o : Option Relation) → IfSome o (IsAnswer heading rows) → IfSome o (λ q. length q.rows ≤ most_rows)
copy_few heading rows None h = h
copy_few heading rows (Some q) h = subst (λ (p : Relation). length p.rows ≤ most_rows) (sym h.is) h.few
