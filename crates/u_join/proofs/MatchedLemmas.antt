-- Unpacked rows that agree with an unpacked row of another relation, and those that agree with none: packed, they are those of the boxes.
use Rattle.std.proofs.Common.{◌≡◌, ◌↔◌, ℕ, Bool, not, List, map, length, sym, ap, ◌∙◌, subst}
use Rattle.std.specs.Bool.{IsTrue}
use Rattle.std.specs.List.{filter, list_any}
use Rattle.base_core.proofs.SetLemmas.{In, Ascends}
use Rattle.base_core.proofs.MemberLemmas.{In-map, In-filter, list_any-In}
use Rattle.base_core.proofs.SetOperatorLemmas.{Ascends-filter, same_tests}
use Rattle.value_core.specs.Headings.{has_name}
use Rattle.value_core.specs.Order.{row_total, row_separates}
use Rattle.value_core.specs.RowPacking.{packed, unpacked}
use Rattle.value_core.specs.Values.{Name, Heading, Row, row_cmp}
use Rattle.relation_core.specs.Agreement.{position_of, common_positions, agree, matched, unmatched}
use Rattle.relation_core.specs.Parts.{kind_at}
use Rattle.cell_packing.specs.Boxed.{Boxed, packed_boxes, unpacked_boxes}
use Rattle.cell_packing.proofs.PackedBoxes.{among_in}
use Rattle.cell_core.proofs.PackedGridPoints.{AllHave}
use Rattle.cell_core.proofs.UnpackedLemmas.{in_unpacked_boxes}
use Rattle.u_set.specs.Boxes.{AreIntervals, IsShaped, boxed}
use Rattle.u_set.proofs.BridgeLemmas.{AreRowsOf, boxes_have, unpacked_image, unpacked_ascends, same_places, closed_by_boxes}
use Rattle.u_row.specs.Kept.{inner}
use Rattle.u_join.specs.Pairs.{meet, matched_boxes, unmatched_boxes}
use Rattle.u_join.proofs.AgreeingLemmas.{agree_meet}

-- unpacked rows that pass a test, packed, are the boxes that pass a test that goes along with it
module _ (heading : Heading) (commalist : List ℕ) (intervals : AreIntervals heading commalist) (r : List Row) (up : Ascends row_cmp r) (shaped : (x : Row) → In x r → IsShaped heading commalist x)
    (p : Row → Bool) (q : Boxed Row → Bool) (same : (x : Row) → In x (unpacked commalist r) → p x ≡ q (boxed commalist x)) where
  abbrev boxes : List (Boxed Row)
  boxes = unpacked_boxes row_cmp (length commalist) (map (boxed commalist) r)

  passed : (b : Boxed Row) → In b (map (boxed commalist) (filter p (unpacked commalist r))) ↔ In b (filter q boxes)
  passed b =
      let image = unpacked_image heading commalist intervals r up shaped in
      let all = In-map (boxed commalist) b (filter p (unpacked commalist r)) in
      let kept = In-filter q b boxes in (
        λ i.
            let w = all.0 i in
            let v = (In-filter p w.0 (unpacked commalist r)).0 w.1 in
            kept.1 (subst (λ z. In z boxes) (sym w.2) (image.to w.0 v.0), ap q w.2 ∙ sym (same w.0 v.0) ∙ v.1),
        λ i.
            let k = kept.0 i in
            let w = image.from b k.0 in
            all.1 (w.0, (In-filter p w.0 (unpacked commalist r)).1 (w.1, same w.0 w.1 ∙ ap q (sym w.2) ∙ k.1), w.2),
      )

  points_have : AllHave (length commalist) (filter q boxes)
  points_have x m =
      let i = ((In-filter q x boxes).0 ((among_in x (filter q boxes)).0 m)).0 in
      ((in_unpacked_boxes row_cmp row_total row_separates (length commalist) (map (boxed commalist) r) (boxes_have heading commalist intervals r) x).0 ((among_in x boxes).1 i)).0

  pub filtered_rows : AreRowsOf heading commalist (packed commalist (filter p (unpacked commalist r))) (packed_boxes row_cmp (length commalist) (filter q (unpacked_boxes row_cmp (length commalist) (map (boxed commalist) r))))
  filtered_rows =
      closed_by_boxes heading commalist intervals (filter p (unpacked commalist r)) (Ascends-filter row_cmp p (unpacked commalist r) (unpacked_ascends heading commalist intervals r up shaped))
      (λ x i. (unpacked_image heading commalist intervals r up shaped).shaped x ((In-filter p x (unpacked commalist r)).0 i).0)
      (filter q boxes) points_have (same_places (map (boxed commalist) (filter p (unpacked commalist r))) (filter q boxes) passed)

module _ (left right : Heading) (names : List Name) (in_left : (n : Name) → In n names → IsTrue (has_name left n)) (in_right : (n : Name) → In n names → IsTrue (has_name right n))
    (kinds : (n : Name) → In n names → kind_at left (position_of left n) ≡ kind_at right (position_of right n))
    (intervals : AreIntervals left (map (position_of left) names)) (intervals' : AreIntervals right (map (position_of right) names))
    (r s : List Row) (up : Ascends row_cmp r) (up' : Ascends row_cmp s)
    (shaped : (x : Row) → In x r → IsShaped left (map (position_of left) names) x) (shaped' : (x : Row) → In x s → IsShaped right (map (position_of right) names) x) where
  abbrev here : List ℕ
  here = map (position_of left) names

  abbrev there : List ℕ
  there = map (position_of right) names

  abbrev here_key : List ℕ
  here_key = inner here (common_positions left left right)

  abbrev there_key : List ℕ
  there_key = inner there (common_positions right left right)

  abbrev lefts : List (Boxed Row)
  lefts = unpacked_boxes row_cmp (length here) (map (boxed here) r)

  abbrev rights : List (Boxed Row)
  rights = unpacked_boxes row_cmp (length there) (map (boxed there) s)

  -- an unpacked row agrees with some other where its box goes together with some other box
  found : (x : Row) → In x (unpacked here r) → list_any (agree left right x) (unpacked there s) ≡ list_any (meet here_key there_key (boxed here x)) rights
  found x i =
      let image = unpacked_image left here intervals r up shaped in
      let image' = unpacked_image right there intervals' s up' shaped' in
      let rows = list_any-In (agree left right x) (unpacked there s) in
      let points = list_any-In (meet here_key there_key (boxed here x)) rights in
      let alike = λ (y : Row) (j : In y (unpacked there s)). agree_meet left right names in_left in_right kinds x y (image.shaped x i) (image'.shaped y j) in
      same_tests (list_any (agree left right x) (unpacked there s)) (list_any (meet here_key there_key (boxed here x)) rights) (
        λ t. let w = rows.0 t in points.1 (boxed there w.0, image'.to w.0 w.1, (alike w.0 w.1).0 w.2),
        λ t.
            let w = points.0 t in
            let v = image'.from w.0 w.1 in
            rows.1 (v.0, v.1, (alike v.0 v.1).1 (subst (λ b. IsTrue (meet here_key there_key (boxed here x) b)) v.2 w.2)),
      )

  pub matched_rows : AreRowsOf left here (packed here (matched left right (unpacked here r) (unpacked there s))) (packed_boxes row_cmp (length here) (matched_boxes here_key there_key lefts rights))
  matched_rows =
      filtered_rows left here intervals r up shaped (λ x. list_any (agree left right x) (unpacked there s)) (λ b. list_any (meet here_key there_key b) rights) found

  pub unmatched_rows : AreRowsOf left here (packed here (unmatched left right (unpacked here r) (unpacked there s))) (packed_boxes row_cmp (length here) (unmatched_boxes here_key there_key lefts rights))
  unmatched_rows =
      filtered_rows left here intervals r up shaped (λ x. not (list_any (agree left right x) (unpacked there s))) (λ b. not (list_any (meet here_key there_key b) rights)) (λ x i. ap not (found x i))
