-- Rows that are packed, and other rows: those with the parts of the rows that come tell whether they still are. Boxes are packed label by
-- label, and the parts are the labels' or less. Some of the packed boxes of a label are packed.
use Rattle.std.proofs.Common.{◌≡◌, ◌↔◌, inl, inr, ℕ, zero, suc, Bool, true, false, not, List, [], ◌∷◌, map, length, get_or, set, refl, sym, ap, ◌∙◌, subst, arith, if◌then◌else◌}
use Rattle.std.specs.Bool.{IsTrue}
use Rattle.std.proofs.lemmas.Bool.{true≢false}
use Rattle.std.proofs.lemmas.Int.{ints}
use Rattle.base_core.specs.Sets.{in_order}
use Rattle.base_core.proofs.SetLemmas.{In, Ascends, In-in_order, Ascends-in_order, same_by_members}
use Rattle.base_core.proofs.MemberLemmas.{In-map}
use Rattle.base_core.proofs.SetOperatorLemmas.{same_tests}
use Rattle.interval_core.specs.Members.{Span, at_point}
use Rattle.value_core.specs.Attributes.{among}
use Rattle.value_core.specs.Order.{row_total, row_separates}
use Rattle.value_core.specs.Values.{Row, Heading, row_cmp}
use Rattle.relation_core.specs.Agreement.{part_of}
use Rattle.cell_packing.specs.Boxed.{Boxed, packed_boxes, InBoxes}
use Rattle.cell_packing.specs.Covering.{Among}
use Rattle.cell_packing.specs.Packed.{nowhere, packs, points_of}
use Rattle.cell_packing.proofs.PackedBoxes.{among_in, packs-iff, in_packed_form, packed_ascends}
use Rattle.cell_core.proofs.PackedGridPoints.{AllHave}
use Rattle.u_set.specs.Boxes.{AreIntervals, IsShaped, others, boxed}
use Rattle.u_set.proofs.BridgeLemmas.{box_cmp, box_total, box_separates, boxes_have}
use Rattle.u_row.specs.Kept.{unlisted, inner}
use Rattle.u_row.proofs.LabelLemmas.{inner_values}
use Rattle.u_constraints.specs.Constraints.{is_packed}
use Rattle.u_constraints.proofs.AgreementLemmas.{no_value}
use Rattle.u_constraints.proofs.FewerLemmas.{fewer_packed}
use Rattle.u_constraints.proofs.PackedLemmas.{packed_iff}
use Rattle.u_constraints.proofs.TouchedLemmas.{IsTouched, touched_map}

-- ---- boxes, label by label

-- nothing is packed of nothing
pub no_packs : (k : ℕ) (r : List Span → Type 0) → ((z : List Span) → r z → ⊥) → (y : List Span) → packs k r y → ⊥
no_packs zero r none y h = none y h
no_packs (suc k) r none y h =
    let i : Span = get_or y k nowhere in
    let some = h.some in
    no_packs k r none (set y k (at_point i.0)) (h.each i.0 (omega (arith, ints)) some)

module _ (k : ℕ) where
  -- the boxes of one label in two lists are the same
  abbrev SameAt : Row → List (Boxed Row) → List (Boxed Row) → Type 0
  SameAt l r s = (y : List Span) → In (l, y) r ↔ In (l, y) s

  -- the boxes of one label are the packed ones
  abbrev pub IsFixed : Row → List (Boxed Row) → Type 0
  IsFixed l r = (y : List Span) → In (l, y) (in_order box_cmp r) ↔ In (l, y) (packed_boxes row_cmp k r)

  pub own : (r : List (Boxed Row)) (l : Row) (y : List Span) → In (l, y) (in_order box_cmp r) ↔ In (l, y) r
  own r l y = In-in_order box_cmp box_total box_separates (l, y) r

  pub in_packed : (r : List (Boxed Row)) → AllHave k r → (l : Row) (y : List Span) → In (l, y) (packed_boxes row_cmp k r) ↔ ((length y ≡ k) × packs k (points_of (InBoxes r l)) y)
  in_packed r have l y =
      let a = among_in (l, y) (packed_boxes row_cmp k r) in
      let m = in_packed_form box_cmp box_total box_separates k r have (l, y) in
      (λ i. m.0 (a.1 i), λ w. a.0 (m.1 w))

  points_at : (l : Row) (r s : List (Boxed Row)) → SameAt l r s → (z : List Span) → points_of (InBoxes r l) z → points_of (InBoxes s l) z
  points_at l r s h z w = (w.0, (w.1.0, (among_in (l, w.1.0) s).1 ((h w.1.0).0 ((among_in (l, w.1.0) r).0 w.1.1)), w.1.2))

  turned : (l : Row) (r s : List (Boxed Row)) → SameAt l r s → SameAt l s r
  turned l r s h y = ((h y).1, (h y).0)

  into_packed : (l : Row) (r s : List (Boxed Row)) → AllHave k r → AllHave k s → SameAt l r s → (y : List Span) → In (l, y) (packed_boxes row_cmp k r) → In (l, y) (packed_boxes row_cmp k s)
  into_packed l r s hr hs h y i =
      let w = (in_packed r hr l y).0 i in
      (in_packed s hs l y).1 (w.0, packs-iff k k (points_of (InBoxes r l)) (points_of (InBoxes s l)) (λ z _. (points_at l r s h z, points_at l s r (turned l r s h) z)) y w.0 w.1)

  fixed_moves : (l : Row) (r s : List (Boxed Row)) → AllHave k r → AllHave k s → SameAt l r s → IsFixed l r → IsFixed l s
  fixed_moves l r s hr hs h f y = (
    λ i. into_packed l r s hr hs h y ((f y).0 ((own r l y).1 ((h y).1 ((own s l y).0 i)))),
    λ i. (own s l y).1 ((h y).0 ((own r l y).0 ((f y).1 (into_packed l s r hs hr (turned l r s h) y i)))),
  )

  -- some of the packed boxes of a label are packed
  fixed_fewer : (l : Row) (r s : List (Boxed Row)) → AllHave k r → AllHave k s → ((y : List Span) → In (l, y) s → In (l, y) r) → IsFixed l r → IsFixed l s
  fixed_fewer l r s hr hs within f y =
      let here : (z : List Span) (q : List (Boxed Row)) → Among (l, z) q ↔ In (l, z) q = λ z q. among_in (l, z) q in
      let form : List (Boxed Row) → List (Boxed Row) = packed_boxes row_cmp k in
      let some = fewer_packed row_cmp row_total row_separates k l r s hr hs
      (λ z i. (here z r).1 (within z ((here z s).0 i)))
      (λ z i. (here z (form r)).1 ((f z).0 ((own r l z).1 ((here z r).0 i)))) y in (
        λ i. (here y (form s)).0 (some.0 ((here y s).1 ((own s l y).0 i))),
        λ i. (own s l y).1 ((here y s).0 (some.1 ((here y (form s)).1 i))),
      )

  none_fixed : (l : Row) (r : List (Boxed Row)) → AllHave k r → ((y : List Span) → In (l, y) r → ⊥) → IsFixed l r
  none_fixed l r have none y = (
    λ i. absurd (none y ((own r l y).0 i)),
    λ i. absurd (no_packs k (points_of (InBoxes r l)) (λ z w. none w.1.0 ((among_in (l, w.1.0) r).0 w.1.1)) y ((in_packed r have l y).0 i).1),
  )

  -- the boxes are those that they are packed to
  abbrev pub ArePacked : List (Boxed Row) → Type 0
  ArePacked r = in_order box_cmp r ≡ packed_boxes row_cmp k r

  pub each_fixed : (r : List (Boxed Row)) → ArePacked r → (l : Row) → IsFixed l r
  each_fixed r e l y = (λ i. subst (λ (s : List (Boxed Row)). In (l, y) s) e i, λ i. subst (λ (s : List (Boxed Row)). In (l, y) s) (sym e) i)

  pub all_fixed : (r : List (Boxed Row)) → ((l : Row) → IsFixed l r) → ArePacked r
  all_fixed r f =
      same_by_members box_cmp box_total box_separates (in_order box_cmp r) (packed_boxes row_cmp k r)
      (Ascends-in_order box_cmp box_total box_separates r) (packed_ascends box_cmp box_total box_separates k r) (λ x. f x.0 x.1)

  -- some of packed boxes are packed
  pub fewer_boxes : (r s : List (Boxed Row)) → AllHave k r → AllHave k s → ((x : Boxed Row) → In x s → In x r) → ArePacked r → ArePacked s
  fewer_boxes r s hr hs within e = all_fixed s (λ l. fixed_fewer l r s hr hs (λ y i. within (l, y) i) (each_fixed r e l))

  module _ {Y : Type 0} (g : Row → Y) (test : Y → Bool) (old all few : List (Boxed Row)) (is : IsTouched (λ (b : Boxed Row). g b.0) test old all few)
      (have_old : AllHave k old) (have_all : AllHave k all) (have_few : AllHave k few) (held : ArePacked old) where
    same_few : (l : Row) → test (g l) ≡ true → SameAt l few all
    same_few l t y = (λ i. ((is.touched (l, y)).0 i).0, λ i. (is.touched (l, y)).1 (i, t))

    -- where the old boxes are packed, all are exactly where the touched ones are
    pub boxes_of_touched : ArePacked all ↔ ArePacked few
    boxes_of_touched = (
      λ e. all_fixed few (λ l. elim (test (g l)) as (λ b. test (g l) ≡ b → IsFixed l few) [
        | true ↦ λ t. fixed_moves l all few have_all have_few (turned l few all (same_few l t)) (each_fixed all e l)
        | false ↦ λ t. none_fixed l few have_few (λ y i. true≢false (sym ((is.touched (l, y)).0 i).1 ∙ t))
      ] refl),
      λ e. all_fixed all (λ l. elim (test (g l)) as (λ b. test (g l) ≡ b → IsFixed l all) [
        | true ↦ λ t. fixed_moves l few all have_few have_all (same_few l t) (each_fixed few e l)
        | false ↦ λ t. fixed_fewer l old all have_old have_all (λ y i. is.rest (l, y) i t) (each_fixed old held l)
      ] refl),
    )

-- ---- rows

unlisted_all : (commalist positions : List ℕ) → ((i : ℕ) → In i positions → among commalist i ≡ false) → unlisted commalist positions ≡ positions
unlisted_all commalist [] outside = refl
unlisted_all commalist (i ∷ positions) outside =
    ap (λ b. if not b then i ∷ unlisted commalist positions else unlisted commalist positions) (outside i (inl refl)) ∙ ap (λ (is : List ℕ). i ∷ is) (unlisted_all commalist positions (λ k m. outside k (inr m)))

abbrev pub IsSet : Heading → List ℕ → List Row → Type 0
IsSet heading commalist rows = Ascends row_cmp rows × ((x : Row) → In x rows → IsShaped heading commalist x)

-- some of packed rows are packed
pub prepacked : (heading : Heading) (commalist : List ℕ) → AreIntervals heading commalist → (old rows : List Row) → IsSet heading commalist old → IsSet heading commalist rows → ((x : Row) → In x rows → In x old)
    → is_packed commalist old ≡ true → is_packed commalist rows ≡ true
prepacked heading commalist intervals old rows so sr within held =
    let have = boxes_have heading commalist intervals in
    let boxes : (b : Boxed Row) → In b (map (boxed commalist) rows) → In b (map (boxed commalist) old) = λ b i.
    let w = (In-map (boxed commalist) b rows).0 i in
    (In-map (boxed commalist) b old).1 (w.0, within w.0 w.1, w.2) in
    (packed_iff heading commalist intervals rows sr.0 sr.1).1
    (fewer_boxes (length commalist) (map (boxed commalist) old) (map (boxed commalist) rows) (have old) (have rows) boxes ((packed_iff heading commalist intervals old so.0 so.1).0 held))

module _ (heading : Heading) (commalist : List ℕ) (intervals : AreIntervals heading commalist) (positions : List ℕ) (outside : (i : ℕ) → In i positions → among commalist i ≡ false) (test : Row → Bool) where
  -- a part of other positions is one of the label
  pub label_part : (x : Row) → part_of (inner commalist positions) (others commalist x) ≡ part_of positions x
  label_part x = inner_values commalist positions x no_value ∙ ap (λ (is : List ℕ). part_of is x) (unlisted_all commalist positions outside)

  -- where the old rows are packed, all are exactly where the touched ones are
  pub packed_of_touched : (old all few : List Row) → IsSet heading commalist old → IsSet heading commalist all → IsSet heading commalist few → IsTouched (part_of positions) test old all few → is_packed commalist old ≡ true → is_packed commalist all ≡ is_packed commalist few
  packed_of_touched old all few so sa sf is held =
      let told : (rows : List Row) → IsSet heading commalist rows → IsTrue (is_packed commalist rows) ↔ ArePacked (length commalist) (map (boxed commalist) rows) = λ rows s. packed_iff heading commalist intervals rows s.0 s.1 in
      let both = boxes_of_touched (length commalist) (part_of (inner commalist positions)) test (map (boxed commalist) old) (map (boxed commalist) all) (map (boxed commalist) few)
      (touched_map (part_of positions) test old all few is (boxed commalist) (λ b. part_of (inner commalist positions) b.0) label_part)
      (boxes_have heading commalist intervals old) (boxes_have heading commalist intervals all) (boxes_have heading commalist intervals few) ((told old so).0 held) in
      same_tests _ _ (λ t. (told few sf).1 (both.0 ((told all sa).0 t)), λ t. (told all sa).1 (both.1 ((told few sf).0 t)))
