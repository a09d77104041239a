-- Rows are packed label by label: where two relations have the same places of a label, their packed forms have the same rows of it.
--     same_packed      so it is of a row with the label
--     known_packed, unknown_packed      rows of two relations, both unpacked, united and packed, by labels of the second
--     packed_known      where only rows with such labels are taken, there are no others
use Rattle.std.proofs.Common.{◌≡◌, ◌↔◌, ◌⊎◌, inl, inr, ℕ, ℤ, Bool, true, false, List, length, map, refl, sym, ap, ◌∙◌, subst}
use Rattle.std.specs.Bool.{IsTrue}
use Rattle.std.proofs.lemmas.Bool.{true≢false}
use Rattle.base_core.specs.Sets.{has, in_order}
use Rattle.base_core.proofs.SetLemmas.{In, Ascends, In-in_order}
use Rattle.base_core.proofs.MemberLemmas.{In-map, In-filter, has-In}
use Rattle.base_core.proofs.SetOperatorLemmas.{In-union_of, Ascends-union_of, Ascends-filter}
use Rattle.interval_core.specs.Members.{Span}
use Rattle.value_core.specs.Order.{row_total, row_separates}
use Rattle.value_core.specs.RowPacking.{attribute, packed, unpacked}
use Rattle.value_core.specs.Values.{Row, Heading, row_cmp}
use Rattle.relation_core.specs.Agreement.{part_of}
use Rattle.relation_core.specs.Growth.{touched}
use Rattle.relation_core.specs.Operators.{united}
use Rattle.relation_core.specs.Parts.{projected}
use Rattle.cell_packing.specs.Boxed.{Boxed, packed_boxes, sides_from, InBoxes}
use Rattle.cell_packing.specs.Covering.{Among}
use Rattle.cell_packing.specs.Packed.{firsts, packs, points_of}
use Rattle.cell_packing.proofs.PackedBoxes.{among_in, packs-iff, in_packed_form}
use Rattle.u_set.specs.Apart.{outside}
use Rattle.u_set.specs.Boxes.{AreIntervals, IsShaped, others, boxed, unboxed}
use Rattle.u_set.proofs.BoxLemmas.{all_alike, unboxed-boxed}
use Rattle.u_set.proofs.BridgeLemmas.{box_cmp, box_total, box_separates, boxes_have, opened_places, unpacked_image}
use Rattle.u_set.proofs.ImageLemmas.{IsImage, Ascends-pack, image-pack}
use Rattle.u_set.proofs.KeptLemmas.{part_outside}
use Rattle.u_constraints.proofs.GrownPackedLemmas.{no_packs}

module _ (heading : Heading) (commalist : List ℕ) (intervals : AreIntervals heading commalist) where
  abbrev pub IsSet : List Row → Type 0
  IsSet rows = Ascends row_cmp rows × ((x : Row) → In x rows → IsShaped heading commalist x)

  abbrev box : Row → Boxed Row
  box = boxed commalist

  abbrev form : List Row → List (Boxed Row)
  form rows = packed_boxes row_cmp (length commalist) (map box rows)

  -- the rows have a place of the label
  abbrev pub HasPlace : List Row → Row → List ℤ → Type 0
  HasPlace rows l place = InBoxes (map box rows) l place

  -- ---- one relation

  pub packed_image : (rows : List Row) → IsSet rows → IsImage (IsShaped heading commalist) box (packed commalist rows) (form rows)
  packed_image rows set =
      image-pack row_cmp row_total row_separates box_cmp box_total box_separates (IsShaped heading commalist) box (unboxed heading commalist) (unboxed-boxed heading commalist intervals)
      (map attribute commalist) (sides_from 0 (length commalist)) (all_alike heading commalist intervals) rows (in_order box_cmp (map box rows))
      (record {
        shaped = set.1;
        to = λ x i. (In-in_order box_cmp box_total box_separates (box x) (map box rows)).1 ((In-map box (box x) rows).1 (x, i, refl));
        from = λ y i. (In-map box y rows).0 ((In-in_order box_cmp box_total box_separates y (map box rows)).0 i);
      })

  pub packed_set : (rows : List Row) → IsSet rows → IsSet (packed commalist rows)
  packed_set rows set = (Ascends-pack row_cmp row_total row_separates (map attribute commalist) rows set.0, (packed_image rows set).shaped)

  in_form : (rows : List Row) (l : Row) (y : List Span) → In (l, y) (form rows) ↔ ((length y ≡ length commalist) × packs (length commalist) (points_of (HasPlace rows l)) y)
  in_form rows l y =
      let a = among_in (l, y) (form rows) in
      let m = in_packed_form box_cmp box_total box_separates (length commalist) (map box rows) (boxes_have heading commalist intervals rows) (l, y) in
      (λ i. m.0 (a.1 i), λ w. a.0 (m.1 w))

  -- a row whose box is in the form is one of the packed rows
  from_form : (rows : List Row) → IsSet rows → (x : Row) → IsShaped heading commalist x → In (box x) (form rows) → In x (packed commalist rows)
  from_form rows set x shaped i =
      let w = (packed_image rows set).from (box x) i in
      let same : x ≡ w.0 =
      sym (unboxed-boxed heading commalist intervals x shaped) ∙ ap (unboxed heading commalist) w.2 ∙ unboxed-boxed heading commalist intervals w.0 ((packed_image rows set).shaped w.0 w.1) in
      subst (λ (y : Row). In y (packed commalist rows)) (sym same) w.1

  -- a label of which there are no places has no packed rows
  pub none_packed : (rows : List Row) → IsSet rows → (x : Row) → ((place : List ℤ) → HasPlace rows (others commalist x) place → ⊥) → In x (packed commalist rows) → ⊥
  none_packed rows set x none i =
      let w = (in_form rows (others commalist x) (box x).1).0 ((packed_image rows set).to x i) in
      no_packs (length commalist) (points_of (HasPlace rows (others commalist x))) (λ z p. none (firsts z) p.1) (box x).1 w.1

  -- ---- two relations with the same places of a label

  into_packed : (r s : List Row) → IsSet r → IsSet s → (x : Row) → ((place : List ℤ) → HasPlace r (others commalist x) place ↔ HasPlace s (others commalist x) place) → In x (packed commalist r) → In x (packed commalist s)
  into_packed r s sr ss x same i =
      let l : Row = others commalist x in
      let y : List Span = (box x).1 in
      let w = (in_form r l y).0 ((packed_image r sr).to x i) in
      let points : (z : List Span) → points_of (HasPlace r l) z ↔ points_of (HasPlace s l) z = λ z. (
        λ p. (p.0, (same (firsts z)).0 p.1),
        λ p. (p.0, (same (firsts z)).1 p.1),
      ) in
      from_form s ss x ((packed_image r sr).shaped x i)
      ((in_form s l y).1 (w.0, packs-iff (length commalist) (length commalist) (points_of (HasPlace r l)) (points_of (HasPlace s l)) (λ z _. points z) y w.0 w.1))

  pub same_packed : (r s : List Row) → IsSet r → IsSet s → (x : Row) → ((place : List ℤ) → HasPlace r (others commalist x) place ↔ HasPlace s (others commalist x) place) → In x (packed commalist r) ↔ In x (packed commalist s)
  same_packed r s sr ss x same = (into_packed r s sr ss x same, into_packed s r ss sr x (λ place. ((same place).1, (same place).0)))

  -- ---- two relations unpacked and united

  abbrev pub both : List Row → List Row → List Row
  both r s = united (unpacked commalist r) (unpacked commalist s)

  pub both_set : (r s : List Row) → IsSet r → IsSet s → IsSet (both r s)
  both_set r s sr ss = (
    Ascends-union_of row_cmp row_total row_separates (unpacked commalist r) (unpacked commalist s),
    λ x i. elim ((In-union_of row_cmp row_total row_separates x (unpacked commalist r) (unpacked commalist s)).0 i) [
      | inl j ↦ (unpacked_image heading commalist intervals r sr.0 sr.1).shaped x j
      | inr j ↦ (unpacked_image heading commalist intervals s ss.0 ss.1).shaped x j
    ],
  )

  pub box_among : (rows : List Row) (l : Row) (y : List Span) → Among (l, y) (map box rows) ↔ ((x : Row) × In x rows × ((l, y) ≡ box x))
  box_among rows l y =
      let a = among_in (l, y) (map box rows) in
      let m = In-map box (l, y) rows in
      (λ i. m.0 (a.0 i), λ w. a.1 (m.1 w))

  -- their places are those of either
  pub both_places : (r s : List Row) → IsSet r → IsSet s → (l : Row) (place : List ℤ) → HasPlace (both r s) l place ↔ (HasPlace r l place ⊎ HasPlace s l place)
  both_places r s sr ss l place =
      let left = opened_places heading commalist intervals r sr.0 sr.1 l place in
      let right = opened_places heading commalist intervals s ss.0 ss.1 l place in
      let all = λ (x : Row). In-union_of row_cmp row_total row_separates x (unpacked commalist r) (unpacked commalist s) in (
        λ h.
            let w = (box_among (both r s) l h.0).0 h.1 in
            elim ((all w.0).0 w.1) [
              | inl i ↦ inl (left.0 (h.0, (box_among (unpacked commalist r) l h.0).1 (w.0, i, w.2), h.2))
              | inr i ↦ inr (right.0 (h.0, (box_among (unpacked commalist s) l h.0).1 (w.0, i, w.2), h.2))
            ],
        λ h. elim h [
          | inl g ↦
              let v = left.1 g in
              let w = (box_among (unpacked commalist r) l v.0).0 v.1 in
              (v.0, (box_among (both r s) l v.0).1 (w.0, (all w.0).1 (inl w.1), w.2), v.2)
          | inr g ↦
              let v = right.1 g in
              let w = (box_among (unpacked commalist s) l v.0).0 v.1 in
              (v.0, (box_among (both r s) l v.0).1 (w.0, (all w.0).1 (inr w.1), w.2), v.2)
        ],
      )

  -- ---- rows with the labels of some others

  module _ (value few : List Row) (sv : IsSet value) (sf : IsSet few) where
    -- whether a label is that of one of the few
    abbrev pub knows : Row → Bool
    knows l = has row_cmp (projected (outside commalist heading) few) l

    abbrev pub part : List Row
    part = touched (outside commalist heading) few value

    label_is : (x : Row) → IsShaped heading commalist x → part_of (outside commalist heading) x ≡ others commalist x
    label_is x shaped = part_outside commalist heading x shaped.long

    in_part : (x : Row) → In x part ↔ (In x value × IsTrue (knows (part_of (outside commalist heading) x)))
    in_part x = In-filter (λ y. knows (part_of (outside commalist heading) y)) x value

    pub part_known : (x : Row) → In x part ↔ (In x value × IsTrue (knows (others commalist x)))
    part_known x =
        let w = in_part x in (
          λ i. let v = w.0 i in (v.0, ap knows (sym (label_is x (sv.1 x v.0))) ∙ v.1),
          λ v. w.1 (v.0, ap knows (label_is x (sv.1 x v.0)) ∙ v.1),
        )

    pub part_set : IsSet part
    part_set = (Ascends-filter row_cmp (λ y. knows (part_of (outside commalist heading) y)) value sv.0, λ x i. sv.1 x ((in_part x).0 i).0)

    few_known : (x : Row) → In x few → IsTrue (knows (others commalist x))
    few_known x i =
        let l : Row = part_of (outside commalist heading) x in
        let known : IsTrue (knows l) =
        (has-In row_cmp row_total row_separates (projected (outside commalist heading) few) l).1
        ((In-in_order row_cmp row_total row_separates l (map (part_of (outside commalist heading)) few)).1 ((In-map (part_of (outside commalist heading)) l few).1 (x, i, refl))) in
        ap knows (sym (label_is x (sf.1 x i))) ∙ known

    label_of : (l : Row) (y : List Span) (x : Row) → (l, y) ≡ box x → l ≡ others commalist x
    label_of l y x e = ap (λ (b : Boxed Row). b.0) e

    -- the places of the few have known labels
    pub place_known : (l : Row) (place : List ℤ) → HasPlace few l place → IsTrue (knows l)
    place_known l place h =
        let w = (box_among few l h.0).0 h.1 in
        ap knows (label_of l h.0 w.0 w.2) ∙ few_known w.0 w.1

    part_place : (l : Row) (place : List ℤ) → HasPlace part l place ↔ (HasPlace value l place × IsTrue (knows l))
    part_place l place = (
      λ h.
          let w = (box_among part l h.0).0 h.1 in
          let v = (part_known w.0).0 w.1 in
          ((h.0, (box_among value l h.0).1 (w.0, v.0, w.2), h.2), ap knows (label_of l h.0 w.0 w.2) ∙ v.1),
      λ h.
          let w = (box_among value l h.0.0).0 h.0.1 in
          (h.0.0, (box_among part l h.0.0).1 (w.0, (part_known w.0).1 (w.1, ap knows (sym (label_of l h.0.0 w.0 w.2)) ∙ h.1), w.2), h.0.2),
    )

    -- rows with known labels are those that the rows with such labels give
    pub known_packed : (x : Row) → IsTrue (knows (others commalist x)) → In x (packed commalist (both value few)) ↔ In x (packed commalist (both part few))
    known_packed x known =
        let l : Row = others commalist x in
        same_packed (both value few) (both part few) (both_set value few sv sf) (both_set part few part_set sf) x (λ place.
        let all = both_places value few sv sf l place in
        let some = both_places part few part_set sf l place in (
          λ h. some.1 (elim (all.0 h) [ inl g ↦ inl ((part_place l place).1 (g, known)) | inr g ↦ inr g ]),
          λ h. all.1 (elim (some.0 h) [ inl g ↦ inl ((part_place l place).0 g).0 | inr g ↦ inr g ]),
        ))

    -- and the others are packed as they were
    pub unknown_packed : (x : Row) → knows (others commalist x) ≡ false → In x (packed commalist (both value few)) ↔ In x (packed commalist value)
    unknown_packed x unknown =
        let l : Row = others commalist x in
        same_packed (both value few) value (both_set value few sv sf) sv x (λ place.
        let all = both_places value few sv sf l place in (
          λ h. elim (all.0 h) [ inl g ↦ g | inr g ↦ absurd (true≢false (sym (place_known l place g) ∙ unknown)) ],
          λ h. all.1 (inl h),
        ))

    -- rows with known labels give no others
    pub packed_known : (x : Row) → In x (packed commalist (both part few)) → IsTrue (knows (others commalist x))
    packed_known x i =
        let l : Row = others commalist x in
        let some = λ (place : List ℤ). both_places part few part_set sf l place in
        elim (knows l) as (λ b. knows l ≡ b → IsTrue b) [
          | true ↦ λ e. refl
          | false ↦ λ e. absurd (none_packed (both part few) (both_set part few part_set sf) x (λ place h.
              elim ((some place).0 h) [
                | inl g ↦ true≢false (sym ((part_place l place).0 g).1 ∙ e)
                | inr g ↦ true≢false (sym (place_known l place g) ∙ e)
              ]) i)
        ] refl
