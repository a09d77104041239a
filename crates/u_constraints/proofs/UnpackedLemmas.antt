-- Keys and references of unpacked rows, by their boxes.
use Rattle.std.proofs.Common.{◌≡◌, ◌↔◌, true, ℕ, ℤ, List, [], ◌∷◌, map, length, refl, sym, ap, ◌∙◌, subst, nat_eq, Bool}
use Rattle.std.specs.Bool.{IsTrue}
use Rattle.std.specs.List.{IsDistinct}
use Rattle.std.proofs.lemmas.List.{length-map}
use Rattle.base_core.specs.Sets.{is_within}
use Rattle.base_core.proofs.SetLemmas.{In, Ascends, In-in_order}
use Rattle.base_core.proofs.MemberLemmas.{In-map}
use Rattle.base_core.proofs.SetOperatorLemmas.{same_tests, is_within-In}
use Rattle.interval_core.specs.Members.{Span, at_point}
use Rattle.value_core.specs.Order.{row_total, row_separates}
use Rattle.value_core.specs.RowPacking.{unpacked}
use Rattle.value_core.specs.Values.{Row, Heading, row_cmp}
use Rattle.relation_core.specs.Agreement.{part_of}
use Rattle.relation_core.specs.Parts.{projected}
use Rattle.cell_packing.specs.Boxed.{Boxed, boxed_cmp, unpacked_boxes, InBoxes}
use Rattle.cell_packing.specs.Packed.{ArePoints, firsts}
use Rattle.cell_packing.proofs.PackedBoxes.{among_in}
use Rattle.cell_core.proofs.PackedGridPoints.{AllHave, grid_point_length}
use Rattle.cell_core.proofs.UnpackedLemmas.{firsts_at, are_points, length_at, in_unpacked_boxes, within_iff}
use Rattle.meaning_core.specs.WellMade.{AreAlike, AreAmong}
use Rattle.u_set.specs.Boxes.{AreIntervals, IsShaped, others, spans_at, boxed, unboxed}
use Rattle.u_set.proofs.BoxLemmas.{unboxed-boxed}
use Rattle.u_set.proofs.BridgeLemmas.{boxes_have, unpacked_image}
use Rattle.u_set.proofs.PlaceLemmas.{opened_at, opened_shaped}
use Rattle.u_row.specs.Kept.{inner}
use Rattle.u_row.specs.Labels.{relabelled}
use Rattle.u_row.proofs.PlaceLemmas.{places_relabelled, relabelled_have}
use Rattle.u_constraints.specs.Constraints.{counterpart, is_key, is_referenced}
use Rattle.u_constraints.specs.Places.{IsKeyAt}
use Rattle.u_constraints.proofs.AgreementLemmas.{sides_agree, labels_agree, boxes_agree}
use Rattle.u_constraints.proofs.CounterpartLemmas.{alike_itself, own_list}
use Rattle.u_constraints.proofs.KeyLemmas.{AgreeOnce, is_key-AgreeOnce}

-- ---- boxes of one place each

points_same : (y : List Span) → ArePoints y → y ≡ map at_point (firsts y)
points_same [] a = refl
points_same (i ∷ is) a =
    let more = points_same is a.1 in
    λ t. (i.0, sym a.0 t) ∷ more t

-- ---- the unpacked rows of one relation

module _ (heading : Heading) (commalist : List ℕ) (intervals : AreIntervals heading commalist) (rows : List Row) (up : Ascends row_cmp rows) (shaped : (x : Row) → In x rows → IsShaped heading commalist x) where
  abbrev Opened : List Row
  Opened = unpacked commalist rows

  abbrev boxes : List (Boxed Row)
  boxes = map (boxed commalist) rows

  -- each label at a place is that of an unpacked row there
  row_there : (l : Row) (place : List ℤ) → InBoxes boxes l place → (x : Row) × In x Opened × (others commalist x ≡ l) × (spans_at commalist x ≡ map at_point place)
  row_there l place g =
      let have = boxes_have heading commalist intervals rows in
      let m = (in_unpacked_boxes row_cmp row_total row_separates (length commalist) boxes have (l, map at_point place)).1
      (length_at place ∙ grid_point_length (length commalist) boxes have l place g, (are_points place, subst (InBoxes boxes l) (sym (firsts_at place)) g)) in
      let w = (unpacked_image heading commalist intervals rows up shaped).from (l, map at_point place) ((among_in (l, map at_point place) (unpacked_boxes row_cmp (length commalist) boxes)).0 m) in
      (w.0, w.1, sym (ap (λ (b : Boxed Row). b.0) w.2), sym (ap (λ (b : Boxed Row). b.1) w.2))

  -- and the other way round
  label_there : (x : Row) → In x Opened → InBoxes boxes (others commalist x) (firsts (spans_at commalist x))
  label_there x i = ((opened_at heading commalist intervals rows up shaped x (opened_shaped heading commalist intervals rows up shaped x i)).0 i).1

  points_there : (x : Row) → In x Opened → spans_at commalist x ≡ map at_point (firsts (spans_at commalist x))
  points_there x i = points_same (spans_at commalist x) ((opened_at heading commalist intervals rows up shaped x (opened_shaped heading commalist intervals rows up shaped x i)).0 i).0

  shape_there : (x : Row) → In x Opened → IsShaped heading commalist x
  shape_there x i = opened_shaped heading commalist intervals rows up shaped x i

  -- ---- a key

  module _ (key : List ℕ) (lies : AreAmong key commalist) (d : IsDistinct nat_eq key) where
    abbrev alike : AreAlike heading key heading key
    alike = alike_itself heading key

    sides : (x y : Row) → part_of key x ≡ part_of key y → spans_at commalist x ≡ spans_at commalist y
    sides x y e = subst (λ (a : List ℕ). spans_at commalist x ≡ spans_at a y) (sym (own_list key commalist)) (sides_agree heading heading key key commalist alike lies d d x y e)

    labels : (x y : Row) → part_of key x ≡ part_of key y → part_of (inner commalist key) (others commalist x) ≡ part_of (inner commalist key) (others commalist y)
    labels x y e =
        subst (λ (a : List ℕ). part_of (inner commalist key) (others commalist x) ≡ part_of (inner a key) (others a y)) (sym (own_list key commalist)) (labels_agree heading heading key key commalist alike lies d d x y e)

    agree : (x y : Row) → IsShaped heading commalist x → IsShaped heading commalist y → spans_at commalist x ≡ spans_at commalist y → part_of (inner commalist key) (others commalist x) ≡ part_of (inner commalist key) (others commalist y) → part_of key x ≡ part_of key y
    agree x y =
        subst (λ (a : List ℕ). IsShaped heading commalist x → IsShaped heading a y → spans_at commalist x ≡ spans_at a y → part_of (inner commalist key) (others commalist x) ≡ part_of (inner a key) (others a y) → part_of key x ≡ part_of key y)
        (sym (own_list key commalist)) (boxes_agree heading heading key key commalist alike lies d d x y)

    told : AgreeOnce key Opened → IsKeyAt (inner commalist key) boxes
    told h l m place a b e =
        let x = row_there l place a in
        let y = row_there m place b in
        let parts : part_of (inner commalist key) (others commalist x.0) ≡ part_of (inner commalist key) (others commalist y.0) = ap (part_of (inner commalist key)) x.2 ∙ e ∙ sym (ap (part_of (inner commalist key)) y.2) in
        let same : x.0 ≡ y.0 = h x.0 y.0 x.1 y.1 (agree x.0 y.0 (shape_there x.0 x.1) (shape_there y.0 y.1) (x.3 ∙ sym y.3) parts) in
        sym x.2 ∙ ap (others commalist) same ∙ y.2

    once : IsKeyAt (inner commalist key) boxes → AgreeOnce key Opened
    once h x y i j e =
        let spans = sides x y e in
        let at : InBoxes boxes (others commalist y) (firsts (spans_at commalist x)) = subst (λ s. InBoxes boxes (others commalist y) (firsts s)) (sym spans) (label_there y j) in
        let label : others commalist x ≡ others commalist y = h (others commalist x) (others commalist y) (firsts (spans_at commalist x)) (label_there x i) at (labels x y e) in
        let box : boxed commalist x ≡ boxed commalist y = λ t. (label t, spans t) in
        sym (unboxed-boxed heading commalist intervals x (shape_there x i)) ∙ ap (unboxed heading commalist) box ∙ unboxed-boxed heading commalist intervals y (shape_there y j)

    -- the unpacked rows have the key exactly where the labels at a place are told apart by their other values of it
    pub key_told : (kept : Bool) → IsTrue kept ↔ IsKeyAt (inner commalist key) boxes → kept ≡ is_key key Opened
    key_told kept h =
        let k = is_key-AgreeOnce key Opened in
        same_tests kept (is_key key Opened) (λ t. k.1 (once (h.0 t)), λ t. h.1 (told (k.0 t)))

-- ---- a reference

module _ (h g : Heading) (here there commalist : List ℕ) (alike : AreAlike h here g there) (lies : AreAmong here commalist) (d : IsDistinct nat_eq here) (d' : IsDistinct nat_eq there)
    (intervals : AreIntervals h commalist) (intervals' : AreIntervals g (map (counterpart here there) commalist)) (rows others' : List Row) (up : Ascends row_cmp rows) (up' : Ascends row_cmp others')
    (shaped : (x : Row) → In x rows → IsShaped h commalist x) (shaped' : (x : Row) → In x others' → IsShaped g (map (counterpart here there) commalist) x) where
  abbrev commalist' : List ℕ
  commalist' = map (counterpart here there) commalist

  abbrev lefts : List (Boxed Row)
  lefts = map (relabelled (part_of (inner commalist here))) (map (boxed commalist) rows)

  abbrev rights : List (Boxed Row)
  rights = map (relabelled (part_of (inner commalist' there))) (map (boxed commalist') others')

  abbrev Within : Type 0
  Within = (l : Row) (place : List ℤ) → InBoxes lefts l place → InBoxes rights l place

  abbrev Among' : Type 0
  Among' = (z : Row) → In z (projected here (unpacked commalist rows)) → In z (projected there (unpacked commalist' others'))

  in_projected : (positions : List ℕ) (z : Row) (r : List Row) → In z (projected positions r) ↔ ((x : Row) × In x r × (z ≡ part_of positions x))
  in_projected positions z r =
      let a = In-in_order row_cmp row_total row_separates z (map (part_of positions) r) in
      let b = In-map (part_of positions) z r in
      (λ i. b.0 (a.0 i), λ w. a.1 (b.1 w))

  from_places : Within → Among'
  from_places w z i =
      let x = (in_projected here z (unpacked commalist rows)).0 i in
      let spans = points_there h commalist intervals rows up shaped x.0 x.1 in
      let place = firsts (spans_at commalist x.0) in
      let l = part_of (inner commalist here) (others commalist x.0) in
      let right = w l place ((places_relabelled (part_of (inner commalist here)) (map (boxed commalist) rows) l place).1 (others commalist x.0, refl, label_there h commalist intervals rows up shaped x.0 x.1)) in
      let m = (places_relabelled (part_of (inner commalist' there)) (map (boxed commalist') others') l place).0 right in
      let y = row_there g commalist' intervals' others' up' shaped' m.0 place m.2 in
      let same : part_of here x.0 ≡ part_of there y.0 =
      boxes_agree h g here there commalist alike lies d d' x.0 y.0 (shape_there h commalist intervals rows up shaped x.0 x.1) (shape_there g commalist' intervals' others' up' shaped' y.0 y.1)
      (spans ∙ sym y.3) (sym m.1 ∙ sym (ap (part_of (inner commalist' there)) y.2)) in
      (in_projected there z (unpacked commalist' others')).1 (y.0, y.1, x.2 ∙ same)

  from_rows : Among' → Within
  from_rows w l place i =
      let m = (places_relabelled (part_of (inner commalist here)) (map (boxed commalist) rows) l place).0 i in
      let x = row_there h commalist intervals rows up shaped m.0 place m.2 in
      let z = part_of here x.0 in
      let y = (in_projected there z (unpacked commalist' others')).0 (w z ((in_projected here z (unpacked commalist rows)).1 (x.0, x.1, refl))) in
      let spans : spans_at commalist' y.0 ≡ map at_point place = sym (sides_agree h g here there commalist alike lies d d' x.0 y.0 y.2) ∙ x.3 in
      let at : InBoxes (map (boxed commalist') others') (others commalist' y.0) place = subst (InBoxes (map (boxed commalist') others') (others commalist' y.0)) (ap firsts spans ∙ firsts_at place) (label_there g commalist' intervals' others' up' shaped' y.0 y.1) in
      let label : part_of (inner commalist' there) (others commalist' y.0) ≡ l = sym (labels_agree h g here there commalist alike lies d d' x.0 y.0 y.2) ∙ ap (part_of (inner commalist here)) x.2 ∙ m.1 in
      (places_relabelled (part_of (inner commalist' there)) (map (boxed commalist') others') l place).1 (others commalist' y.0, label, at)

  -- so the rows are referred to where the boxes have no other labels at any place
  pub referred_at_places : Within → is_referenced commalist here there rows others' ≡ true
  referred_at_places w = (is_within-In row_cmp row_total row_separates (projected here (unpacked commalist rows)) (projected there (unpacked commalist' others'))).1 (from_places w)

  -- the parts of the unpacked rows are among those of the others where the boxes under these parts are within those of the others
  pub reference_told : is_within (boxed_cmp row_cmp) (unpacked_boxes row_cmp (length commalist) lefts) (unpacked_boxes row_cmp (length commalist) rights) ≡ is_referenced commalist here there rows others'
  reference_told =
      let hl : AllHave (length commalist) lefts = relabelled_have (part_of (inner commalist here)) (length commalist) (map (boxed commalist) rows) (boxes_have h commalist intervals rows) in
      let hr : AllHave (length commalist) rights =
      subst (λ n. AllHave n rights) (length-map commalist (counterpart here there)) (relabelled_have (part_of (inner commalist' there)) (length commalist') (map (boxed commalist') others') (boxes_have g commalist' intervals' others')) in
      let a = within_iff row_cmp row_total row_separates (length commalist) lefts rights hl hr in
      let b = is_within-In row_cmp row_total row_separates (projected here (unpacked commalist rows)) (projected there (unpacked commalist' others')) in
      same_tests _ _ (λ t. b.1 (from_places (a.0 t)), λ t. a.1 (from_rows (b.0 t)))
