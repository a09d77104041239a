-- The places of points that go together, by the places of the boxes.
use Rattle.std.proofs.Common.{◌≡◌, ◌↔◌, ℕ, ℤ, Bool, true, false, not, List, length, map, refl, sym, ap, ◌∙◌, subst}
use Rattle.std.specs.Bool.{IsTrue}
use Rattle.std.specs.List.{filter, list_any}
use Rattle.std.proofs.lemmas.Bool.{true≢false}
use Rattle.base_core.proofs.SetLemmas.{In}
use Rattle.base_core.proofs.MemberLemmas.{In-map, In-filter, In-flat_map, list_any-In, eq_by_cmp-≡}
use Rattle.interval_core.specs.Members.{Span, at_point}
use Rattle.value_core.specs.Order.{row_total, row_separates}
use Rattle.value_core.specs.Values.{Row, row_cmp}
use Rattle.relation_core.specs.Agreement.{part_of}
use Rattle.cell_packing.specs.Boxed.{Boxed, unpacked_boxes, InBoxes}
use Rattle.cell_packing.specs.Packed.{Has}
use Rattle.cell_packing.proofs.PackedBoxes.{among_in}
use Rattle.cell_core.proofs.PackedGridPoints.{AllHave, grid_point_length}
use Rattle.cell_core.proofs.UnpackedLemmas.{firsts_at, are_points, length_at, in_unpacked_boxes}
use Rattle.cell_core.proofs.UnpackedGridPoints.{has_grid_point, unpacked_grid_points}
use Rattle.u_set.proofs.BridgeLemmas.{box_cmp, box_total, box_separates}
use Rattle.u_set.proofs.PlaceLemmas.{points_are}
use Rattle.u_row.specs.Labels.{relabelled}
use Rattle.u_join.specs.Pairs.{meet, matched_boxes, unmatched_boxes, joined_box, joined_boxes, HasPartner, IsMatchedAt, IsUnmatchedAt, IsJoinedAt}

module _ (k : ℕ) (r : List (Boxed Row)) (have : AllHave k r) where
  abbrev points : List (Boxed Row)
  points = unpacked_boxes row_cmp k r

  -- where the boxes have a label, the box of the point is one of the unpacked ones
  at_points : (l : Row) (p : List ℤ) → InBoxes r l p → In (l, map at_point p) points
  at_points l p g =
      (among_in (l, map at_point p) points).0
      ((in_unpacked_boxes row_cmp row_total row_separates k r have (l, map at_point p)).1 (length_at p ∙ grid_point_length k r have l p g, (are_points p, subst (InBoxes r l) (sym (firsts_at p)) g)))

  from_points : (l : Row) (p : List ℤ) (y : List Span) → In (l, y) points → Has y p → InBoxes r l p
  from_points l p y i b = (unpacked_grid_points row_cmp row_total row_separates k r have l p).0 (y, (among_in (l, y) points).1 i, b)

  -- and no other has the place
  is_point : (l : Row) (p : List ℤ) (y : List Span) → In (l, y) points → Has y p → y ≡ map at_point p
  is_point l p y i b = points_are y p ((in_unpacked_boxes row_cmp row_total row_separates k r have (l, y)).0 ((among_in (l, y) points).1 i)).1.0 b

  pub points_long : (x : Boxed Row) → In x points → length x.1 ≡ k
  points_long x i = ((in_unpacked_boxes row_cmp row_total row_separates k r have x).0 ((among_in x points).1 i)).0

module _ (here there : List ℕ) (k : ℕ) (left right : List (Boxed Row)) (hl : AllHave k left) (hr : AllHave k right) where
  abbrev lefts : List (Boxed Row)
  lefts = unpacked_boxes row_cmp k left

  abbrev rights : List (Boxed Row)
  rights = unpacked_boxes row_cmp k right

  -- two boxes go together where the parts of their labels and their sides are the same
  meets : (x y : Boxed Row) → IsTrue (meet here there x y) ↔ ((part_of here x.0 ≡ part_of there y.0) × (x.1 ≡ y.1))
  meets x y =
      let w = eq_by_cmp-≡ box_cmp box_total box_separates (relabelled (part_of here) x) (relabelled (part_of there) y) in (
        λ t. (ap (λ p. p.0) (w.0 t), ap (λ p. p.1) (w.0 t)),
        λ h. w.1 (let a = h.0 in let b = h.1 in λ t. (a t, b t)),
      )

  -- at a place a box of the point goes together with some right one where some right label has its part there
  found_at : (l : Row) (p : List ℤ) (y : List Span) → y ≡ map at_point p → IsTrue (list_any (meet here there (l, y)) rights) ↔ HasPartner here there (λ m. InBoxes right m p) l
  found_at l p y is =
      let any = list_any-In (meet here there (l, y)) rights in (
        λ t.
            let w = any.0 t in
            let e = (meets (l, y) w.0).0 w.2 in
            let has : Has (w.0).1 p = subst (λ z. Has z p) (sym is ∙ e.1) (has_grid_point p) in
            ((w.0).0, from_points k right hr (w.0).0 p (w.0).1 w.1 has, e.0),
        λ h. any.1 ((h.0, map at_point p), at_points k right hr h.0 p h.1, (meets (l, y) (h.0, map at_point p)).1 (h.2, is)),
      )

  pub places_matched : (l : Row) (p : List ℤ) → InBoxes (matched_boxes here there lefts rights) l p ↔ IsMatchedAt here there (λ a. InBoxes left a p) (λ b. InBoxes right b p) l
  places_matched l p = (
    λ w.
        let i = (In-filter (λ x. list_any (meet here there x) rights) (l, w.0) lefts).0 ((among_in (l, w.0) (matched_boxes here there lefts rights)).0 w.1) in
        let e = is_point k left hl l p w.0 i.0 w.2 in
        (from_points k left hl l p w.0 i.0 w.2, (found_at l p w.0 e).0 i.1),
    λ h. (
      map at_point p,
      (among_in (l, map at_point p) (matched_boxes here there lefts rights)).1 ((In-filter (λ x. list_any (meet here there x) rights) (l, map at_point p) lefts).1 (at_points k left hl l p h.0, (found_at l p (map at_point p) refl).1 h.1)),
      has_grid_point p,
    ),
  )

  not_is : (b : Bool) → (IsTrue (not b)) ↔ (IsTrue b → ⊥)
  not_is true = (λ e. absurd (true≢false (sym e)), λ h. absurd (h refl))
  not_is false = (λ e f. true≢false (sym f), λ h. refl)

  pub places_unmatched : (l : Row) (p : List ℤ) → InBoxes (unmatched_boxes here there lefts rights) l p ↔ IsUnmatchedAt here there (λ a. InBoxes left a p) (λ b. InBoxes right b p) l
  places_unmatched l p = (
    λ w.
        let i = (In-filter (λ x. not (list_any (meet here there x) rights)) (l, w.0) lefts).0 ((among_in (l, w.0) (unmatched_boxes here there lefts rights)).0 w.1) in
        let e = is_point k left hl l p w.0 i.0 w.2 in
        (from_points k left hl l p w.0 i.0 w.2, λ f. (not_is (list_any (meet here there (l, w.0)) rights)).0 i.1 ((found_at l p w.0 e).1 f)),
    λ h. (
      map at_point p,
      (among_in (l, map at_point p) (unmatched_boxes here there lefts rights)).1 ((In-filter (λ x. not (list_any (meet here there x) rights)) (l, map at_point p) lefts).1 (
        at_points k left hl l p h.0,
        (not_is (list_any (meet here there (l, map at_point p)) rights)).1 (λ t. h.1 ((found_at l p (map at_point p) refl).0 t)),
      )),
      has_grid_point p,
    ),
  )

  filter_have : (q : Boxed Row → Bool) → AllHave k (filter q lefts)
  filter_have q x m = points_long k left hl x ((In-filter q x lefts).0 ((among_in x (filter q lefts)).0 m)).0

  pub matched_have : AllHave k (matched_boxes here there lefts rights)
  matched_have = filter_have (λ x. list_any (meet here there x) rights)

  pub unmatched_have : AllHave k (unmatched_boxes here there lefts rights)
  unmatched_have = filter_have (λ x. not (list_any (meet here there x) rights))

  module _ (f : Row → Row → Row) where
    in_joined : (x : Boxed Row) → In x (joined_boxes here there f lefts rights)
        ↔ ((a : Boxed Row) × (b : Boxed Row) × In a lefts × In b rights × IsTrue (meet here there a b) × (x ≡ joined_box f a b))
    in_joined x =
        let each : Boxed Row → List (Boxed Row) = λ a. map (joined_box f a) (filter (meet here there a) rights) in
        let all = In-flat_map each x lefts in (
          λ i.
              let w = all.0 i in
              let v = (In-map (joined_box f w.0) x (filter (meet here there w.0) rights)).0 w.2 in
              let u = (In-filter (meet here there w.0) v.0 rights).0 v.1 in
              (w.0, v.0, w.1, u.0, u.1, v.2),
          λ h. all.1 (h.0, h.2, (In-map (joined_box f h.0) x (filter (meet here there h.0) rights)).1 (h.1, (In-filter (meet here there h.0) h.1 rights).1 (h.3, h.4), h.5)),
        )

    pub places_joined : (l : Row) (p : List ℤ) → InBoxes (joined_boxes here there f lefts rights) l p ↔ IsJoinedAt here there f (λ a. InBoxes left a p) (λ b. InBoxes right b p) l
    places_joined l p = (
      λ w.
          let h = (in_joined (l, w.0)).0 ((among_in (l, w.0) (joined_boxes here there f lefts rights)).0 w.1) in
          let e = (meets h.0 h.1).0 h.4 in
          let sides : w.0 ≡ (h.0).1 = ap (λ (x : Boxed Row). x.1) h.5 in
          let has : Has (h.0).1 p = subst (λ z. Has z p) sides w.2 in
          ((h.0).0, (h.1).0, from_points k left hl (h.0).0 p (h.0).1 h.2 has, from_points k right hr (h.1).0 p (h.1).1 h.3 (subst (λ z. Has z p) e.1 has), e.0, ap (λ (x : Boxed Row). x.0) h.5),
      λ h. (
        map at_point p,
        (among_in (l, map at_point p) (joined_boxes here there f lefts rights)).1 ((in_joined (l, map at_point p)).1 (
          (h.0, map at_point p),
          (h.1, map at_point p),
          at_points k left hl h.0 p h.2,
          at_points k right hr h.1 p h.3,
          (meets (h.0, map at_point p) (h.1, map at_point p)).1 (h.4, refl),
          (let e = h.5 in λ t. (e t, map at_point p)),
        )),
        has_grid_point p,
      ),
    )

    pub joined_have : AllHave k (joined_boxes here there f lefts rights)
    joined_have x m =
        let h = (in_joined x).0 ((among_in x (joined_boxes here there f lefts rights)).0 m) in
        ap (λ (b : Boxed Row). length b.1) h.5 ∙ points_long k left hl h.0 h.2
