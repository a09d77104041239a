-- The places of the rows that pairs give are those of the joined boxes.
use Rattle.std.proofs.Common.{◌≡◌, ◌↔◌, ℕ, ℤ, ◌≤ℤ◌, List, [], ◌∷◌, map, length, refl, sym, ap, ◌∙◌, subst, arith}
use Rattle.std.proofs.lemmas.Int.{ints, clamps}
use Rattle.interval_core.specs.Members.{Span}
use Rattle.value_core.specs.Order.{row_total, row_separates}
use Rattle.value_core.specs.Values.{Row, row_cmp}
use Rattle.relation_core.specs.Agreement.{part_of}
use Rattle.cell_packing.specs.Boxed.{Boxed, packed_boxes, unpacked_boxes, InBoxes}
use Rattle.cell_packing.specs.Covering.{Among}
use Rattle.cell_packing.specs.Packed.{Has}
use Rattle.cell_packing.proofs.AmongLemmas.{among_map}
use Rattle.cell_core.proofs.PackedGridPoints.{AllHave, packed_from_same}
use Rattle.u_set.specs.Apart.{span_in}
use Rattle.u_set.specs.Boxes.{others, boxed}
use Rattle.u_join.specs.Pairs.{joined_boxes, IsJoinedAt}
use Rattle.u_join.specs.RowPairs.{met, Meet, AreMade}
use Rattle.u_join.proofs.PairPlaces.{places_joined, joined_have}

-- a number is in what two intervals have in common where it is in both
in_both : (i j : Span) (q : ℤ) → (i.0 ≤ℤ q) × (q ≤ℤ i.1) → (j.0 ≤ℤ q) × (q ≤ℤ j.1) → ((met i j).0 ≤ℤ q) × (q ≤ℤ (met i j).1)
in_both i j q a b =
    let a0 = a.0 in
    let a1 = a.1 in
    let b0 = b.0 in
    let b1 = b.1 in
    (omega (arith, ints, clamps), omega (arith, ints, clamps))

of_both : (i j : Span) (q : ℤ) → (met i j).0 ≤ℤ q → q ≤ℤ (met i j).1 → ((i.0 ≤ℤ q) × (q ≤ℤ i.1)) × ((j.0 ≤ℤ q) × (q ≤ℤ j.1))
of_both i j q a b = ((omega (arith, ints, clamps), omega (arith, ints, clamps)), (omega (arith, ints, clamps), omega (arith, ints, clamps)))

has_met : (i j : Span) (p : List ℤ) → Has (met i j ∷ []) p → Has (i ∷ []) p × Has (j ∷ []) p
has_met i j [] h = absurd h
has_met i j (q ∷ []) h = let w = of_both i j q h.0 h.1 in ((w.0.0, w.0.1, tt), (w.1.0, w.1.1, tt))
has_met i j (q ∷ q' ∷ p) h = absurd h.2

met_has : (i j : Span) (p : List ℤ) → Has (i ∷ []) p → Has (j ∷ []) p → Has (met i j ∷ []) p × Meet i j
met_has i j [] h g = absurd h
met_has i j (q ∷ []) h g =
    let a0 = h.0 in
    let a1 = h.1 in
    let b0 = g.0 in
    let b1 = g.1 in
    let w = in_both i j q (h.0, h.1) (g.0, g.1) in
    ((w.0, w.1, tt), (omega (arith, ints), omega (arith, ints)))
met_has i j (q ∷ q' ∷ p) h g = absurd h.2

module _ (key key' inner inner' : List ℕ) (here there at : ℕ) (label f : Row → Row → Row) (r s rows : List Row) (made : AreMade key key' here there f r s rows)
    (own : (x : Row) → part_of inner (others (here ∷ []) x) ≡ part_of key x) (own' : (y : Row) → part_of inner' (others (there ∷ []) y) ≡ part_of key' y)
    (boxes : (x y : Row) → Among x r → Among y s → boxed (at ∷ []) (f x y) ≡ (label (others (here ∷ []) x) (others (there ∷ []) y), met (span_in here x) (span_in there y) ∷ [])) where
  pub places_made : (l : Row) (p : List ℤ) → InBoxes (map (boxed (at ∷ [])) rows) l p
      ↔ IsJoinedAt inner inner' label (λ a. InBoxes (map (boxed (here ∷ [])) r) a p) (λ b. InBoxes (map (boxed (there ∷ [])) s) b p) l
  places_made l p = (
    λ w.
        let v = (among_map (boxed (at ∷ [])) (l, w.0) rows).0 w.1 in
        let m = made.from v.0 v.1 in
        let x : Row = m.0 in
        let y : Row = m.1 in
        let e = sym (boxes x y m.2 m.3) ∙ ap (boxed (at ∷ [])) (sym m.6) ∙ v.2 in
        let has : Has (met (span_in here x) (span_in there y) ∷ []) p = subst (λ z. Has z p) (sym (ap (λ (b : Boxed Row). b.1) e)) w.2 in
        let both = has_met (span_in here x) (span_in there y) p has in (
          others (here ∷ []) x,
          others (there ∷ []) y,
          (span_in here x ∷ [], (among_map (boxed (here ∷ [])) (others (here ∷ []) x, span_in here x ∷ []) r).1 (x, m.2, refl), both.0),
          (span_in there y ∷ [], (among_map (boxed (there ∷ [])) (others (there ∷ []) y, span_in there y ∷ []) s).1 (y, m.3, refl), both.1),
          own x ∙ m.4 ∙ sym (own' y),
          sym (ap (λ (b : Boxed Row). b.0) e),
        ),
    λ h.
        let u = (among_map (boxed (here ∷ [])) (h.0, h.2.0) r).0 h.2.1 in
        let v = (among_map (boxed (there ∷ [])) (h.1, h.3.0) s).0 h.3.1 in
        let x : Row = u.0 in
        let y : Row = v.0 in
        let left : others (here ∷ []) x ≡ h.0 = ap (λ (b : Boxed Row). b.0) u.2 in
        let right : others (there ∷ []) y ≡ h.1 = ap (λ (b : Boxed Row). b.0) v.2 in
        let keys : part_of key x ≡ part_of key' y = sym (own x) ∙ ap (part_of inner) left ∙ h.4 ∙ ap (part_of inner') (sym right) ∙ own' y in
        let a : Has (span_in here x ∷ []) p = subst (λ z. Has z p) (sym (ap (λ (b : Boxed Row). b.1) u.2)) h.2.2 in
        let b : Has (span_in there y ∷ []) p = subst (λ z. Has z p) (sym (ap (λ (b : Boxed Row). b.1) v.2)) h.3.2 in
        let both = met_has (span_in here x) (span_in there y) p a b in
        let z = made.to x y u.1 v.1 keys both.1 in
        let named : label (others (here ∷ []) x) (others (there ∷ []) y) ≡ l = (λ t. label (left t) (right t)) ∙ sym h.5 in
        (met (span_in here x) (span_in there y) ∷ [], (among_map (boxed (at ∷ [])) (l, met (span_in here x) (span_in there y) ∷ []) rows).1 (f x y, z, boxes x y u.1 v.1 ∙ (λ t. (named t, met (span_in here x) (span_in there y) ∷ []))), both.0),
  )

  -- so they have one packed form
  pub packed_made : packed_boxes row_cmp 1 (map (boxed (at ∷ [])) rows)
      ≡ packed_boxes row_cmp 1 (joined_boxes inner inner' label (unpacked_boxes row_cmp 1 (map (boxed (here ∷ [])) r)) (unpacked_boxes row_cmp 1 (map (boxed (there ∷ [])) s)))
  packed_made =
      let lefts : List (Boxed Row) = map (boxed (here ∷ [])) r in
      let rights : List (Boxed Row) = map (boxed (there ∷ [])) s in
      let hl : AllHave 1 lefts = one_side here r in
      let hr : AllHave 1 rights = one_side there s in
      packed_from_same row_cmp row_total row_separates 1 (map (boxed (at ∷ [])) rows) (joined_boxes inner inner' label (unpacked_boxes row_cmp 1 lefts) (unpacked_boxes row_cmp 1 rights))
      (one_side at rows) (joined_have inner inner' 1 lefts rights hl hr label) (λ l p.
      let a = places_made l p in
      let b = places_joined inner inner' 1 lefts rights hl hr label l p in
      (λ w. b.1 (a.0 w), λ w. a.1 (b.0 w)))
    where
      one_side : (i : ℕ) (xs : List Row) → AllHave 1 (map (boxed (i ∷ [])) xs)
      one_side i xs b m = let w = (among_map (boxed (i ∷ [])) b xs).0 m in sym (ap (λ (z : Boxed Row). length z.1) w.2)
