-- Some of the boxes of a packed form are packed.
--     Covered, ArePackedAlone      sets of boxes, each a packed one of the places that they have
--     all_packed, fewer_packed      of one label, in lists of labelled boxes
use Rattle.std.proofs.Common.{◌≡◌, ◌↔◌, ℕ, zero, suc, ◌+◌, ◌<◌, ◌≤◌, ℤ, ◌≤ℤ◌, List, [], ◌∷◌, length, get_or, drop, refl, sym, ◌∙◌, subst, arith, Ordering}
use Rattle.std.specs.Cmp.{IsTotalOrder}
use Rattle.std.proofs.lemmas.Int.{ints}
use Rattle.std.proofs.Math.Seq.{drop-length}
use Rattle.base_core.proofs.SetLemmas.{Separates}
use Rattle.interval_core.specs.Members.{Span}
use Rattle.cell_packing.specs.Boxed.{Boxed, boxed_cmp, packed_boxes, InBoxes}
use Rattle.cell_packing.specs.Covering.{Among}
use Rattle.cell_packing.specs.Packed.{IsPacked, Has, nowhere, onto, packs, points_of, sides_back}
use Rattle.cell_packing.proofs.Commute.{packs_is, drop_at}
use Rattle.cell_packing.proofs.PackedBoxes.{in_packed_form}
use Rattle.cell_packing.proofs.Runs.{IsPacked-iff, IsPacked-one}
use Rattle.cell_packing.proofs.Whole.{length_sides_back}
use Rattle.cell_core.proofs.OrderLemmas.{boxed_total, boxed_separates}
use Rattle.cell_core.proofs.PackedGridPoints.{AllHave, has_length, one_box}
use Rattle.cell_core.proofs.Theorem.{length_onto}

-- ---- sets of boxes, from the last side inward

-- some box has the place
abbrev Covered : (List Span → Type 0) → List ℤ → Type 0
Covered B ps = (is : List Span) × B is × Has is ps

-- each is a packed one of the places that the boxes have
abbrev ArePackedAlone : (List Span → Type 0) → Type 0
ArePackedAlone B = (is : List Span) → B is → IsPacked (Covered B) is

-- what the boxes with a point of the last side are without that side
abbrev Slice : (List Span → Type 0) → ℤ → List Span → Type 0
Slice B p is = (i : Span) × (i.0 ≤ℤ p) × (p ≤ℤ i.1) × B (i ∷ is)

without_last : (B : List Span → Type 0) (p : ℤ) (ps : List ℤ) (is : List Span) → B is → Has is (p ∷ ps) → Covered (Slice B p) ps
without_last B p ps [] b h = absurd h
without_last B p ps (i ∷ is) b h = (is, (i, h.0, h.1, b), h.2)

sliced : (B : List Span → Type 0) (p : ℤ) (ps : List ℤ) → Covered (Slice B p) ps ↔ Covered B (p ∷ ps)
sliced B p ps = (λ w. (w.1.0 ∷ w.0, w.1.3, (w.1.1, w.1.2, w.2)), λ w. without_last B p ps w.0 w.1 w.2)

slice_packed : (B : List Span → Type 0) → ArePackedAlone B → (p : ℤ) → ArePackedAlone (Slice B p)
slice_packed B h p is w =
    IsPacked-iff (λ ps. Covered B (p ∷ ps)) (Covered (Slice B p)) is (λ ps. ((sliced B p ps).1, (sliced B p ps).0)) ((h (w.0 ∷ is) w.3).each p w.1 w.2)

-- a packed box has a place
some_place : (S : List ℤ → Type 0) (is : List Span) → IsPacked S is → (ps : List ℤ) × S ps × Has is ps
some_place S [] h = ([], h, tt)
some_place S (i ∷ is) h =
    let some : i.0 ≤ℤ i.1 = h.some in
    let w = some_place (λ ps. S (i.0 ∷ ps)) is (h.each i.0 (omega (arith, ints)) some) in
    (i.0 ∷ w.0, w.1, (omega (arith, ints), some, w.2))

fewer_alone : (n : ℕ) (B C : List Span → Type 0) → ArePackedAlone B → ((is : List Span) → C is → B is) → (is : List Span) → length is ≡ n → C is → IsPacked (Covered C) is
fewer_alone n B C h within [] e c = ([], c, tt)
fewer_alone zero B C h within (i ∷ is) e c = absurd (omega (arith, e))
fewer_alone (suc n) B C h within (i ∷ is) e c =
    let run = h (i ∷ is) (within (i ∷ is) c) in
    let at : (q : ℤ) (js : List Span) → length js ≡ n → Slice C q js → IsPacked (λ ps. Covered C (q ∷ ps)) js = λ q js m w.
    IsPacked-iff (Covered (Slice C q)) (λ ps. Covered C (q ∷ ps)) js (sliced C q)
    (fewer_alone n (Slice B q) (Slice C q) (slice_packed B h q) (λ ks v. (v.0, v.1, v.2, within (v.0 ∷ ks) v.3)) js m w) in
    let long : length is ≡ n = omega (arith, e) in
    let never : (q : ℤ) → ¬ (IsPacked (λ ps. Covered B (q ∷ ps)) is) → ¬ (IsPacked (λ ps. Covered C (q ∷ ps)) is) = λ q none g.
    let p = some_place (λ ps. Covered C (q ∷ ps)) is g in
    let w = (sliced C q p.0).1 p.1 in
    let one : length w.0 ≡ n = sym (has_length w.0 p.0 w.2) ∙ has_length is p.0 p.2 ∙ long in
    let same : w.0 ≡ is = IsPacked-one (λ ps. Covered C (q ∷ ps)) w.0 is p.0 (at q w.0 one w.1) g w.2 p.2 in
    let v : Slice C q is = subst (λ (ks : List Span). Slice C q ks) same w.1 in
    none ((h (v.0 ∷ is) (within (v.0 ∷ is) v.3)).each q v.1 v.2) in
    record { some = run.some; each = λ p a b. at p is long (i, a, b, c); before = never _ run.before; after = never _ run.after }

-- ---- boxes from the first side to the last

-- the first j sides have the one place and the others the rest
has_back : (j : ℕ) (y : List Span) (ps rest : List ℤ) → j ≤ length y → length ps ≡ j → (Has (sides_back j y) ps × Has (drop j y) rest) ↔ Has y (onto ps rest)
has_back zero y [] rest h e = (λ w. w.1, λ w. (tt, w))
has_back zero y (p ∷ ps) rest h e = absurd (omega (arith, e))
has_back (suc j) y [] rest h e = absurd (omega (arith, e))
has_back (suc j) y (p ∷ ps) rest h e =
    let less : j < length y = omega (arith, h) in
    let more = has_back j y ps (p ∷ rest) (omega (arith, less)) (omega (arith, e)) in
    let next : drop j y ≡ get_or y j nowhere ∷ drop (suc j) y = drop_at y j less in (
      λ w. more.0 (w.0.2, subst (λ (zs : List Span). Has zs (p ∷ rest)) (sym next) (w.0.0, w.0.1, w.1)),
      λ w.
          let v = more.1 w in
          let u : Has (get_or y j nowhere ∷ drop (suc j) y) (p ∷ rest) = subst (λ (zs : List Span). Has zs (p ∷ rest)) next v.1 in
          ((u.0, u.1, v.0), u.2),
    )

has_all : (y : List Span) (ps : List ℤ) → length ps ≡ length y → Has (sides_back (length y) y) ps ↔ Has y (onto ps [])
has_all y ps e =
    let w = has_back (length y) y ps [] (omega arith) e in
    (λ h. w.0 (h, subst (λ (zs : List Span). Has zs []) (sym (drop-length y)) tt), λ h. (w.1 h).0)

module _ {P : Type 0} (order : P → P → Ordering) (o : IsTotalOrder order) (same : Separates order) (k : ℕ) (l : P) where
  abbrev form : List (Boxed P) → List (Boxed P)
  form r = packed_boxes order k r

  -- the boxes of the label, turned round
  abbrev Back : List (Boxed P) → List Span → Type 0
  Back r is = (y : List Span) × Among (l, y) r × (sides_back (length y) y ≡ is)

  places_back : (r : List (Boxed P)) (ps : List ℤ) → InBoxes r l (onto ps []) ↔ Covered (Back r) ps
  places_back r ps = (
    λ w.
        let m : length (onto ps []) ≡ length w.0 = has_length w.0 (onto ps []) w.2 in
        let n : length (onto ps []) ≡ length ps + 0 = length_onto ps [] in
        let long : length ps ≡ length w.0 = omega (arith, m, n) in
        (sides_back (length w.0) w.0, (w.0, w.1, refl), (has_all w.0 ps long).1 w.2),
    λ w.
        let back : Has (sides_back (length w.1.0) w.1.0) ps = subst (λ (zs : List Span). Has zs ps) (sym w.1.2) w.2 in
        let long : length ps ≡ length w.1.0 = has_length (sides_back (length w.1.0) w.1.0) ps back ∙ length_sides_back (length w.1.0) w.1.0 in
        (w.1.0, w.1.1, (has_all w.1.0 ps long).0 back),
  )

  module _ (r : List (Boxed P)) (have : AllHave k r) where
    members : (y : List Span) → Among (l, y) (form r) ↔ ((length y ≡ k) × packs k (points_of (InBoxes r l)) y)
    members y = in_packed_form (boxed_cmp order) (boxed_total o) (boxed_separates same) k r have (l, y)

    to_back : (y : List Span) → Among (l, y) (form r) → IsPacked (Covered (Back r)) (sides_back (length y) y)
    to_back y i =
        let w = (members y).0 i in
        let p : packs (length y) (points_of (InBoxes r l)) y = subst (λ (n : ℕ). packs n (points_of (InBoxes r l)) y) (sym w.0) w.1 in
        IsPacked-iff (λ ps. InBoxes r l (onto ps [])) (Covered (Back r)) (sides_back (length y) y) (places_back r) ((packs_is (InBoxes r l) y).0 p)

    from_back : (y : List Span) → length y ≡ k → IsPacked (Covered (Back r)) (sides_back (length y) y) → Among (l, y) (form r)
    from_back y e h =
        let q = IsPacked-iff (Covered (Back r)) (λ ps. InBoxes r l (onto ps [])) (sides_back (length y) y) (λ ps. ((places_back r ps).1, (places_back r ps).0)) h in
        (members y).1 (e, subst (λ (n : ℕ). packs n (points_of (InBoxes r l)) y) e ((packs_is (InBoxes r l) y).1 q))

  -- where each box of the label is a packed one, there are no other packed ones
  pub all_packed : (s : List (Boxed P)) → AllHave k s → ((y : List Span) → Among (l, y) s → Among (l, y) (form s)) → (y : List Span) → Among (l, y) (form s) → Among (l, y) s
  all_packed s hs into y i =
      let p = some_place (Covered (Back s)) (sides_back (length y) y) (to_back s hs y i) in
      let w = (places_back s p.0).1 p.1 in
      let long : length p.0 ≡ length y = has_length (sides_back (length y) y) p.0 p.2 ∙ length_sides_back (length y) y in
      let one : w.0 ≡ y = one_box order o same k s hs l (onto p.0 []) w.0 y (into w.0 w.1) i w.2 ((has_all y p.0 long).0 p.2) in
      subst (λ (z : List Span). Among (l, z) s) one w.1

  -- where the boxes of the label are packed in a list, so are some of them
  pub fewer_packed : (r s : List (Boxed P)) → AllHave k r → AllHave k s → ((y : List Span) → Among (l, y) s → Among (l, y) r) → ((y : List Span) → Among (l, y) r → Among (l, y) (form r))
      → (y : List Span) → Among (l, y) s ↔ Among (l, y) (form s)
  fewer_packed r s hr hs within packed y =
      let alone : ArePackedAlone (Back r) = λ is w. subst (λ (js : List Span). IsPacked (Covered (Back r)) js) w.2 (to_back r hr w.0 (packed w.0 w.1)) in
      let into : (z : List Span) → Among (l, z) s → Among (l, z) (form s) = λ z i.
      from_back s hs z (hs (l, z) i)
      (fewer_alone (length z) (Back r) (Back s) alone (λ is w. (w.0, within w.0 w.1, w.2)) (sides_back (length z) z) (length_sides_back (length z) z) (z, i, refl)) in (
        into y,
        all_packed s hs into y,
      )
