-- What is in unpacked boxes, and what it says of two lists that they unpack alike.
use Rattle.std.proofs.Common.{◌≡◌, ℕ, zero, suc, ℤ, List, [], ◌∷◌, map, set, get_or, length, ◌↔◌, sym, ap, subst, refl, ◌∙◌, Ordering}
use Rattle.std.specs.Bool.{IsTrue}
use Rattle.std.specs.Cmp.{IsTotalOrder}
use Rattle.std.specs.List.{flat_map}
use Rattle.std.proofs.Math.ListN.{length-set}
use Rattle.base_core.specs.Sets.{in_order, is_within, are_same}
use Rattle.base_core.proofs.SetLemmas.{Separates, In, Ascends, Ascends-in_order}
use Rattle.base_core.proofs.SetOperatorLemmas.{is_within-In, are_same-In}
use Rattle.interval_core.specs.Members.{at_point, members}
use Rattle.interval_core.specs.Packing.{Side, unpack, unpack1}
use Rattle.cell_packing.specs.Packed.{ArePoints, firsts, points_of, nowhere}
use Rattle.cell_packing.specs.Covering.{Among}
use Rattle.cell_packing.specs.Boxed.{Boxed, side, sides_from, boxed_cmp, unpacked_boxes, InBoxes}
use Rattle.cell_packing.proofs.AmongLemmas.{among_map, among_flat}
use Rattle.cell_packing.proofs.PackedBoxes.{among_in, among_in_order, in_unpacked}
use Rattle.cell_core.proofs.OrderLemmas.{boxed_total, boxed_separates}
use Rattle.cell_core.proofs.PackedGridPoints.{AllHave, grid_point_length}

pub firsts_at : (grid_point : List ℤ) → firsts (map at_point grid_point) ≡ grid_point
firsts_at [] = refl
firsts_at (p ∷ ps) = ap (λ xs. p ∷ xs) (firsts_at ps)

pub are_points : (grid_point : List ℤ) → ArePoints (map at_point grid_point)
are_points [] = tt
are_points (p ∷ ps) = (refl, are_points ps)

pub length_at : (grid_point : List ℤ) → length (map at_point grid_point) ≡ length grid_point
length_at [] = refl
length_at (p ∷ ps) = ap suc (length_at ps)

pub unpack_ascends : {X : Type 0} (cmp : X → X → Ordering) (o : IsTotalOrder cmp) (same : Separates cmp) (ss : List (Side X)) (r : List X) → Ascends cmp r → Ascends cmp (unpack cmp ss r)
unpack_ascends cmp o same [] r h = h
unpack_ascends cmp o same (a ∷ ss) r h =
    unpack_ascends cmp o same ss (unpack1 cmp a r) (Ascends-in_order cmp o same (flat_map (λ x. map (λ p. a.put x (at_point p)) (members (a.of x))) r))

module _ {P : Type 0} (order : P → P → Ordering) (o : IsTotalOrder order) (same : Separates order) where
  abbrev R : Boxed P → Boxed P → Ordering
  R = boxed_cmp order

  pub unpacked_ascends : (k : ℕ) (r : List (Boxed P)) → Ascends R (unpacked_boxes order k r)
  unpacked_ascends k r = unpack_ascends R (boxed_total o) (boxed_separates same) (sides_from 0 k) (in_order R r) (Ascends-in_order R (boxed_total o) (boxed_separates same) r)

  have_one : (k j : ℕ) (r : List (Boxed P)) → AllHave k r → AllHave k (unpack1 R (side j) r)
  have_one k j r h y m =
      let f : Boxed P → List (Boxed P) = λ x. map (λ p. (x.0, set x.1 j (at_point p))) (members (get_or x.1 j nowhere)) in
      let a = (among_flat f y r).0 ((among_in_order R (boxed_total o) (boxed_separates same) (flat_map f r) y).0 m) in
      let b = (among_map (λ p. ((a.0).0, set (a.0).1 j (at_point p))) y (members (get_or (a.0).1 j nowhere))).0 a.2 in
      let e : length (set (a.0).1 j (at_point b.0)) ≡ length y.1 = ap (λ (x : Boxed P). length x.1) b.2 in
      sym e ∙ length-set (a.0).1 j (at_point b.0) ∙ h a.0 a.1

  have_all : (k n j : ℕ) (r : List (Boxed P)) → AllHave k r → AllHave k (unpack R (sides_from n j) r)
  have_all k n zero r h = h
  have_all k n (suc j) r h = have_all k (suc n) j (unpack1 R (side n) r) (have_one k n r h)

  pub in_unpacked_boxes : (k : ℕ) (r : List (Boxed P)) → AllHave k r → (x : Boxed P) → Among x (unpacked_boxes order k r) ↔ (length x.1 ≡ k) × points_of (InBoxes r x.0) x.1
  in_unpacked_boxes k r h x =
      let r' : List (Boxed P) = in_order R r in
      let among : (z : Boxed P) → Among z r' ↔ Among z r = among_in_order R (boxed_total o) (boxed_separates same) r in
      let h' : AllHave k r' = λ z m. h z ((among z).0 m) in
      let u : length x.1 ≡ k → Among x (unpack R (sides_from 0 k) r') ↔ points_of (InBoxes r' x.0) x.1 = in_unpacked R (boxed_total o) (boxed_separates same) k r' h' x.0 x.1 in (
        λ m. let l = have_all k 0 k r' h' x m in let v = (u l).0 m in (l, (v.0, (v.1.0, (among (x.0, v.1.0)).0 v.1.1, v.1.2))),
        λ w. (u w.0).1 (w.1.0, (w.1.1.0, (among (x.0, w.1.1.0)).1 w.1.1.1, w.1.1.2)),
      )

  module _ (k : ℕ) (left right : List (Boxed P)) (hl : AllHave k left) (hr : AllHave k right) where
    point_in : (r : List (Boxed P)) → AllHave k r → (l : P) (grid_point : List ℤ) → length grid_point ≡ k → InBoxes r l grid_point ↔ Among (l, map at_point grid_point) (unpacked_boxes order k r)
    point_in r h l grid_point e =
        let w = in_unpacked_boxes k r h (l, map at_point grid_point) in (
          λ g. w.1 (length_at grid_point ∙ e, (are_points grid_point, subst (InBoxes r l) (sym (firsts_at grid_point)) g)),
          λ g. subst (InBoxes r l) (firsts_at grid_point) (w.0 g).1.1,
        )

    one_way : (r s : List (Boxed P)) → AllHave k r → AllHave k s → ((x : Boxed P) → In x (unpacked_boxes order k r) → In x (unpacked_boxes order k s)) ↔ ((l : P) (grid_point : List ℤ) → InBoxes r l grid_point → InBoxes s l grid_point)
    one_way r s hr hs =
        let a : (x : Boxed P) → Among x (unpacked_boxes order k r) ↔ In x (unpacked_boxes order k r) = λ x. among_in x (unpacked_boxes order k r) in
        let b : (x : Boxed P) → Among x (unpacked_boxes order k s) ↔ In x (unpacked_boxes order k s) = λ x. among_in x (unpacked_boxes order k s) in (
          λ h l grid_point g.
              let e = grid_point_length k r hr l grid_point g in
              (point_in s hs l grid_point e).1 ((b (l, map at_point grid_point)).1 (h (l, map at_point grid_point) ((a (l, map at_point grid_point)).0 ((point_in r hr l grid_point e).0 g)))),
          λ h x m.
              let v = (in_unpacked_boxes k r hr x).0 ((a x).1 m) in
              (b x).0 ((in_unpacked_boxes k s hs x).1 (v.0, (v.1.0, h x.0 (firsts x.1) v.1.1))),
        )

    pub within_iff : IsTrue (is_within R (unpacked_boxes order k left) (unpacked_boxes order k right)) ↔ ((l : P) (grid_point : List ℤ) → InBoxes left l grid_point → InBoxes right l grid_point)
    within_iff =
        let w = is_within-In R (boxed_total o) (boxed_separates same) (unpacked_boxes order k left) (unpacked_boxes order k right) in
        let v = one_way left right hl hr in
        (λ h. v.0 (w.0 h), λ h. w.1 (v.1 h))

    pub same_iff : IsTrue (are_same R (unpacked_boxes order k left) (unpacked_boxes order k right)) ↔ ((l : P) (grid_point : List ℤ) → InBoxes left l grid_point ↔ InBoxes right l grid_point)
    same_iff =
        let w = are_same-In R (boxed_total o) (boxed_separates same) (unpacked_boxes order k left) (unpacked_boxes order k right) in
        let v = one_way left right hl hr in
        let u = one_way right left hr hl in (
          λ h l grid_point. (v.0 (λ x. (w.0 h x).0) l grid_point, u.0 (λ x. (w.0 h x).1) l grid_point),
          λ h. w.1 (λ x. (v.1 (λ l grid_point. (h l grid_point).0) x, u.1 (λ l grid_point. (h l grid_point).1) x)),
        )
