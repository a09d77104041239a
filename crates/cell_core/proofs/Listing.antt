-- Unpacked boxes are the points of the packed boxes, listed box by box, each once; so their number is the sum over the boxes.
use Rattle.std.proofs.Common.{◌≡◌, ℕ, zero, suc, ◌+◌, ◌*◌, ℤ, pos, ◌+ℤ◌, ◌-ℤ◌, ◌≤ℤ◌, List, [], ◌∷◌, ◌++◌, map, length, ◌↔◌, inl, inr, arith, sym, ap, subst, refl, ◌∙◌, Ordering}
use Rattle.std.specs.declared.cmp.Ordering.TheVariants.{Less, Equal, Greater}
use Rattle.std.specs.Ordering.{int_cmp, ordering_then}
use Rattle.std.specs.Cmp.{IsTotalOrder}
use Rattle.std.specs.Cmp.Lexicographic.{slice_cmp}
use Rattle.std.specs.List.{flat_map, AllByRecursion}
use Rattle.std.proofs.lemmas.Int.{ints}
use Rattle.std.proofs.lemmas.Cmp.{tied_itself}
use Rattle.std.proofs.lemmas.List.{length-map, length-append}
use Rattle.base_core.specs.Sets.{placed, put, in_order}
use Rattle.base_core.proofs.SetLemmas.{Separates, In, Ascends, Ascends-in_order, In-in_order, same_by_members, in_after}
use Rattle.base_core.proofs.MemberLemmas.{In-append, In-map, In-flat_map}
use Rattle.interval_core.specs.Members.{Span, at_point, members, numbers_from, count_of}
use Rattle.interval_core.proofs.MembersLemmas.{In-members, In-numbers_from}
use Rattle.cell_packing.specs.Packed.{Has, ArePoints, firsts}
use Rattle.cell_packing.specs.Covering.{Among}
use Rattle.cell_packing.specs.Boxed.{Boxed, boxed_cmp, span_cmp, unpacked_boxes, packed_boxes, InBoxes}
use Rattle.cell_packing.proofs.PackedBoxes.{among_in, packed_ascends}
use Rattle.cell_core.specs.GridPoints.{grid_points, listing, Placed, placed_cmp, point_row, volume, total}
use Rattle.cell_core.proofs.OrderLemmas.{boxed_total, boxed_separates, placed_total, placed_separates, map_in_order}
use Rattle.cell_core.proofs.UnpackedLemmas.{in_unpacked_boxes, unpacked_ascends, firsts_at, are_points, length_at}
use Rattle.cell_core.proofs.PackedGridPoints.{AllHave, in_packed_box, from_packed_box, one_box, has_length}

-- ---- lists without repeats

abbrev pub Distinct : {X : Type 0} → List X → Type 0
Distinct [] = Unit {0}
Distinct (x ∷ xs) = (In x xs → ⊥) × Distinct xs

distinct_append : {X : Type 0} (xs ys : List X) → Distinct xs → Distinct ys → ((x : X) → In x xs → In x ys → ⊥) → Distinct (xs ++ ys)
distinct_append [] ys a b h = b
distinct_append (x ∷ xs) ys a b h = (
  λ m. elim ((In-append x xs ys).0 m) [ inl i ↦ a.0 i | inr j ↦ h x (inl refl) j ],
  distinct_append xs ys a.1 b (λ z i j. h z (inr i) j),
)

distinct_map : {X Y : Type 0} (f : X → Y) (xs : List X) → ((x y : X) → f x ≡ f y → x ≡ y) → Distinct xs → Distinct (map f xs)
distinct_map f [] one h = tt
distinct_map f (x ∷ xs) one h = (
  λ m. let w = (In-map f (f x) xs).0 m in h.0 (subst (λ z. In z xs) (sym (one x w.0 w.2)) w.1),
  distinct_map f xs one h.1,
)

distinct_flat : {X Y : Type 0} (f : X → List Y) (xs : List X) → Distinct xs → ((x : X) → In x xs → Distinct (f x)) → ((x y : X) (z : Y) → In x xs → In y xs → In z (f x) → In z (f y) → x ≡ y) → Distinct (flat_map f xs)
distinct_flat f [] d each one = tt
distinct_flat f (x ∷ xs) d each one =
    distinct_append (f x) (flat_map f xs) (each x (inl refl)) (distinct_flat f xs d.1 (λ y i. each y (inr i)) (λ y z w i j. one y z w (inr i) (inr j))) (λ z i j.
    let w = (In-flat_map f z xs).0 j in
    d.0 (subst (λ y. In y xs) (sym (one x w.0 z (inl refl) (inr w.1) i w.2)) w.1))

distinct_numbers : (n : ℕ) (b : ℤ) → Distinct (numbers_from n b)
distinct_numbers zero b = tt
distinct_numbers (suc n) b = (
  λ m. let w = ((In-numbers_from n (b +ℤ pos 1) b).0 m).0 in omega (arith, ints),
  distinct_numbers n (b +ℤ pos 1),
)

distinct_members : (i : Span) → Distinct (members i)
unfolding members
distinct_members i = distinct_numbers (count_of ((i.1 +ℤ pos 1) -ℤ i.0)) i.0

distinct_ascending : {X : Type 0} (cmp : X → X → Ordering) (o : IsTotalOrder cmp) (same : Separates cmp) (xs : List X) → Ascends cmp xs → Distinct xs
distinct_ascending cmp o same [] h = tt
distinct_ascending cmp o same (x ∷ xs) h = (
  λ m. let l = in_after cmp o same x x xs h.0 m in let e = tied_itself o x in cc,
  distinct_ascending cmp o same xs h.1,
)

-- in order such a list is as long
pub put_longer : {X : Type 0} (cmp : X → X → Ordering) (same : Separates cmp) (x : X) (ys : List X) → (In x ys → ⊥) → length (put cmp x ys) ≡ suc (length ys)
put_longer cmp same x [] h = refl
put_longer cmp same x (y ∷ ys) h =
    let ih = put_longer cmp same x ys (λ m. h (inr m)) in
    elim (cmp x y) as (λ r. cmp x y ≡ r → length (placed r x y ys (put cmp x ys)) ≡ suc (suc (length ys))) [
      | Less ↦ λ e. refl
      | Equal ↦ λ e. absurd (h (inl (same x y e)))
      | Greater ↦ λ e. ap suc ih
    ] refl

length_distinct : {X : Type 0} (cmp : X → X → Ordering) (o : IsTotalOrder cmp) (same : Separates cmp) (xs : List X) → Distinct xs → length (in_order cmp xs) ≡ length xs
length_distinct cmp o same [] h = refl
length_distinct cmp o same (x ∷ xs) h = put_longer cmp same x (in_order cmp xs) (λ m. h.0 ((In-in_order cmp o same x xs).0 m)) ∙ ap suc (length_distinct cmp o same xs h.1)

-- ---- the places of a box

pub in_grid_points : (is : List Span) (ps : List ℤ) → In ps (grid_points is) ↔ Has is ps
in_grid_points [] [] = (λ h. tt, λ h. inl refl)
in_grid_points [] (p ∷ ps) = (λ h. elim h [ inl e ↦ cc | inr m ↦ absurd m ], λ h. absurd h)
in_grid_points (i ∷ is) [] = (
  λ h.
      let v = (In-flat_map (λ p. map (λ qs. p ∷ qs) (grid_points is)) [] (members i)).0 h in
      let w = (In-map (λ qs. v.0 ∷ qs) [] (grid_points is)).0 v.2 in
      let e = w.2 in
      cc,
  λ h. absurd h,
)
in_grid_points (i ∷ is) (q ∷ qs) =
    let ih = in_grid_points is qs in
    let a = In-flat_map (λ p. map (λ rs. p ∷ rs) (grid_points is)) (q ∷ qs) (members i) in (
      λ h.
          let v = a.0 h in
          let w = (In-map (λ rs. v.0 ∷ rs) (q ∷ qs) (grid_points is)).0 v.2 in
          let m = (In-members i v.0).0 v.1 in
          let e = w.2 in
          let s : q ≡ v.0 = cc in
          let t : qs ≡ w.0 = cc in
          (subst (λ p. i.0 ≤ℤ p) (sym s) m.0, subst (λ p. p ≤ℤ i.1) (sym s) m.1, ih.0 (subst (λ rs. In rs (grid_points is)) (sym t) w.1)),
      λ h. a.1 (q, (In-members i q).1 (h.0, h.1), (In-map (λ rs. q ∷ rs) (q ∷ qs) (grid_points is)).1 (qs, ih.1 h.2, refl)),
    )

distinct_grid_points : (is : List Span) → Distinct (grid_points is)
distinct_grid_points [] = ((λ m. m), tt)
distinct_grid_points (i ∷ is) =
    distinct_flat (λ p. map (λ ps. p ∷ ps) (grid_points is)) (members i) (distinct_members i)
    (λ p m. distinct_map (λ ps. p ∷ ps) (grid_points is) (λ x y e. cc) (distinct_grid_points is))
    (λ p q z m n a b.
    let v = (In-map (λ ps. p ∷ ps) z (grid_points is)).0 a in
    let w = (In-map (λ ps. q ∷ ps) z (grid_points is)).0 b in
    let e = v.2 in
    let f = w.2 in
    cc)

pub length_each : {X Y : Type 0} (f : X → List Y) (n : ℕ) → ((x : X) → length (f x) ≡ n) → (xs : List X) → length (flat_map f xs) ≡ length xs * n
length_each f n h [] = sym (omega arith)
length_each f n h (x ∷ xs) =
    let ih : length (flat_map f xs) ≡ length xs * n = length_each f n h xs in
    let e : length (f x) ≡ n = h x in
    let a : length (f x ++ flat_map f xs) ≡ length (f x) + length (flat_map f xs) = length-append (f x) (flat_map f xs) in
    a ∙ (omega arith)

length_grid_points : (is : List Span) → length (grid_points is) ≡ volume is
length_grid_points [] = refl
length_grid_points (i ∷ is) = length_each (λ p. map (λ ps. p ∷ ps) (grid_points is)) (volume is) (λ p. length-map (grid_points is) (λ ps. p ∷ ps) ∙ length_grid_points is) (members i)

length_listing : {P : Type 0} (rows : List (Boxed P)) → length (listing rows) ≡ total rows
length_listing [] = refl
length_listing (x ∷ xs) =
    let a : length (map (λ ps. (x.0, ps)) (grid_points x.1)) ≡ volume x.1 = length-map (grid_points x.1) (λ ps. (x.0, ps)) ∙ length_grid_points x.1 in
    let ih : length (listing xs) ≡ total xs = length_listing xs in
    length-append (map (λ ps. (x.0, ps)) (grid_points x.1)) (listing xs) ∙ (λ i. a i + ih i)

pub in_listing : {P : Type 0} (rows : List (Boxed P)) (l : P) (ps : List ℤ) → In (l, ps) (listing rows) ↔ InBoxes rows l ps
in_listing {P = P} rows l ps =
    let f : Boxed P → List (Placed P) = λ x. map (λ qs. (x.0, qs)) (grid_points x.1) in
    let a = In-flat_map f (l, ps) rows in (
      λ h.
          let v = a.0 h in
          let w = (In-map (λ qs. ((v.0).0, qs)) (l, ps) (grid_points (v.0).1)).0 v.2 in
          let e : l ≡ (v.0).0 = ap (λ (z : Placed P). z.0) w.2 in
          let q : ps ≡ w.0 = ap (λ (z : Placed P). z.1) w.2 in
          ((v.0).1, subst (λ m. Among (m, (v.0).1) rows) (sym e) ((among_in v.0 rows).1 v.1), subst (Has (v.0).1) (sym q) ((in_grid_points (v.0).1 w.0).0 w.1)),
      λ g. a.1 ((l, g.0), (among_in (l, g.0) rows).0 g.1, (In-map (λ qs. (l, qs)) (l, ps) (grid_points g.0)).1 (ps, (in_grid_points g.0 ps).1 g.2, refl)),
    )

-- ---- the whole

twice : (r : Ordering) → ordering_then r r ≡ r
twice Less = refl
twice Equal = refl
twice Greater = refl

points_order : (ps qs : List ℤ) → slice_cmp span_cmp (map at_point ps) (map at_point qs) ≡ slice_cmp int_cmp ps qs
points_order [] [] = refl
points_order [] (q ∷ qs) = refl
points_order (p ∷ ps) [] = refl
points_order (p ∷ ps) (q ∷ qs) = λ t. ordering_then (twice (int_cmp p q) t) (points_order ps qs t)

points_back : (z : List Span) → ArePoints z → map at_point (firsts z) ≡ z
points_back [] h = refl
points_back (i ∷ is) h = λ t. (i.0, h.0 t) ∷ points_back is h.1 t

module _ {P : Type 0} (order : P → P → Ordering) (o : IsTotalOrder order) (same : Separates order) (k : ℕ) (r : List (Boxed P)) (have : AllHave k r) where
  abbrev Cmp : Boxed P → Boxed P → Ordering
  Cmp = boxed_cmp order

  abbrev Packed : List (Boxed P)
  Packed = packed_boxes order k r

  distinct_listing : Distinct (listing Packed)
  distinct_listing =
      distinct_flat (λ x. map (λ ps. (x.0, ps)) (grid_points x.1)) Packed
      (distinct_ascending Cmp (boxed_total o) (boxed_separates same) Packed (packed_ascends Cmp (boxed_total o) (boxed_separates same) k r))
      (λ x m. distinct_map (λ ps. (x.0, ps)) (grid_points x.1) (λ y z e. ap (λ (w : Placed P). w.1) e) (distinct_grid_points x.1))
      (λ x y z m n a b.
      let v = (In-map (λ ps. (x.0, ps)) z (grid_points x.1)).0 a in
      let w = (In-map (λ ps. (y.0, ps)) z (grid_points y.1)).0 b in
      let e : x.0 ≡ y.0 = sym (ap (λ (u : Placed P). u.0) v.2) ∙ ap (λ (u : Placed P). u.0) w.2 in
      let q : v.0 ≡ w.0 = sym (ap (λ (u : Placed P). u.1) v.2) ∙ ap (λ (u : Placed P). u.1) w.2 in
      let mx : Among (x.0, x.1) Packed = (among_in x Packed).1 m in
      let my : Among (x.0, y.1) Packed = subst (λ l. Among (l, y.1) Packed) (sym e) ((among_in y Packed).1 n) in
      let s = one_box order o same k r have x.0 v.0 x.1 y.1 mx my ((in_grid_points x.1 v.0).0 v.1) (subst (Has y.1) (sym q) ((in_grid_points y.1 w.0).0 w.1)) in
      λ i. (e i, s i))

  in_points : (x : Boxed P) → In x (unpacked_boxes order k r) ↔ In x (map point_row (listing Packed))
  in_points x =
      let u = in_unpacked_boxes order o same k r have x in
      let a = among_in x (unpacked_boxes order k r) in
      let m = In-map (point_row {P = P}) x (listing Packed) in (
        λ h.
            let v = u.0 (a.1 h) in
            let g = in_packed_box order o same k r have x.0 (firsts x.1) v.1.1 in
            let b = points_back x.1 v.1.0 in
            m.1 ((x.0, firsts x.1), (in_listing Packed x.0 (firsts x.1)).1 g, λ i. (x.0, sym b i)),
        λ h.
            let w = m.0 h in
            let l : P = (w.0).0 in
            let grid_point : List ℤ = (w.0).1 in
            let g = from_packed_box order o same k r have l grid_point ((in_listing Packed l grid_point).0 w.1) in
            let n : length grid_point ≡ k = has_length g.0 grid_point g.2 ∙ have (l, g.0) g.1 in
            let i : Among (l, map at_point grid_point) (unpacked_boxes order k r) =
            (in_unpacked_boxes order o same k r have (l, map at_point grid_point)).1 (length_at grid_point ∙ n, (are_points grid_point, subst (InBoxes r l) (sym (firsts_at grid_point)) g)) in
            a.0 (subst (λ z. Among z (unpacked_boxes order k r)) (sym w.2) i),
      )

  any : (xs : List (Placed P)) → AllByRecursion (λ (x : Placed P). Unit {0}) xs
  any [] = tt
  any (x ∷ xs) = (tt, any xs)

  -- unpacked boxes are the places of the packed ones, in order
  pub unpacked_is : map point_row (in_order (placed_cmp order) (listing Packed)) ≡ unpacked_boxes order k r
  unpacked_is =
      let L : List (Placed P) = listing Packed in
      let e : map (point_row {P = P}) (in_order (placed_cmp order) L) ≡ in_order Cmp (map (point_row {P = P}) L) =
      map_in_order (placed_cmp order) Cmp (point_row {P = P}) (λ x. Unit {0}) (λ x y a b. ap (ordering_then (order x.0 y.0)) (points_order x.1 y.1)) L (any L) in
      let up : Ascends Cmp (unpacked_boxes order k r) = unpacked_ascends order o same k r in
      e ∙ same_by_members Cmp (boxed_total o) (boxed_separates same) (in_order Cmp (map (point_row {P = P}) L)) (unpacked_boxes order k r) (Ascends-in_order Cmp (boxed_total o) (boxed_separates same) (map (point_row {P = P}) L)) up (λ x.
      let i = In-in_order Cmp (boxed_total o) (boxed_separates same) x (map (point_row {P = P}) L) in
      let j = in_points x in
      (λ h. j.1 (i.0 h), λ h. i.1 (j.0 h)))

  -- and as many as these have
  pub unpacked_length : length (unpacked_boxes order k r) ≡ total Packed
  unpacked_length =
      let L : List (Placed P) = listing Packed in
      sym (ap length unpacked_is) ∙ length-map (in_order (placed_cmp order) L) (point_row {P = P}) ∙ length_distinct (placed_cmp order) (placed_total o) (placed_separates same) L distinct_listing ∙ length_listing Packed
