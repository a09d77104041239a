-- Each place of labelled boxes lies in just one box of their packed form; and what that tells of the packed forms of two lists.
use Rattle.std.proofs.Common.{◌≡◌, ℕ, zero, suc, ◌+◌, ◌≤◌, ℤ, pos, ◌≤ℤ◌, List, [], ◌∷◌, ◌++◌, take, length, get_or, ◌↔◌, inl, inr, arith, sym, ap, subst, refl, ◌∙◌, Ordering, ◌⊎◌}
use Rattle.std.specs.declared.cmp.Ordering.TheVariants.{Less, Equal, Greater}
use Rattle.std.specs.Cmp.{IsTotalOrder}
use Rattle.std.proofs.lemmas.Int.{ints, by_lt_z}
use Rattle.std.proofs.lemmas.Cmp.{tied_itself}
use Rattle.base_core.proofs.SetLemmas.{Separates}
use Rattle.interval_core.specs.Members.{Span}
use Rattle.cell_packing.specs.Packed.{Has, IsPacked, packs, points_of, onto, nowhere, sides_back}
use Rattle.cell_packing.specs.Covering.{Among}
use Rattle.cell_packing.specs.Boxed.{Boxed, boxed_cmp, packed_boxes, InBoxes}
use Rattle.cell_packing.proofs.Commute.{packs_is}
use Rattle.cell_packing.proofs.Exists.{IsWithin, box_at}
use Rattle.cell_packing.proofs.Runs.{IsPacked-points, IsPacked-one}
use Rattle.cell_packing.proofs.PackedBoxes.{in_packed_form, packed_ascends, packed_form_is}
use Rattle.cell_core.proofs.Theorem.{packs-iff, points-iff, onto_twice, length_onto}
use Rattle.cell_core.proofs.OrderLemmas.{boxed_total, boxed_separates}
use Rattle.cell_packing.proofs.Chain.{take_last, take_all, onto_last}
use Rattle.cell_packing.proofs.AmongLemmas.{among_append}

-- ---- turned round

abbrev pub turn : List Span → List Span
turn [] = []
turn (i ∷ is) = turn is ++ i ∷ []

turn_last : (is : List Span) (i : Span) → turn (is ++ i ∷ []) ≡ i ∷ turn is
turn_last [] i = refl
turn_last (j ∷ is) i = ap (λ ys. ys ++ j ∷ []) (turn_last is i)

turn_twice : (is : List Span) → turn (turn is) ≡ is
turn_twice [] = refl
turn_twice (i ∷ is) = turn_last (turn is) i ∙ ap (λ ys. i ∷ ys) (turn_twice is)

longer : (xs : List Span) (x : Span) → length (xs ++ x ∷ []) ≡ suc (length xs)
longer [] x = refl
longer (y ∷ ys) x = ap suc (longer ys x)

length_turn : (is : List Span) → length (turn is) ≡ length is
length_turn [] = refl
length_turn (i ∷ is) = longer (turn is) i ∙ ap suc (length_turn is)

turn_take : (j : ℕ) (y : List Span) → j ≤ length y → sides_back j y ≡ turn (take j y)
turn_take zero y h = refl
turn_take (suc j) y h =
    ap (λ zs. get_or y j nowhere ∷ zs) (turn_take j y (omega arith)) ∙ sym (turn_last (take j y) (get_or y j nowhere)) ∙ ap turn (sym (take_last y j (omega arith)))

turned_sides : (y : List Span) → sides_back (length y) y ≡ turn y
turned_sides y = turn_take (length y) y (omega arith) ∙ ap turn (take_all y)

has_end : (is : List Span) (ps : List ℤ) (i : Span) (p : ℤ) → Has is ps → i.0 ≤ℤ p → p ≤ℤ i.1 → Has (is ++ i ∷ []) (ps ++ p ∷ [])
has_end [] [] i p h a b = (a, b, tt)
has_end [] (q ∷ ps) i p h a b = absurd h
has_end (j ∷ is) [] i p h a b = absurd h
has_end (j ∷ is) (q ∷ ps) i p h a b = (h.0, h.1, has_end is ps i p h.2 a b)

has_turned : (is : List Span) (ps : List ℤ) → Has is ps → Has (turn is) (onto ps [])
has_turned [] [] h = tt
has_turned [] (p ∷ ps) h = absurd h
has_turned (i ∷ is) [] h = absurd h
has_turned (i ∷ is) (p ∷ ps) h = subst (Has (turn is ++ i ∷ [])) (sym (onto_last ps (p ∷ []))) (has_end (turn is) (onto ps []) i p (has_turned is ps h.2) h.0 h.1)

pub has_length : (x : List Span) (ps : List ℤ) → Has x ps → length ps ≡ length x
has_length [] [] h = refl
has_length [] (p ∷ ps) h = absurd h
has_length (i ∷ is) [] h = absurd h
has_length (i ∷ is) (p ∷ ps) h = ap suc (has_length is ps h.2)

-- ---- bounds

abbrev AllBetween : ℤ → ℤ → List ℤ → Type 0
AllBetween low high [] = Unit {0}
AllBetween low high (p ∷ ps) = ((low ≤ℤ p) × (p ≤ℤ high)) × AllBetween low high ps

wider : (a b c d : ℤ) → c ≤ℤ a → b ≤ℤ d → (ps : List ℤ) → AllBetween a b ps → AllBetween c d ps
wider a b c d h g [] w = tt
wider a b c d h g (p ∷ ps) w =
    let x = w.0.0 in
    let y = w.0.1 in
    ((omega (arith, ints), omega (arith, ints)), wider a b c d h g ps w.1)

abbrev Bounds : (List ℤ → Type 0) → Type 0
Bounds S = (low : ℤ) × (high : ℤ) × ((ps : List ℤ) → S ps → AllBetween low high ps)

lesser : (a b : ℤ) → (m : ℤ) × (m ≤ℤ a) × (m ≤ℤ b)
lesser a b = by_lt_z a b (λ l. (a, omega (arith, ints), omega (arith, ints))) (λ l. (b, l, omega (arith, ints)))

greater : (a b : ℤ) → (m : ℤ) × (a ≤ℤ m) × (b ≤ℤ m)
greater a b = by_lt_z a b (λ l. (b, omega (arith, ints), omega (arith, ints))) (λ l. (a, omega (arith, ints), l))

between_more : (i : Span) (is : List Span) (a b l g : ℤ) → l ≤ℤ i.0 → l ≤ℤ a → i.1 ≤ℤ g → b ≤ℤ g → ((ps : List ℤ) → Has is ps → AllBetween a b ps) → (ps : List ℤ) → Has (i ∷ is) ps → AllBetween l g ps
between_more i is a b l g li la gi gb h [] w = absurd w
between_more i is a b l g li la gi gb h (p ∷ ps) w =
    let x = w.0 in
    let y = w.1 in
    ((omega (arith, ints), omega (arith, ints)), wider a b l g la gb ps (h ps w.2))

none_between : (ps : List ℤ) → Has [] ps → AllBetween (pos 0) (pos 0) ps
none_between [] h = tt
none_between (p ∷ ps) h = absurd h

box_bounds : (x : List Span) → Bounds (Has x)
box_bounds [] = (pos 0, pos 0, none_between)
box_bounds (i ∷ is) =
    let b = box_bounds is in
    let l = lesser i.0 b.0 in
    let g = greater i.1 b.1 in
    (l.0, g.0, between_more i is b.0 b.1 l.0 g.0 l.1 l.2 g.1 g.2 b.2)

boxes_bounds : {P : Type 0} (r : List (Boxed P)) (l : P) → Bounds (InBoxes r l)
boxes_bounds [] l = (pos 0, pos 0, λ ps w. absurd w.1)
boxes_bounds {P = P} (x ∷ r) l =
    let a = box_bounds x.1 in
    let b = boxes_bounds r l in
    let low = lesser a.0 b.0 in
    let high = greater a.1 b.1 in (
      low.0,
      high.0,
      λ ps w. elim w.1 [
        | inl e ↦ wider a.0 a.1 low.0 high.0 low.1 high.1 ps (a.2 ps (subst (λ z. Has z ps) (sym (ap (λ (z : Boxed P). z.1) e)) w.2))
        | inr m ↦ wider b.0 b.1 low.0 high.0 low.2 high.2 ps (b.2 ps (w.0, m, w.2))
      ],
    )

-- one bound for each of k sides
abbrev each_side : ℕ → Span → List Span
each_side zero b = []
each_side (suc k) b = b ∷ each_side k b

within_each : (k : ℕ) (b : Span) (S : List ℤ → Type 0) → ((ps : List ℤ) → S ps → (length ps ≡ k) × AllBetween b.0 b.1 ps) → IsWithin (each_side k b) S
within_each zero b S h = λ p ps s. let e = (h (p ∷ ps) s).0 in omega arith
within_each (suc k) b S h = (
  (λ s. let e = (h [] s).0 in omega arith),
  (λ p ps s. (h (p ∷ ps) s).1.0),
  λ p. within_each k b (λ ps. S (p ∷ ps)) (λ ps s. let e = (h (p ∷ ps) s).0 in (omega arith, (h (p ∷ ps) s).1.1)),
)

onto_between : (a b : ℤ) (ps rs : List ℤ) → AllBetween a b (onto ps rs) → AllBetween a b ps × AllBetween a b rs
onto_between a b [] rs h = (tt, h)
onto_between a b (p ∷ ps) rs h = let w = onto_between a b ps (p ∷ rs) h in ((w.1.0, w.0), w.1.1)

-- ---- tests

dec_label : {P : Type 0} (order : P → P → Ordering) → IsTotalOrder order → Separates order → (a b : P) → Dec (a ≡ b)
dec_label {P = P} order o same a b = go (order a b) refl
  where
    go : (r : Ordering) → order a b ≡ r → Dec (a ≡ b)
    go Less e = no (λ q. let t = tied_itself o b in let u : order b b ≡ Less = subst (λ z. order z b ≡ Less) q e in cc)
    go Equal e = yes (same a b e)
    go Greater e = no (λ q. let t = tied_itself o b in let u : order b b ≡ Greater = subst (λ z. order z b ≡ Greater) q e in cc)

dec_has : (y : List Span) (grid_point : List ℤ) → Dec (Has y grid_point)
dec_has [] [] = yes tt
dec_has [] (p ∷ ps) = no (λ h. h)
dec_has (i ∷ is) [] = no (λ h. h)
dec_has (i ∷ is) (p ∷ ps) =
    by_lt_z p i.0 (λ l. no (λ h. let a = h.0 in omega (arith, ints))) (λ a.
    by_lt_z i.1 p (λ l. no (λ h. let b = h.1 in omega (arith, ints))) (λ b.
    elim (dec_has is ps) [ yes h ↦ yes (a, b, h) | no n ↦ no (λ h. n h.2) ]))

dec_in_boxes : {P : Type 0} → ((a b : P) → Dec (a ≡ b)) → (r : List (Boxed P)) (l : P) (grid_point : List ℤ) → Dec (InBoxes r l grid_point)
dec_in_boxes test [] l grid_point = no (λ w. w.1)
dec_in_boxes {P = P} test (x ∷ r) l grid_point = go (test x.0 l) (dec_has x.1 grid_point) (dec_in_boxes test r l grid_point)
  where
    go : Dec (x.0 ≡ l) → Dec (Has x.1 grid_point) → Dec (InBoxes r l grid_point) → Dec (InBoxes (x ∷ r) l grid_point)
    go a b (yes w) = yes (w.0, inr w.1, w.2)
    go (yes e) (yes h) (no n) = yes (x.1, inl (λ i. (e i, x.1)), h)
    go (no e) b (no n) = no (λ w. elim w.1 [ inl q ↦ e (ap (λ (z : Boxed P). z.0) q) | inr m ↦ n (w.0, m, w.2) ])
    go (yes e) (no h) (no n) = no (λ w. elim w.1 [ inl q ↦ h (subst (λ z. Has z grid_point) (sym (ap (λ (z : Boxed P). z.1) q)) w.2) | inr m ↦ n (w.0, m, w.2) ])

-- ---- the packed form

abbrev pub AllHave : {P : Type 0} → ℕ → List (Boxed P) → Type 0
AllHave {P = P} k r = (x : Boxed P) → Among x r → length x.1 ≡ k

pub grid_point_length : {P : Type 0} (k : ℕ) (r : List (Boxed P)) → AllHave k r → (l : P) (grid_point : List ℤ) → InBoxes r l grid_point → length grid_point ≡ k
grid_point_length k r h l grid_point g = has_length g.0 grid_point g.2 ∙ h (l, g.0) g.1

module _ {P : Type 0} (order : P → P → Ordering) (o : IsTotalOrder order) (same : Separates order) (k : ℕ) where
  abbrev Packed : List (Boxed P) → List (Boxed P)
  Packed r = packed_boxes order k r

  members : (r : List (Boxed P)) → AllHave k r → (x : Boxed P) → Among x (Packed r) ↔ ((length x.1 ≡ k) × packs k (points_of (InBoxes r x.0)) x.1)
  members r h x = in_packed_form (boxed_cmp order) (boxed_total o) (boxed_separates same) k r h x

  fits : (r : List (Boxed P)) → AllHave k r → (l : P) (ps : List ℤ) → InBoxes r l (onto ps []) → (length ps ≡ k) × AllBetween (boxes_bounds r l).0 (boxes_bounds r l).1 ps
  fits r h l ps s =
      let m : length (onto ps []) ≡ k = grid_point_length k r h l (onto ps []) s in
      let n : length (onto ps []) ≡ length ps + 0 = length_onto ps [] in
      (omega arith, (onto_between (boxes_bounds r l).0 (boxes_bounds r l).1 ps [] ((boxes_bounds r l).2 (onto ps []) s)).0)

  -- the packed form has each place of the boxes
  pub in_packed_box : (r : List (Boxed P)) → AllHave k r → (l : P) (grid_point : List ℤ) → InBoxes r l grid_point → InBoxes (Packed r) l grid_point
  in_packed_box r h l grid_point g =
      let S : List ℤ → Type 0 = InBoxes r l in
      let b : Span = ((boxes_bounds r l).0, (boxes_bounds r l).1) in
      let s : S (onto (onto grid_point []) []) = subst S (sym (onto_twice grid_point [])) g in
      let v = box_at (each_side k b) (λ ps. S (onto ps [])) (λ ps. dec_in_boxes (dec_label order o same) r l (onto ps [])) (within_each k b (λ ps. S (onto ps [])) (fits r h l)) (onto grid_point []) s in
      let is : List Span = v.0 in
      let a : length (onto grid_point []) ≡ k = (fits r h l (onto grid_point []) s).0 in
      let n : length (onto grid_point []) ≡ length is = has_length is (onto grid_point []) v.1 in
      let e : length (turn is) ≡ k = length_turn is ∙ sym n ∙ a in
      let t : sides_back (length (turn is)) (turn is) ≡ is = turned_sides (turn is) ∙ turn_twice is in
      let p : packs (length (turn is)) (points_of S) (turn is) = (packs_is S (turn is)).1 (subst (IsPacked (λ ps. S (onto ps []))) (sym t) v.2) in
      (turn is, (members r h (l, turn is)).1 (e, subst (λ m. packs m (points_of S) (turn is)) e p), subst (Has (turn is)) (onto_twice grid_point []) (has_turned is (onto grid_point []) v.1))

  back_packed : (r : List (Boxed P)) → AllHave k r → (l : P) (y : List Span) → Among (l, y) (Packed r) → IsPacked (λ ps. InBoxes r l (onto ps [])) (turn y)
  back_packed r h l y m =
      let S : List ℤ → Type 0 = InBoxes r l in
      let w = (members r h (l, y)).0 m in
      let p : packs (length y) (points_of S) y = subst (λ n. packs n (points_of S) y) (sym w.0) w.1 in
      subst (IsPacked (λ ps. S (onto ps []))) (turned_sides y) ((packs_is S y).0 p)

  -- and no other
  pub from_packed_box : (r : List (Boxed P)) → AllHave k r → (l : P) (grid_point : List ℤ) → InBoxes (Packed r) l grid_point → InBoxes r l grid_point
  from_packed_box r h l grid_point w =
      let S : List ℤ → Type 0 = InBoxes r l in
      let q : S (onto (onto grid_point []) []) = IsPacked-points (λ ps. S (onto ps [])) (turn w.0) (onto grid_point []) (back_packed r h l w.0 w.1) (has_turned w.0 grid_point w.2) in
      subst S (onto_twice grid_point []) q

  -- and just one of its boxes has the place
  pub one_box : (r : List (Boxed P)) → AllHave k r → (l : P) (grid_point : List ℤ) (y z : List Span) → Among (l, y) (Packed r) → Among (l, z) (Packed r) → Has y grid_point → Has z grid_point → y ≡ z
  one_box r h l grid_point y z a b f g =
      let e : turn y ≡ turn z = IsPacked-one (λ ps. InBoxes r l (onto ps [])) (turn y) (turn z) (onto grid_point []) (back_packed r h l y a) (back_packed r h l z b) (has_turned y grid_point f) (has_turned z grid_point g) in
      sym (turn_twice y) ∙ ap turn e ∙ turn_twice z

  -- lists with the same places have one packed form, and others have not
  pub packed_from_same : (left right : List (Boxed P)) → AllHave k left → AllHave k right → ((l : P) (grid_point : List ℤ) → InBoxes left l grid_point ↔ InBoxes right l grid_point) → Packed left ≡ Packed right
  packed_from_same left right hl hr e =
      packed_form_is (boxed_cmp order) (boxed_total o) (boxed_separates same) k right (Packed left) hr (packed_ascends (boxed_cmp order) (boxed_total o) (boxed_separates same) k left) (λ x.
      let a = members left hl x in
      let s = packs-iff k (points_of (InBoxes left x.0)) (points_of (InBoxes right x.0)) (points-iff (InBoxes left x.0) (InBoxes right x.0) (e x.0)) x.1 in
      (λ m. let v = a.0 m in (v.0, s.0 v.1), λ v. a.1 (v.0, s.1 v.1)))

  pub same_from_packed : (left right : List (Boxed P)) → AllHave k left → AllHave k right → Packed left ≡ Packed right → (l : P) (grid_point : List ℤ) → InBoxes left l grid_point ↔ InBoxes right l grid_point
  same_from_packed left right hl hr e l grid_point = (
    λ h. from_packed_box right hr l grid_point (subst (λ r. InBoxes r l grid_point) e (in_packed_box left hl l grid_point h)),
    λ h. from_packed_box left hl l grid_point (subst (λ r. InBoxes r l grid_point) (sym e) (in_packed_box right hr l grid_point h)),
  )

pub both_have : {L : Type 0} (k : ℕ) (left right : List (Boxed L)) → AllHave k left → AllHave k right → AllHave k (left ++ right)
both_have k left right hl hr x m = elim ((among_append x left right).0 m) [ inl a ↦ hl x a | inr a ↦ hr x a ]

pub both_boxes : {L : Type 0} (xs ys : List (Boxed L)) (l : L) (grid_point : List ℤ) → InBoxes (xs ++ ys) l grid_point ↔ InBoxes xs l grid_point ⊎ InBoxes ys l grid_point
both_boxes xs ys l grid_point = (
  λ w. elim ((among_append (l, w.0) xs ys).0 w.1) [ inl m ↦ inl (w.0, m, w.2) | inr m ↦ inr (w.0, m, w.2) ],
  λ w. elim w [ inl v ↦ (v.0, (among_append (l, v.0) xs ys).1 (inl v.1), v.2) | inr v ↦ (v.0, (among_append (l, v.0) xs ys).1 (inr v.1), v.2) ],
)
