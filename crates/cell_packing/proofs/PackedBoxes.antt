-- What is in unpacked and in packed lists of labelled boxes.
use Rattle.std.proofs.Common.{◌≡◌, ℕ, zero, suc, ◌+◌, ◌<◌, ◌≤◌, Bool, true, false, not, ◌&&◌, ℤ, pos, ◌+ℤ◌, ◌-ℤ◌, ◌≤ℤ◌, List, [], ◌∷◌, ◌++◌, length, get_or, set, map, ◌↔◌, inl, inr, arith, sym, ap, subst, refl, ◌∙◌, Ordering}
use Rattle.std.specs.declared.cmp.Ordering.TheVariants.{Less, Equal, Greater}
use Rattle.std.proofs.lemmas.Int.{ints}
use Rattle.std.specs.Int.RustNames.{int_le}
use Rattle.std.proofs.Math.ListN.{length-set}
use Rattle.std.proofs.lemmas.Bool.{and_parts, and_from, or_cases, or_left, or_right, true≢false}
use Rattle.std.proofs.lemmas.Cmp.{tied_itself}
use Rattle.std.specs.Cmp.{IsTotalOrder}
use Rattle.std.specs.Ordering.{eq_by_cmp, is_eq}
use Rattle.std.specs.List.{filter, flat_map, list_all, list_any}
use Rattle.base_core.specs.Sets.{in_order, has}
use Rattle.base_core.proofs.SetLemmas.{In, Ascends, Separates, In-in_order, Ascends-in_order, same_by_members}
use Rattle.base_core.proofs.IntLemmas.{int_le-le, le-int_le}
use Rattle.interval_core.specs.Members.{Span, at_point, members}
use Rattle.interval_core.specs.Packing.{Side, unpack1, unpack, pack1, pack_each, pack, is_longest, has_at, spanned}
use Rattle.cell_packing.specs.Packed.{IsRun, nowhere, ArePoints, firsts, points_of, Has, packs}
use Rattle.cell_packing.specs.Covering.{Among}
use Rattle.cell_packing.specs.Boxed.{Boxed, side, sides_from, InBoxes}
use Rattle.cell_packing.proofs.Runs.{IsRun-iff}
use Rattle.cell_packing.proofs.AmongLemmas.{among_map, among_flat, among_filter, among_members, all_among}

-- two words for one thing
pub among_in : {X : Type 0} (x : X) (xs : List X) → Among x xs ↔ In x xs
among_in x [] = (λ h. h, λ h. h)
among_in x (y ∷ ys) =
    let ih = among_in x ys in
    (λ h. elim h [ inl e ↦ inl (sym e) | inr w ↦ inr (ih.0 w) ], λ h. elim h [ inl e ↦ inl (sym e) | inr w ↦ inr (ih.1 w) ])

set_set : (y : List Span) (j : ℕ) (u v : Span) → set (set y j u) j v ≡ set y j v
set_set [] j u v = refl
set_set (x ∷ xs) zero u v = refl
set_set (x ∷ xs) (suc j) u v = ap (λ zs. x ∷ zs) (set_set xs j u v)

set_itself : (y : List Span) (j : ℕ) → set y j (get_or y j nowhere) ≡ y
set_itself [] j = refl
set_itself (x ∷ xs) zero = refl
set_itself (x ∷ xs) (suc j) = ap (λ zs. x ∷ zs) (set_itself xs j)

get_set : (y : List Span) (j : ℕ) (v : Span) → j < length y → get_or (set y j v) j nowhere ≡ v
get_set [] j v h = absurd (omega arith)
get_set (x ∷ xs) zero v h = refl
get_set (x ∷ xs) (suc j) v h = get_set xs j v (omega arith)

not_both : (b : Bool) → not b ≡ true → b ≡ true → ⊥
not_both true e f = true≢false (sym e)
not_both false e f = true≢false (sym f)

neither : (b : Bool) → (b ≡ true → ⊥) → not b ≡ true
neither true h = absurd (h refl)
neither false h = refl

-- y is x, with a point of each of the first j sides in place of the side
abbrev UnpacksTo : ℕ → List Span → List Span → Type 0
UnpacksTo zero x y = x ≡ y
UnpacksTo (suc j) [] y = ⊥
UnpacksTo (suc j) (i ∷ is) [] = ⊥
UnpacksTo (suc j) (i ∷ is) (k ∷ ks) = ((k.0 ≡ k.1) × (i.0 ≤ℤ k.0) × (k.0 ≤ℤ i.1)) × UnpacksTo j is ks

abbrev Step : ℕ → List Span → List Span → Type 0
Step j x y = (z : List Span) × (p : ℤ) × UnpacksTo j x z × (j < length z) × ((get_or z j nowhere).0 ≤ℤ p) × (p ≤ℤ (get_or z j nowhere).1) × (set z j (at_point p) ≡ y)

to_step : (j : ℕ) (x y : List Span) → UnpacksTo (suc j) x y → Step j x y
to_step j [] y h = absurd h
to_step j (i ∷ is) [] h = absurd h
to_step zero (i ∷ is) (k ∷ ks) h = (i ∷ is, k.0, refl, omega arith, h.0.1, h.0.2, λ t. (k.0, h.0.0 t) ∷ h.1 t)
to_step (suc j) (i ∷ is) (k ∷ ks) h =
    let w = to_step j is ks h.1 in
    (k ∷ w.0, w.1, (h.0, w.2), omega (arith, w.3), w.4, w.5, λ t. k ∷ w.6 t)

head_is : (k m : Span) (ks ms : List Span) → k ∷ ks ≡ m ∷ ms → k ≡ m
head_is k m ks ms e = cc

tail_is : (k m : Span) (ks ms : List Span) → k ∷ ks ≡ m ∷ ms → ks ≡ ms
tail_is k m ks ms e = cc

from_step : (j : ℕ) (x y z : List Span) (p : ℤ) → UnpacksTo j x z → j < length z → (get_or z j nowhere).0 ≤ℤ p → p ≤ℤ (get_or z j nowhere).1 → set z j (at_point p) ≡ y → UnpacksTo (suc j) x y
from_step j x y [] p h l a b e = absurd (omega arith)
from_step zero x y (m ∷ ms) p h l a b e =
    let u : UnpacksTo 1 (m ∷ ms) (at_point p ∷ ms) = ((refl, a, b), refl) in
    let v : UnpacksTo 1 x (at_point p ∷ ms) = subst (λ w. UnpacksTo 1 w (at_point p ∷ ms)) (sym h) u in
    subst (UnpacksTo 1 x) e v
from_step (suc j) [] y (m ∷ ms) p h l a b e = absurd h
from_step (suc j) (i ∷ is) y (m ∷ ms) p h l a b e =
    subst (UnpacksTo (suc (suc j)) (i ∷ is)) e (h.0, from_step j is (set ms j (at_point p)) ms p h.1 (omega arith) a b refl)

-- of all sides
all_to : (x y : List Span) → UnpacksTo (length y) x y → ArePoints y × Has x (firsts y)
all_to x [] h = let g : x ≡ [] = h in (tt, subst (λ w. Has w []) (sym g) tt)
all_to [] (k ∷ ks) h = absurd h
all_to (i ∷ is) (k ∷ ks) h = let w = all_to is ks h.1 in ((h.0.0, w.0), (h.0.1, h.0.2, w.1))

all_from : (x y : List Span) → ArePoints y → Has x (firsts y) → UnpacksTo (length y) x y
all_from [] [] a h = refl
all_from (i ∷ is) [] a h = absurd h
all_from [] (k ∷ ks) a h = absurd h
all_from (i ∷ is) (k ∷ ks) a h = ((a.0, h.0, h.1), all_from is ks a.1 h.2)

pub packs-iff : (n k : ℕ) (r r' : List Span → Type 0) → ((y : List Span) → length y ≡ n → r y ↔ r' y) → (y : List Span) → length y ≡ n → packs k r y → packs k r' y
packs-iff n zero r r' e y l h = (e y l).0 h
packs-iff n (suc k) r r' e y l h =
    IsRun-iff _ _ (λ p.
    let l' : length (set y k (at_point p)) ≡ n = length-set y k (at_point p) ∙ l in
    (packs-iff n k r r' e _ l', packs-iff n k r' r (λ z m. ((e z m).1, (e z m).0)) _ l')) _ h

module _ {P : Type 0} (R : Boxed P → Boxed P → Ordering) (o : IsTotalOrder R) (same : Separates R) where
  any_among : (q : Boxed P) (ks : List (Boxed P)) → (has R ks q ≡ true) ↔ Among q ks
  any_among q [] = (λ e. absurd (true≢false (sym e)), λ h. absurd h)
  any_among q (k ∷ ks) =
      let ih = any_among q ks in (
        λ e. elim (or_cases (is_eq (R q k)) (list_any (eq_by_cmp R q) ks) e) [ inl w ↦ inl (sym (same q k (equal (R q k) w))) | inr w ↦ inr (ih.0 w) ],
        λ h. elim h [
          | inl w ↦ or_left (is_eq (R q k)) _ (subst (λ z. is_eq (R q z) ≡ true) (sym w) (ap is_eq (tied_itself o q)))
          | inr w ↦ or_right (is_eq (R q k)) _ (ih.1 w)
        ],
      )
    where
      equal : (r : Ordering) → is_eq r ≡ true → r ≡ Equal
      equal Less e = absurd (true≢false (sym e))
      equal Equal e = refl
      equal Greater e = absurd (true≢false (sym e))

  pub among_in_order : (ks : List (Boxed P)) (q : Boxed P) → Among q (in_order R ks) ↔ Among q ks
  among_in_order ks q =
      let a = among_in q (in_order R ks) in
      let b = among_in q ks in
      let c = In-in_order R o same q ks in
      (λ h. b.1 (c.0 (a.0 h)), λ h. a.1 (c.1 (b.0 h)))

  candidate : (j : ℕ) (r : List (Boxed P)) (y : Boxed P) → j < length y.1 → IsRun (λ p. Among ((side j).put y (at_point p)) r) ((side {P = P} j).of y) → Among y (spanned R (side j) r)
  candidate j r y h g =
      let i : Span = get_or y.1 j nowhere in
      let some = g.some in
      let x : Boxed P = (y.0, set y.1 j (at_point i.0)) in
      let z : Boxed P = (y.0, set y.1 j (at_point i.1)) in
      let a : Among x r = g.each i.0 (omega (arith, ints)) some in
      let b : Among z r = g.each i.1 some (omega (arith, ints)) in
      let sx : get_or x.1 j nowhere ≡ at_point i.0 = get_set y.1 j (at_point i.0) h in
      let sz : get_or z.1 j nowhere ≡ at_point i.1 = get_set y.1 j (at_point i.1) h in
      let e : set (set y.1 j (at_point i.0)) j ((get_or x.1 j nowhere).0, (get_or z.1 j nowhere).1) ≡ y.1 =
      set_set y.1 j (at_point i.0) ((get_or x.1 j nowhere).0, (get_or z.1 j nowhere).1) ∙ (λ t. set y.1 j ((sx t).0, (sz t).1)) ∙ set_itself y.1 j in
      (among_flat _ y r).1 (x, a, (among_map _ y r).1 (z, b, λ t. (y.0, e t)))

  -- a row is in the packed list exactly where its side is a longest run of the list
  in_pack1 : (j : ℕ) (r : List (Boxed P)) (y : Boxed P) → j < length y.1 → Among y (pack1 R (side j) r) ↔ IsRun (λ p. Among ((side j).put y (at_point p)) r) ((side {P = P} j).of y)
  in_pack1 j r y h =
      let holds : ℤ → Bool = has_at R (side j) r y in
      let at : (p : ℤ) → (holds p ≡ true) ↔ Among ((side j).put y (at_point p)) r = λ p. any_among ((side j).put y (at_point p)) r in
      let i : Span = get_or y.1 j nowhere in
      let l = among_in_order (filter (is_longest R (side j) r) (spanned R (side j) r)) y in
      let f = among_filter (is_longest R (side j) r) y (spanned R (side j) r) in
      let a = all_among holds (members i) in
      let none_before : Bool = not (holds (i.0 -ℤ pos 1)) in
      let none_after : Bool = not (holds (i.1 +ℤ pos 1)) in (
        λ w. let v = f.0 (l.0 w) in
            let s = and_parts (int_le i.0 i.1) (list_all holds (members i) && (none_before && none_after)) v.1 in
            let t = and_parts (list_all holds (members i)) (none_before && none_after) s.1 in
            let u = and_parts none_before none_after t.1 in
            record {
              some = int_le-le i.0 i.1 s.0;
              each = λ p g k. (at p).0 ((a.0 t.0) p ((among_members i p).1 (g, k)));
              before = λ q. not_both _ u.0 ((at _).1 q);
              after = λ q. not_both _ u.1 ((at _).1 q);
            },
        λ g. l.1 (f.1 (
          candidate j r y h g,
          and_from (int_le i.0 i.1) _ (le-int_le i.0 i.1 g.some)
              (and_from (list_all holds (members i)) (none_before && none_after) (a.1 (λ p m. let c = (among_members i p).0 m in (at p).1 (g.each p c.0 c.1)))
              (and_from none_before none_after (neither _ (λ q. g.before ((at _).0 q))) (neither _ (λ q. g.after ((at _).0 q))))),
        )),
      )

  in_unpack1 : (j : ℕ) (r : List (Boxed P)) (y : Boxed P) → Among y (unpack1 R (side j) r) ↔ ((x : Boxed P) × (p : ℤ) × Among x r × ((get_or x.1 j nowhere).0 ≤ℤ p) × (p ≤ℤ (get_or x.1 j nowhere).1) × ((x.0, set x.1 j (at_point p)) ≡ y))
  in_unpack1 j r y =
      let f : Boxed P → List (Boxed P) = λ x. map (λ p. (x.0, set x.1 j (at_point p))) (members (get_or x.1 j nowhere)) in
      let l = among_in_order (flat_map f r) y in
      let a = among_flat f y r in (
        λ h. let w = a.0 (l.0 h) in
            let v = (among_map (λ p. ((w.0).0, set (w.0).1 j (at_point p))) y (members (get_or (w.0).1 j nowhere))).0 w.2 in
            let n = (among_members (get_or (w.0).1 j nowhere) v.0).0 v.1 in
            (w.0, v.0, w.1, n.0, n.1, v.2),
        λ h. l.1 (a.1 (h.0, h.2, (among_map (λ p. ((h.0).0, set (h.0).1 j (at_point p))) y (members (get_or (h.0).1 j nowhere))).1 (h.1, (among_members (get_or (h.0).1 j nowhere) h.1).1 (h.3, h.4), h.5))),
      )

  -- ---- side after side, the last of them apart

  last_side : (n k : ℕ) → sides_from {P = P} n (suc k) ≡ sides_from n k ++ side (n + k) ∷ []
  last_side n zero = let e : n ≡ n + 0 = omega arith in ap (λ m. side m ∷ []) e
  last_side n (suc k) =
      let e : suc n + k ≡ n + suc k = omega arith in
      ap (λ ss. side n ∷ ss) (last_side (suc n) k ∙ ap (λ m. sides_from (suc n) k ++ side m ∷ []) e)

  unpack_last : (ss : List (Side (Boxed P))) (a : Side (Boxed P)) (r : List (Boxed P)) → unpack R (ss ++ a ∷ []) r ≡ unpack1 R a (unpack R ss r)
  unpack_last [] a r = refl
  unpack_last (s ∷ ss) a r = unpack_last ss a (unpack1 R s r)

  pack_last : (ss : List (Side (Boxed P))) (a : Side (Boxed P)) (r : List (Boxed P)) → pack_each R (ss ++ a ∷ []) r ≡ pack1 R a (pack_each R ss r)
  pack_last [] a r = refl
  pack_last (s ∷ ss) a r = pack_last ss a (pack1 R s r)

  unpack_more : (k : ℕ) (r : List (Boxed P)) → unpack R (sides_from 0 (suc k)) r ≡ unpack1 R (side k) (unpack R (sides_from 0 k) r)
  unpack_more k r =
      let e : 0 + k ≡ k = omega arith in
      ap (λ ss. unpack R ss r) (last_side 0 k) ∙ unpack_last (sides_from 0 k) (side (0 + k)) r ∙ ap (λ m. unpack1 R (side m) (unpack R (sides_from 0 k) r)) e

  pack_more : (k : ℕ) (r : List (Boxed P)) → pack_each R (sides_from 0 (suc k)) r ≡ pack1 R (side k) (pack_each R (sides_from 0 k) r)
  pack_more k r =
      let e : 0 + k ≡ k = omega arith in
      ap (λ ss. pack_each R ss r) (last_side 0 k) ∙ pack_last (sides_from 0 k) (side (0 + k)) r ∙ ap (λ m. pack1 R (side m) (pack_each R (sides_from 0 k) r)) e

  -- packed on the first k sides, as a computed list and as a set of rows
  in_packs : (k : ℕ) (r : List (Boxed P)) (l : P) (y : List Span) → k ≤ length y → Among (l, y) (pack_each R (sides_from 0 k) r) ↔ packs k (λ z. Among (l, z) r) y
  in_packs zero r l y h = (λ w. w, λ w. w)
  in_packs (suc k) r l y h =
      let w = in_pack1 k (pack_each R (sides_from 0 k) r) (l, y) h in
      let e : (p : ℤ) → Among (l, set y k (at_point p)) (pack_each R (sides_from 0 k) r) ↔ packs k (λ z. Among (l, z) r) (set y k (at_point p)) =
      λ p. in_packs k r l (set y k (at_point p)) (omega (arith, length-set y k (at_point p))) in
      let i : Span = get_or y k nowhere in
      let m = pack_more k r in (
        λ g. IsRun-iff _ _ e i (w.0 (subst (Among (l, y)) m g)),
        λ g. subst (Among (l, y)) (sym m) (w.1 (IsRun-iff _ _ (λ p. ((e p).1, (e p).0)) i g)),
      )

  -- the rows of r, at a point of each of the first j sides
  in_unpack : (k j : ℕ) (r : List (Boxed P)) → ((x : Boxed P) → Among x r → length x.1 ≡ k) → j ≤ k → (y : Boxed P) → Among y (unpack R (sides_from 0 j) r) ↔ ((x : List Span) × Among (y.0, x) r × UnpacksTo j x y.1)
  in_unpack k zero r sides h y = (λ w. (y.1, w, refl), λ w. subst (λ x. Among (y.0, x) r) w.2 w.1)
  in_unpack k (suc j) r sides h y =
      let a = in_unpack1 j (unpack R (sides_from 0 j) r) y in
      let m = unpack_more j r in (
        λ w. let v = a.0 (subst (Among y) m w) in
            let u = (in_unpack k j r sides (omega arith) v.0).0 v.2 in
            let q : (v.0).0 ≡ y.0 = ap (λ (x : Boxed P). x.0) v.5 in
            let s : set (v.0).1 j (at_point v.1) ≡ y.1 = ap (λ (x : Boxed P). x.1) v.5 in
            let l : length (u.0) ≡ k = sides _ u.1 in
            (u.0, subst (λ n. Among (n, u.0) r) q u.1, from_step j u.0 y.1 (v.0).1 v.1 u.2 (long j u.0 (v.0).1 u.2 (omega arith)) v.3 v.4 s),
        λ w. let v = to_step j w.0 y.1 w.2 in
            subst (Among y) (sym m) (a.1 ((y.0, v.0), v.1, (in_unpack k j r sides (omega arith) (y.0, v.0)).1 (w.0, w.1, v.2), v.4, v.5, λ t. (y.0, v.6 t))),
      )
    where
      long : (j : ℕ) (x z : List Span) → UnpacksTo j x z → j < length x → j < length z
      long zero x z h l = subst (λ w. 0 < length w) h l
      long (suc j) [] z h l = absurd h
      long (suc j) (i ∷ is) [] h l = absurd h
      long (suc j) (i ∷ is) (m ∷ ms) h l = let w = long j is ms h.1 (omega arith) in omega arith

  -- unpacked rows are the rows of single points at the places of the label
  pub in_unpacked : (k : ℕ) (r : List (Boxed P)) → ((x : Boxed P) → Among x r → length x.1 ≡ k) → (l : P) (z : List Span) → length z ≡ k → Among (l, z) (unpack R (sides_from 0 k) r) ↔ points_of (InBoxes r l) z
  in_unpacked k r sides l z m =
      let w = in_unpack k k r sides (omega arith) (l, z) in (
        λ h. let v = w.0 h in let t = all_to v.0 z (subst (λ n. UnpacksTo n v.0 z) (sym m) v.2) in (t.0, (v.0, v.1, t.1)),
        λ h. w.1 (h.1.0, h.1.1, subst (λ n. UnpacksTo n h.1.0 z) m (all_from h.1.0 z h.0 h.1.2)),
      )

  -- the packed list has the rows that packing the set side after side gives
  pub in_pack : (k : ℕ) (r : List (Boxed P)) → ((x : Boxed P) → Among x r → length x.1 ≡ k) → (l : P) (y : List Span) → length y ≡ k → Among (l, y) (pack R (sides_from 0 k) r) ↔ packs k (points_of (InBoxes r l)) y
  in_pack k r sides l y e =
      let u : (z : List Span) → length z ≡ k → Among (l, z) (unpack R (sides_from 0 k) r) ↔ points_of (InBoxes r l) z = λ z m. in_unpacked k r sides l z m in
      let a = in_packs k (unpack R (sides_from 0 k) r) l y (omega arith) in (
        λ h. packs-iff k k _ _ u y e (a.0 h),
        λ h. a.1 (packs-iff k k _ _ (λ z m. ((u z m).1, (u z m).0)) y e h),
      )

  -- ---- each row keeps its number of sides

  abbrev AllHave : ℕ → List (Boxed P) → Type 0
  AllHave k r = (x : Boxed P) → Among x r → length x.1 ≡ k

  have_unpack1 : (k j : ℕ) (r : List (Boxed P)) → AllHave k r → AllHave k (unpack1 R (side j) r)
  have_unpack1 k j r h y m =
      let w = (in_unpack1 j r y).0 m in
      let e : length (set (w.0).1 j (at_point w.1)) ≡ length y.1 = ap (λ (x : Boxed P). length x.1) w.5 in
      sym e ∙ length-set (w.0).1 j (at_point w.1) ∙ h w.0 w.2

  have_pack1 : (k j : ℕ) (r : List (Boxed P)) → AllHave k r → AllHave k (pack1 R (side j) r)
  have_pack1 k j r h y m =
      let f = (among_filter (is_longest R (side j) r) y (spanned R (side j) r)).0 ((among_in_order (filter (is_longest R (side j) r) (spanned R (side j) r)) y).0 m) in
      let w = (among_flat (λ (x : Boxed P). map (λ (z : Boxed P). (x.0, set x.1 j ((get_or x.1 j nowhere).0, (get_or z.1 j nowhere).1))) r) y r).0 f.0 in
      let v = (among_map (λ (z : Boxed P). ((w.0).0, set (w.0).1 j ((get_or (w.0).1 j nowhere).0, (get_or z.1 j nowhere).1))) y r).0 w.2 in
      let e : length (set (w.0).1 j ((get_or (w.0).1 j nowhere).0, (get_or (v.0).1 j nowhere).1)) ≡ length y.1 = ap (λ (x : Boxed P). length x.1) v.2 in
      sym e ∙ length-set (w.0).1 j ((get_or (w.0).1 j nowhere).0, (get_or (v.0).1 j nowhere).1) ∙ h w.0 w.1

  have_unpack : (k j : ℕ) (r : List (Boxed P)) → AllHave k r → AllHave k (unpack R (sides_from 0 j) r)
  have_unpack k zero r h = h
  have_unpack k (suc j) r h = subst (AllHave k) (sym (unpack_more j r)) (have_unpack1 k j (unpack R (sides_from 0 j) r) (have_unpack k j r h))

  have_packs : (k j : ℕ) (r : List (Boxed P)) → AllHave k r → AllHave k (pack_each R (sides_from 0 j) r)
  have_packs k zero r h = h
  have_packs k (suc j) r h = subst (AllHave k) (sym (pack_more j r)) (have_pack1 k j (pack_each R (sides_from 0 j) r) (have_packs k j r h))

  pub have_pack : (k : ℕ) (r : List (Boxed P)) → AllHave k r → AllHave k (pack R (sides_from 0 k) r)
  have_pack k r h = have_packs k k (unpack R (sides_from 0 k) r) (have_unpack k k r h)

  -- ---- and is in order

  ascends_pack1 : (j : ℕ) (r : List (Boxed P)) → Ascends R (pack1 R (side j) r)
  ascends_pack1 j r = Ascends-in_order R o same (filter (is_longest R (side j) r) (spanned R (side j) r))

  ascends_unpack : (k : ℕ) (r : List (Boxed P)) → Ascends R r → Ascends R (unpack R (sides_from 0 k) r)
  ascends_unpack zero r h = h
  ascends_unpack (suc k) r h = subst (Ascends R) (sym (unpack_more k r)) (Ascends-in_order R o same (flat_map (λ (x : Boxed P). map (λ p. (side {P = P} k).put x (at_point p)) (members ((side {P = P} k).of x))) (unpack R (sides_from 0 k) r)))

  ascends_packs : (k : ℕ) (r : List (Boxed P)) → Ascends R r → Ascends R (pack_each R (sides_from 0 k) r)
  ascends_packs zero r h = h
  ascends_packs (suc k) r h = subst (Ascends R) (sym (pack_more k r)) (ascends_pack1 k (pack_each R (sides_from 0 k) r))

  -- the members of the packed form of a list of boxes with k sides
  pub in_packed_form : (k : ℕ) (r : List (Boxed P)) → AllHave k r → (x : Boxed P)
      → Among x (pack R (sides_from 0 k) (in_order R r)) ↔ ((length x.1 ≡ k) × packs k (points_of (InBoxes r x.0)) x.1)
  in_packed_form k r h x =
      let r' : List (Boxed P) = in_order R r in
      let h' : AllHave k r' = λ z m. h z ((among_in_order r z).0 m) in
      let s : (ps : List ℤ) → InBoxes r' x.0 ps ↔ InBoxes r x.0 ps = λ ps. (
        λ w. (w.0, (among_in_order r (x.0, w.0)).0 w.1, w.2),
        λ w. (w.0, (among_in_order r (x.0, w.0)).1 w.1, w.2),
      ) in
      let u : (z : List Span) → length z ≡ k → points_of (InBoxes r' x.0) z ↔ points_of (InBoxes r x.0) z = λ z m. (
        λ w. (w.0, (s (firsts z)).0 w.1),
        λ w. (w.0, (s (firsts z)).1 w.1),
      ) in (
        λ m. let l = have_pack k r' h' x m in (l, packs-iff k k _ _ u x.1 l ((in_pack k r' h' x.0 x.1 l).0 m)),
        λ w. (in_pack k r' h' x.0 x.1 w.0).1 (packs-iff k k _ _ (λ z m. ((u z m).1, (u z m).0)) x.1 w.0 w.1),
      )

  pub packed_ascends : (k : ℕ) (r : List (Boxed P)) → Ascends R (pack R (sides_from 0 k) (in_order R r))
  packed_ascends k r = ascends_packs k (unpack R (sides_from 0 k) (in_order R r)) (ascends_unpack k (in_order R r) (Ascends-in_order R o same r))

  -- a list in order that has just those members is the packed form
  pub packed_form_is : (k : ℕ) (r rows : List (Boxed P)) → AllHave k r → Ascends R rows
      → ((x : Boxed P) → Among x rows ↔ ((length x.1 ≡ k) × packs k (points_of (InBoxes r x.0)) x.1))
      → rows ≡ pack R (sides_from 0 k) (in_order R r)
  packed_form_is k r rows h a e =
      let p : List (Boxed P) = pack R (sides_from 0 k) (in_order R r) in
      same_by_members R o same rows p a (packed_ascends k r) (λ x.
      let i = among_in x rows in
      let j = among_in x p in
      let q = in_packed_form k r h x in
      (λ m. j.0 (q.1 ((e x).0 (i.1 m))), λ m. i.0 ((e x).1 (q.0 (j.1 m)))))
