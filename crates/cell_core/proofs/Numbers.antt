-- The numbering of cuts.
use Rattle.std.proofs.Common.{◌≡◌, ℕ, zero, suc, ◌+◌, ◌*◌, ◌<◌, ◌≤◌, Bool, true, false, ℤ, pos, ◌+ℤ◌, ◌≤ℤ◌, ◌<ℤ◌, List, [], ◌∷◌, ◌++◌, map, length, get_or, set, take, ◌↔◌, ◌⊎◌, inl, inr, arith, sym, ap, subst, refl, ◌∙◌, Option, Some, None}
use Rattle.std.proofs.lemmas.Int.{ints, by_lt_z}
use Rattle.std.proofs.lemmas.Bool.{cases_lt, cases_eq}
use Rattle.std.proofs.lemmas.List.{take_more, get_or-set_same, get_or-set_other, get_or_default, length-map, length_push}
use Rattle.std.proofs.lemmas.List.Elements.{All-same, All-push}
use Rattle.std.specs.List.{All}
use Rattle.std.specs.Option.{IsSome, IsNone}
use Rattle.std.specs.Ordering.{int_cmp, is_eq}
use Rattle.std.specs.FinMap.{int_cmp-IsAntisymmetric}
use Rattle.std.proofs.lemmas.Cmp.{int_cmp_total, tied_itself}
use Rattle.std.specs.declared.cmp.Ordering.TheVariants.{Less, Equal, Greater}
use Rattle.point_core.specs.Pairs.{InOrder}
use Rattle.cell_packing.specs.Covering.{Among}
use Rattle.cell_core.specs.Numbering.{cut_at, Rises, ends, IsLastOf, HasTag, IsPlaced, IsPut, IsAdded, IsCellAt, AreEnds}

pub cut_end : (ns : List ℤ) (top : ℤ) → cut_at ns top (length ns) ≡ top
cut_end [] top = omega (arith, ints)
cut_end (c ∷ cs) top = cut_end cs top

pub rises_next : (ns : List ℤ) (top : ℤ) → Rises ns top → (i : ℕ) → cut_at ns top i <ℤ cut_at ns top (suc i)
rises_next [] top r i = omega (arith, ints)
rises_next (c ∷ cs) top r zero = r.0
rises_next (c ∷ cs) top r (suc i) = rises_next cs top r.1 i

first_mono : (cs : List ℤ) (a b : ℤ) → a ≤ℤ b → cut_at cs a 0 ≤ℤ cut_at cs b 0
first_mono [] a b h = omega (arith, ints)
first_mono (c ∷ cs) a b h = omega (arith, ints)

pub rises_mono : (ns : List ℤ) (a b : ℤ) → a ≤ℤ b → Rises ns a → Rises ns b
rises_mono [] a b h r = tt
rises_mono (c ∷ cs) a b h r =
    let f = first_mono cs a b h in
    let l = r.0 in
    (omega (arith, ints), rises_mono cs a b h r.1)

pub rises_strict : (ns : List ℤ) (p : ℤ) → Rises ns (p +ℤ pos 1) → (IsLastOf ns p → ⊥) → Rises ns p
rises_strict [] p r n = tt
rises_strict (c ∷ []) p r n =
    let l = r.0 in
    by_lt_z c p (λ h. (omega (arith, ints), tt)) (λ h. let e : c ≡ p = omega (arith, ints) in absurd (n e))
rises_strict (c ∷ y ∷ ys) p r n = (r.0, rises_strict (y ∷ ys) p r.1 n)

pub rises_push : (ns : List ℤ) (p : ℤ) → Rises ns p → Rises (ns ++ p ∷ []) (p +ℤ pos 1)
rises_push [] p r = (omega (arith, ints), tt)
rises_push (c ∷ []) p r = let l = r.0 in (omega (arith, ints), (omega (arith, ints), tt))
rises_push (c ∷ y ∷ ys) p r = (r.0, rises_push (y ∷ ys) p r.1)

last_push : (ns : List ℤ) (p : ℤ) → IsLastOf (ns ++ p ∷ []) p
last_push [] p = refl
last_push (c ∷ []) p = refl
last_push (c ∷ y ∷ ys) p = last_push (y ∷ ys) p

cut_last : (ns : List ℤ) (top p : ℤ) (m : ℕ) → IsLastOf ns p → suc m ≡ length ns → cut_at ns top m ≡ p
cut_last [] top p m h e = absurd h
cut_last (x ∷ []) top p zero h e = h
cut_last (x ∷ []) top p (suc m) h e = absurd (omega arith)
cut_last (x ∷ y ∷ ys) top p zero h e = absurd (omega arith)
cut_last (x ∷ y ∷ ys) top p (suc m) h e = cut_last (y ∷ ys) top p m h (omega arith)

last_some : (ns : List ℤ) (p : ℤ) → IsLastOf ns p → 0 < length ns
last_some [] p h = absurd h
last_some (x ∷ xs) p h = omega arith

cut_push : (ns : List ℤ) (p top : ℤ) (i : ℕ) → i < length ns → cut_at (ns ++ p ∷ []) top i ≡ cut_at ns top i
cut_push [] p top i h = absurd (omega arith)
cut_push (c ∷ cs) p top zero h = refl
cut_push (c ∷ cs) p top (suc i) h = cut_push cs p top i (omega arith)

pub last_get : {P : Type 0} (n : P → ℤ) (xs : List P) (m : ℕ) (x : P) (p : ℤ) → suc m ≡ length xs → x ≡ get_or xs m x → IsLastOf (map n xs) p ↔ (n x ≡ p)
last_get n [] m x p e q = absurd (omega arith)
last_get n (a ∷ []) zero x p e q = (λ h. ap n q ∙ h, λ h. ap n (sym q) ∙ h)
last_get n (a ∷ []) (suc m) x p e q = absurd (omega arith)
last_get n (a ∷ b ∷ xs) zero x p e q = absurd (omega arith)
last_get n (a ∷ b ∷ xs) (suc m) x p e q = last_get n (b ∷ xs) m x p (omega arith) q

-- ---- cuts in order

module _ {P : Type 0} (n : P → ℤ) where
  map_push : (xs : List P) (x : P) → map n (xs ++ x ∷ []) ≡ map n xs ++ n x ∷ []
  map_push [] x = refl
  map_push (y ∷ ys) x = ap (λ zs. n y ∷ zs) (map_push ys x)

  pub added_rises : (p : P) (old new : List P) → IsAdded n p old new → Rises (map n old) (n p +ℤ pos 1) → Rises (map n new) (n p +ℤ pos 1)
  added_rises p old new h r = elim h [
    | inl w ↦ subst (λ xs. Rises (map n xs) (n p +ℤ pos 1)) (sym w.0) r
    | inr w ↦ subst (λ xs. Rises xs (n p +ℤ pos 1)) (sym (ap (map n) w.0 ∙ map_push old p)) (rises_push (map n old) (n p) (rises_strict (map n old) (n p) r w.1))
  ]

  pub added_points : (has : P → Type 0) (p : P) (old new : List P) → IsAdded n p old new → has p → All has old → All has new
  added_points has p old new h k a = elim h [
    | inl w ↦ All-same has new old w.0 a
    | inr w ↦ All-same has new _ w.0 (All-push has old p a k)
  ]

  pub added_length : (p : P) (old new : List P) → IsAdded n p old new → (length old ≤ length new) × (length new ≤ length old + 1)
  added_length p old new h = elim h [
    | inl w ↦ let e : length new ≡ length old = ap length w.0 in (omega arith, omega arith)
    | inr w ↦ let e : length new ≡ length old + 1 = ap length w.0 ∙ length_push old p in (omega arith, omega arith)
  ]

  pub added_some : (p : P) (old new : List P) → IsAdded n p old new → 0 < length new
  added_some p old new h = elim h [
    | inl w ↦ let l = last_some (map n old) (n p) w.1 in let m = length-map old n in let e : length new ≡ length old = ap length w.0 in omega arith
    | inr w ↦ let e : length new ≡ length old + 1 = ap length w.0 ∙ length_push old p in omega arith
  ]

  added_last : (p : P) (old new : List P) → IsAdded n p old new → IsLastOf (map n new) (n p)
  added_last p old new h = elim h [
    | inl w ↦ subst (λ xs. IsLastOf (map n xs) (n p)) (sym w.0) w.1
    | inr w ↦ subst (λ xs. IsLastOf xs (n p)) (sym (ap (map n) w.0 ∙ map_push old p)) (last_push (map n old) (n p))
  ]

  added_cut : (p : P) (old new : List P) (top : ℤ) (i : ℕ) → IsAdded n p old new → i < length old → cut_at (map n new) top i ≡ cut_at (map n old) top i
  added_cut p old new top i h l = elim h [
    | inl w ↦ ap (λ xs. cut_at (map n xs) top i) w.0
    | inr w ↦ ap (λ xs. cut_at xs top i) (ap (map n) w.0 ∙ map_push old p) ∙ cut_push (map n old) (n p) top i (let m = length-map old n in omega arith)
  ]

  pub next_rises : (list : List (P × ℕ)) (i : ℕ) (x d : P × ℕ) (ns : List ℤ) → InOrder n list → i + 1 < length list → x ≡ get_or list i x → Rises ns (n x.0 +ℤ pos 1) → Rises ns (n (get_or list (i + 1) d).0 +ℤ pos 1)
  next_rises list i x d ns o l q r =
      let e : n x.0 ≡ n (get_or list i d).0 = ap (λ (y : P × ℕ). n y.0) (q ∙ get_or_default list i x d (omega arith)) in
      let w : n (get_or list i d).0 ≤ℤ n (get_or list (i + 1) d).0 = elim (o i d l) [ inl v ↦ omega (arith, ints) | inr v ↦ let u = v.0 in omega (arith, ints) ] in
      rises_mono ns (n x.0 +ℤ pos 1) (n (get_or list (i + 1) d).0 +ℤ pos 1) (omega (arith, ints)) r

  -- ---- the ends_list ends

  pub length_ends : (spans : List (P × P)) → length (ends n spans) ≡ 2 * length spans
  length_ends [] = refl
  length_ends (x ∷ xs) = let w = length_ends xs in omega arith

  pub ends_even : (spans : List (P × P)) (r : ℕ) (d : P × P) → r < length spans → get_or (ends n spans) (2 * r) (pos 0) ≡ n (get_or spans r d).0
  ends_even [] r d h = absurd (omega arith)
  ends_even (x ∷ xs) zero d h = refl
  ends_even (x ∷ xs) (suc r) d h =
      let e : 2 * suc r ≡ suc (suc (2 * r)) = omega arith in
      ap (λ m. get_or (ends n (x ∷ xs)) m (pos 0)) e ∙ ends_even xs r d (omega arith)

  pub ends_odd : (spans : List (P × P)) (r : ℕ) (d : P × P) → r < length spans → get_or (ends n spans) (2 * r + 1) (pos 0) ≡ n (get_or spans r d).1 +ℤ pos 1
  ends_odd [] r d h = absurd (omega arith)
  ends_odd (x ∷ xs) zero d h = refl
  ends_odd (x ∷ xs) (suc r) d h =
      let e : 2 * suc r + 1 ≡ suc (suc (2 * r + 1)) = omega arith in
      ap (λ m. get_or (ends n (x ∷ xs)) m (pos 0)) e ∙ ends_odd xs r d (omega arith)

pub among_push : {X : Type 0} (xs : List X) (x y : X) → Among y (xs ++ x ∷ []) → Among y xs ⊎ (x ≡ y)
among_push [] x y h = elim h [ inl w ↦ inr w | inr w ↦ inl w ]
among_push (z ∷ zs) x y h = elim h [ inl w ↦ inl (inl w) | inr w ↦ elim (among_push zs x y w) [ inl v ↦ inl (inr v) | inr v ↦ inr v ] ]

pub among_prefix : {X : Type 0} (xs ys : List X) (y : X) → Among y xs → Among y (xs ++ ys)
among_prefix [] ys y h = absurd h
among_prefix (x ∷ xs) ys y h = elim h [ inl e ↦ inl e | inr w ↦ inr (among_prefix xs ys y w) ]

pub among_end : {X : Type 0} (xs : List X) (y : X) → Among y (xs ++ y ∷ [])
among_end [] y = inl refl
among_end (x ∷ xs) y = inr (among_end xs y)

pub tag_prefix : {X : Type 0} (xs ys : List (X × ℕ)) (tag : ℕ) → HasTag xs tag → HasTag (xs ++ ys) tag
tag_prefix [] ys tag h = absurd h
tag_prefix (x ∷ xs) ys tag h = elim h [ inl e ↦ inl e | inr w ↦ inr (tag_prefix xs ys tag w) ]

pub tag_end : {X : Type 0} (xs : List (X × ℕ)) (x : X × ℕ) → HasTag (xs ++ x ∷ []) x.1
tag_end [] x = inl refl
tag_end (y ∷ ys) x = inr (tag_end ys x)

tag_push : {X : Type 0} (xs : List (X × ℕ)) (x : X × ℕ) (tag : ℕ) → HasTag (xs ++ x ∷ []) tag → HasTag xs tag ⊎ (x.1 ≡ tag)
tag_push [] x tag h = elim h [ inl w ↦ inr w | inr w ↦ inl w ]
tag_push (z ∷ zs) x tag h = elim h [ inl w ↦ inl (inl w) | inr w ↦ elim (tag_push zs x tag w) [ inl v ↦ inl (inr v) | inr v ↦ inr v ] ]

-- one span more
module _ {P : Type 0} (n : P → ℤ) (has : P → Type 0) (high : ℤ) (spans : List (P × P)) (r : ℕ) (x : P × P) (old mid new : List (P × ℕ))
    (l : r < length spans) (q : x ≡ get_or spans r x) (e : mid ≡ old ++ (x.0, 2 * r) ∷ []) (put : IsPut n has high x.1 (2 * r + 1) mid new) where
  pub placed_step : has x.0 → ((y : P × ℕ) → Among y old → IsPlaced n has spans y) → (y : P × ℕ) → Among y new → IsPlaced n has spans y
  placed_step h old_placed y m =
      let len = length_ends n spans in
      let first : (z : P × ℕ) → Among z mid → IsPlaced n has spans z = λ z w. elim (among_push old (x.0, 2 * r) z (subst (Among z) e w)) [
        | inl v ↦ old_placed z v
        | inr v ↦ subst (IsPlaced n has spans) v (omega arith, ends_even n spans r x l ∙ ap (λ (s : P × P). n s.0) (sym q), h)
      ] in
      elim put [
        | inl w ↦ elim (among_push mid (w.0, 2 * r + 1) y (subst (Among y) w.1 m)) [
          | inl v ↦ first y v
          | inr v ↦ subst (IsPlaced n has spans) v (omega arith, ends_odd n spans r x l ∙ ap (λ (s : P × P). n s.1 +ℤ pos 1) (sym q) ∙ sym w.2, w.3)
        ]
        | inr w ↦ first y (subst (Among y) w.0 m)
      ]

  pub found_step : ((tag : ℕ) → tag < 2 * r → HasTag old tag ⊎ (get_or (ends n spans) tag (pos 0) ≡ high +ℤ pos 1)) → (tag : ℕ) → tag < 2 * (r + 1) → HasTag new tag ⊎ (get_or (ends n spans) tag (pos 0) ≡ high +ℤ pos 1)
  found_step old_found tag b =
      let keep : (t : ℕ) → HasTag mid t → HasTag new t = λ t h. elim put [
        | inl w ↦ subst (λ ys. HasTag ys t) (sym w.1) (tag_prefix mid _ t h)
        | inr w ↦ subst (λ ys. HasTag ys t) (sym w.0) h
      ] in
      elim (cases_lt tag (2 * r)) [
        | inl w ↦ elim (old_found tag w) [
          | inl v ↦ inl (keep tag (subst (λ ys. HasTag ys tag) (sym e) (tag_prefix old _ tag v)))
          | inr v ↦ inr v
        ]
        | inr w ↦ elim (cases_lt tag (2 * r + 1)) [
          | inl v ↦ let s : tag ≡ 2 * r = omega arith in inl (keep tag (subst (λ t. HasTag mid t) (sym s) (subst (λ ys. HasTag ys (2 * r)) (sym e) (tag_end old (x.0, 2 * r)))))
          | inr v ↦ let s : tag ≡ 2 * r + 1 = omega arith in elim put [
            | inl u ↦ inl (subst (λ t. HasTag new t) (sym s) (subst (λ ys. HasTag ys (2 * r + 1)) (sym u.1) (tag_end mid (u.0, 2 * r + 1))))
            | inr u ↦ inr (ap (λ m. get_or (ends n spans) m (pos 0)) s ∙ ends_odd n spans r x l ∙ ap (λ (w : P × P). n w.1 +ℤ pos 1) (sym q) ∙ ap (λ m. m +ℤ pos 1) u.1)
          ]
        ]
      ]

  pub count_step : length old ≤ 2 * r → length new ≤ 2 * (r + 1)
  count_step b =
      let m : length mid ≡ length old + 1 = ap length e ∙ length_push old (x.0, 2 * r) in
      elim put [
        | inl w ↦ let k : length new ≡ length mid + 1 = ap length w.1 ∙ length_push mid (w.0, 2 * r + 1) in omega arith
        | inr w ↦ let k : length new ≡ length mid = ap length w.0 in omega arith
      ]

  pub ends_step : has x.0 → AreEnds n has high spans r old → AreEnds n has high spans (r + 1) new
  ends_step h ends = record {
    placed = placed_step h ends.placed;
    found = found_step ends.found;
    count = count_step ends.count;
  }

pub ends_none : {P : Type 0} (n : P → ℤ) (has : P → Type 0) (high : ℤ) (spans : List (P × P)) (list : List (P × ℕ)) → list ≡ [] → AreEnds n has high spans 0 list
ends_none n has high spans list e = record {
  placed = λ x h. absurd (subst (Among x) e h);
  found = λ tag h. absurd (omega arith);
  count = let z : length list ≡ 0 = ap length e in omega arith;
}

-- one point more in the table
pub table_step : {P : Type 0} (n : P → ℤ) (x : P × ℕ) (old new : List P) (top : ℤ) (list : List (P × ℕ)) (i rest count c : ℕ) (before after : List ℕ)
    → IsAdded n x.0 old new → suc c ≡ length new → i < length list → x ≡ get_or list i x → length before ≡ count → after ≡ set before x.1 c
    → ((tag : ℕ) → tag < count → IsCellAt n old top rest (take i list) tag (get_or before tag 0))
    → (tag : ℕ) → tag < count → IsCellAt n new top rest (take (i + 1) list) tag (get_or after tag 0)
table_step n x old new top list i rest count c before after added e l q len w h tag b =
    let more : take (i + 1) list ≡ take i list ++ x ∷ [] = take_more list i x l ∙ ap (λ y. take i list ++ y ∷ []) (sym q) in
    let longer = (added_length n x.0 old new added).0 in
    subst (λ ys. IsCellAt n new top rest ys tag (get_or after tag 0)) (sym more)
    (elim (cases_eq x.1 tag) [
      | inl s ↦
          let v : get_or after tag 0 ≡ c = ap (λ ys. get_or ys tag 0) w ∙ ap (λ m. get_or (set before m c) tag 0) s ∙ get_or-set_same before tag c 0 (omega arith) in
          let last : cut_at (map n new) top c ≡ n x.0 = cut_last (map n new) top (n x.0) c (added_last n x.0 old new added) (e ∙ sym (length-map new n)) in
          subst (IsCellAt n new top rest (take i list ++ x ∷ []) tag) (sym v)
          (inl (x.0, subst (λ m. Among (x.0, m) (take i list ++ x ∷ [])) s (among_end (take i list) x), last, omega arith))
      | inr s ↦
          let v : get_or after tag 0 ≡ get_or before tag 0 = ap (λ ys. get_or ys tag 0) w ∙ get_or-set_other before x.1 tag c 0 (λ z. s (sym z)) in
          subst (IsCellAt n new top rest (take i list ++ x ∷ []) tag) (sym v) (elim (h tag b) [
            | inl u ↦
                let inside : get_or before tag 0 < length old = u.3 in
                inl (u.0, among_prefix (take i list) _ _ u.1, added_cut n x.0 old new top (get_or before tag 0) added inside ∙ u.2, omega arith)
            | inr u ↦ inr (u.0, λ k. elim (tag_push (take i list) x tag k) [ inl y ↦ u.1 y | inr y ↦ s y ])
          ])
    ])

-- ---- reads

is_equal : (o : _) → is_eq o ≡ true → o ≡ Equal
is_equal Less e = cc
is_equal Equal e = refl
is_equal Greater e = cc

pub cmp_equal : (a b : ℤ) (r : Bool) → r ≡ is_eq (int_cmp a b) → r ≡ true → a ≡ b
cmp_equal a b r e h = int_cmp-IsAntisymmetric a b (is_equal (int_cmp a b) (sym e ∙ h))

pub cmp_other : (a b : ℤ) (r : Bool) → r ≡ is_eq (int_cmp a b) → r ≡ false → a ≡ b → ⊥
cmp_other a b r e h q =
    let s : int_cmp a b ≡ Equal = subst (λ z. int_cmp a z ≡ Equal) q (tied_itself int_cmp_total a) in
    let f : is_eq (int_cmp a b) ≡ true = ap is_eq s in
    cc

pub some_from : {X : Type 0} (o : Option X) → (IsNone o → ⊥) → IsSome o
some_from None h = absurd (h refl)
some_from (Some x) h = refl

pub read_cut : {P : Type 0} (n : P → ℤ) (cuts : List P) (top : ℤ) (i : ℕ) (x : P) → i < length cuts → x ≡ get_or cuts i x → cut_at (map n cuts) top i ≡ n x
read_cut n [] top i x h q = absurd (omega arith)
read_cut n (c ∷ cs) top zero x h q = ap n (sym q)
read_cut n (c ∷ cs) top (suc i) x h q = read_cut n cs top i x (omega arith) q

pub read_next : {P : Type 0} (n : P → ℤ) (cuts : List P) (top : ℤ) (i : ℕ) (x : P) → i + 1 < length cuts → x ≡ get_or cuts (i + 1) x → cut_at (map n cuts) top (suc i) ≡ n x
read_next n cuts top i x h q =
    let e : i + 1 ≡ suc i = omega arith in
    read_cut n cuts top (suc i) x (omega arith) (q ∙ ap (λ m. get_or cuts m x) e)

pub read_before : {P : Type 0} (n : P → ℤ) (cuts : List P) (top : ℤ) (i : ℕ) (x : P) → Rises (map n cuts) top → i + 1 < length cuts → x ≡ get_or cuts (i + 1) x → n (get_or cuts i x) <ℤ n x
read_before n cuts top i x r h q =
    let a : cut_at (map n cuts) top i ≡ n (get_or cuts i x) = read_cut n cuts top i (get_or cuts i x) (omega arith) (get_or_default cuts i x (get_or cuts i x) (omega arith)) in
    let b = read_next n cuts top i x h q in
    let l = rises_next (map n cuts) top r i in
    omega (arith, ints)

pub read_end : {P : Type 0} (n : P → ℤ) (cuts : List P) (top : ℤ) (i : ℕ) → suc i ≡ length cuts → cut_at (map n cuts) top (suc i) ≡ top
read_end n cuts top i e = ap (cut_at (map n cuts) top) (e ∙ sym (length-map cuts n)) ∙ cut_end (map n cuts) top
