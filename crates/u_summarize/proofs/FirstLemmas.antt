-- The first number of each rank, from the pairs of ranks and numbers in order.
--     first_numbers      the numbers of the first pairs of each rank are the first ones
use Rattle.std.proofs.Common.{◌≡◌, ◌↔◌, ◌⊎◌, inl, inr, ℕ, ◌<◌, Bool, true, false, not, ◌&&◌, cond, List, [], ◌∷◌, map, get_or, Ordering, arith, refl, sym, ap, ◌∙◌, subst}
use Rattle.std.specs.Prelude.{ltb, eqb}
use Rattle.std.specs.declared.cmp.Ordering.TheVariants.{Less, Equal, Greater}
use Rattle.std.specs.List.{list_any, dedup, dedup_from}
use Rattle.std.specs.List.Retain.{IsFiltered, DiffersFromLast}
use Rattle.std.specs.List.Sorted.{IsPermutation, IsSorted}
use Rattle.std.specs.Ordering.{nat_cmp, eq_by_cmp, ordering_then}
use Rattle.std.proofs.lemmas.Bool.{and_parts, and_from, true≢false, lt-ltb, eqb-true}
use Rattle.std.proofs.lemmas.Bool.Decides.{nat_tests}
use Rattle.std.proofs.lemmas.Cmp.{nat_cmp_total}
use Rattle.std.proofs.lemmas.List.Filters.{dedup_is}
use Rattle.base_core.specs.Sets.{in_order}
use Rattle.base_core.proofs.MemberLemmas.{list_any-In}
use Rattle.base_core.proofs.SetLemmas.{Ascends, AllAfter, In-in_order, Ascends-in_order, in_order_of_sorted, same_by_members, in_after}
use Rattle.base_core.proofs.SetOperatorLemmas.{Ascends-filter}
use Rattle.base_core.proofs.OrderingLemmas.{nat_cmp-lt}
use Rattle.cell_packing.specs.Covering.{Among}
use Rattle.cell_packing.proofs.AmongLemmas.{among_map, among_filter}
use Rattle.cell_sweep.specs.Rows.{pair_cmp, pair_total}
use Rattle.cell_core.proofs.OrderLemmas.{nat_separates, pair_separates}
use Rattle.u_summarize.specs.Asked.{numbers_at, is_lower, first_ones, ranked, have_one_rank}
use Rattle.u_summarize.proofs.AskedLemmas.{in_among, from_places, to_places}

-- ---- tests of numbers and of lists

below_from : (x y : ℕ) → ltb x y ≡ true → x < y
below_from x y e = grind (arith, nat_tests)

equal_test : (x y : ℕ) → x ≡ y → eqb x y ≡ true
equal_test x y e = grind (arith, nat_tests)

unequal_from : (x y : ℕ) → eqb x y ≡ false → x ≡ y → ⊥
unequal_from x y f e = true≢false (sym (equal_test x y e) ∙ f)

pub none_any : (t : ℕ → Bool) (xs : List ℕ) → not (list_any t xs) ≡ true → (x : ℕ) → Among x xs → t x ≡ true → ⊥
none_any t xs h x m e =
    let a : list_any t xs ≡ true = (list_any-In t xs).1 (x, (in_among x xs).1 m, e) in
    true≢false (sym h ∙ ap not a)

pub any_none : (t : ℕ → Bool) (xs : List ℕ) → ((x : ℕ) → Among x xs → t x ≡ true → ⊥) → not (list_any t xs) ≡ true
any_none t xs h =
    elim (list_any t xs) as (λ b. list_any t xs ≡ b → not b ≡ true) [
      | true ↦ λ e. let w = (list_any-In t xs).0 e in absurd (h w.0 ((in_among w.0 xs).0 w.1) w.2)
      | false ↦ λ e. refl
    ] refl

-- ---- the first of each rank

module _ (ranks : List ℕ) where
  lower_parts : (r s : ℕ) → is_lower ranks r s ≡ true → (s < r) × (get_or ranks s 0 ≡ get_or ranks r 0)
  lower_parts r s h =
      let w = and_parts (ltb s r) (eqb (get_or ranks s 0) (get_or ranks r 0)) h in
      (below_from s r w.0, eqb-true (get_or ranks s 0) (get_or ranks r 0) w.1)

  lower_from : (r s : ℕ) → s < r → get_or ranks s 0 ≡ get_or ranks r 0 → is_lower ranks r s ≡ true
  lower_from r s l e =
      and_from (ltb s r) (eqb (get_or ranks s 0) (get_or ranks r 0)) (lt-ltb s r l) (equal_test (get_or ranks s 0) (get_or ranks r 0) e)

  pub first_among : (r : ℕ) (b : List ℕ) → Among r (first_ones ranks b) ↔ (Among r b × ((s : ℕ) → Among s b → s < r → get_or ranks s 0 ≡ get_or ranks r 0 → ⊥))
  first_among r b =
      let f = among_filter (λ q. not (list_any (is_lower ranks q) b)) r b in (
        λ h. let w = f.0 h in (w.0, λ s m l e. none_any (is_lower ranks r) b w.1 s m (lower_from r s l e)),
        λ h. f.1 (h.0, any_none (is_lower ranks r) b (λ s m t. let v = lower_parts r s t in h.1 s m v.0 v.1)),
      )

-- ---- pairs in order

-- the one pair comes before the other
abbrev Before : ℕ × ℕ → ℕ × ℕ → Type 0
Before x y = (x.0 < y.0) ⊎ ((x.0 ≡ y.0) × (x.1 < y.1))

then_less : (a b : Ordering) → ordering_then a b ≡ Less → (a ≡ Less) ⊎ ((a ≡ Equal) × (b ≡ Less))
then_less Less b e = inl refl
then_less Equal b e = inr (refl, e)
then_less Greater b e = absurd cc

before_from : (x y : ℕ × ℕ) → pair_cmp x y ≡ Less → Before x y
before_from x y e = elim (then_less (nat_cmp x.0 y.0) (nat_cmp x.1 y.1) e) [
  | inl l ↦ inl (nat_cmp-lt x.0 y.0 l)
  | inr w ↦ inr (nat_separates x.0 y.0 w.0, nat_cmp-lt x.1 y.1 w.1)
]

pair_ties : (x y : ℕ × ℕ) → (eqb x.0 y.0 && eqb x.1 y.1) ≡ eq_by_cmp pair_cmp x y
pair_ties x y = grind (arith, nat_tests)

-- what a sort and a dedup leave
pub pairs_from_sort : (given sorted kept : List (ℕ × ℕ)) → IsPermutation given sorted → IsSorted pair_cmp sorted → IsFiltered (DiffersFromLast (λ x y. eqb x.0 y.0 && eqb x.1 y.1)) [] sorted kept
    → kept ≡ in_order pair_cmp given
pairs_from_sort given sorted kept moved up filtered =
    let eq : ℕ × ℕ → ℕ × ℕ → Bool = λ x y. eqb x.0 y.0 && eqb x.1 y.1 in
    dedup_is eq sorted kept filtered ∙ in_order_of_sorted pair_cmp pair_total pair_separates eq pair_ties given sorted moved up

after : (k z : ℕ × ℕ) (xs : List (ℕ × ℕ)) → AllAfter pair_cmp k xs → Among z xs → Before k z
after k z xs a m = before_from k z (in_after pair_cmp pair_total pair_separates k z xs a ((in_among z xs).1 m))

-- none of its rank among them has a lower number
abbrev IsHead : ℕ × ℕ → List (ℕ × ℕ) → Type 0
IsHead z xs = Among z xs × ((w : ℕ × ℕ) → Among w xs → w.0 ≡ z.0 → w.1 < z.1 → ⊥)

first_is : (x y : ℕ × ℕ) → x ≡ y → x.0 ≡ y.0
first_is x y e = ap (λ (p : ℕ × ℕ). p.0) e

second_is : (x y : ℕ × ℕ) → x ≡ y → x.1 ≡ y.1
second_is x y e = ap (λ (p : ℕ × ℕ). p.1) e

one_head : (k z : ℕ × ℕ) → Among z (k ∷ []) ↔ IsHead z (k ∷ [])
one_head k z = (
  λ h. (
    h,
    λ w m q l. elim h [
      | inl e ↦ elim m [
        | inl f ↦ let a = second_is k z e in let b = second_is k w f in absurd (omega (arith, a, b, l))
        | inr n ↦ absurd n
      ]
      | inr n ↦ absurd n
    ],
  ),
  λ h. h.0,
)

-- x has the rank of k and comes after it
module _ (k x : ℕ × ℕ) (xs : List (ℕ × ℕ)) (z : ℕ × ℕ) (same : x.0 ≡ k.0) (above : k.1 < x.1) where
  head_with : IsHead z (k ∷ xs) → IsHead z (k ∷ x ∷ xs)
  head_with h = (
    elim h.0 [ inl e ↦ inl e | inr m ↦ inr (inr m) ],
    λ w m q l. elim m [
      | inl e ↦ h.1 w (inl e) q l
      | inr n ↦ elim n [
        | inl f ↦
            let a = first_is x w f in
            let b = second_is x w f in
            h.1 k (inl refl) (sym same ∙ a ∙ q) (omega (arith, above, b, l))
        | inr o ↦ h.1 w (inr o) q l
      ]
    ],
  )

  head_without : IsHead z (k ∷ x ∷ xs) → IsHead z (k ∷ xs)
  head_without h = (
    elim h.0 [
      | inl e ↦ inl e
      | inr n ↦ elim n [
        | inl f ↦
            let a = first_is x z f in
            let b = second_is x z f in
            absurd (h.1 k (inl refl) (sym same ∙ a) (omega (arith, above, b)))
        | inr o ↦ inr o
      ]
    ],
    λ w m q l. h.1 w (elim m [ inl e ↦ inl e | inr o ↦ inr (inr o) ]) q l,
  )

-- all of them have higher ranks than k
module _ (k : ℕ × ℕ) (xs : List (ℕ × ℕ)) (z : ℕ × ℕ) (above : (v : ℕ × ℕ) → Among v xs → k.0 < v.0) where
  head_before : (k ≡ z) ⊎ IsHead z xs → IsHead z (k ∷ xs)
  head_before h = elim h [
    | inl e ↦ (
      inl e,
      λ w m q l. elim m [
        | inl f ↦ let a = second_is k z e in let b = second_is k w f in absurd (omega (arith, a, b, l))
        | inr n ↦ let a = first_is k z e in let b = above w n in absurd (omega (arith, a, b, q))
      ],
    )
    | inr v ↦ (
      inr v.0,
      λ w m q l. elim m [
        | inl f ↦ let a = first_is k w f in let b = above z v.0 in absurd (omega (arith, a, b, q))
        | inr n ↦ v.1 w n q l
      ],
    )
  ]

  head_after : IsHead z (k ∷ xs) → (k ≡ z) ⊎ IsHead z xs
  head_after h = elim h.0 [ inl e ↦ inl e | inr m ↦ inr (m, λ w n q l. h.1 w (inr n) q l) ]

higher : (k x : ℕ × ℕ) (xs : List (ℕ × ℕ)) → k.0 < x.0 → AllAfter pair_cmp x xs → (v : ℕ × ℕ) → Among v (x ∷ xs) → k.0 < v.0
higher k x xs l a v m = elim m [
  | inl e ↦ let b = first_is x v e in omega (arith, l, b)
  | inr n ↦ elim (after x v xs a n) [ inl b ↦ omega (arith, l, b) | inr b ↦ let c = b.0 in omega (arith, l, c) ]
]

heads_from : (xs : List (ℕ × ℕ)) (k : ℕ × ℕ) → AllAfter pair_cmp k xs → Ascends pair_cmp xs → (z : ℕ × ℕ) → Among z (dedup_from have_one_rank k xs) ↔ IsHead z (k ∷ xs)
heads_from [] k a up z = one_head k z
heads_from (x ∷ xs) k a up z =
    let b : Before k x = before_from k x a.0 in
    elim (have_one_rank x k) as (λ t. have_one_rank x k ≡ t → Among z (cond t (dedup_from have_one_rank k xs) (k ∷ dedup_from have_one_rank x xs)) ↔ IsHead z (k ∷ x ∷ xs)) [
      | true ↦ λ e.
          let same : x.0 ≡ k.0 = eqb-true x.0 k.0 e in
          let above : k.1 < x.1 = elim b [ inl l ↦ absurd (omega (arith, l, same)) | inr w ↦ w.1 ] in
          let ih = heads_from xs k a.1 up.1 z in
          (λ h. head_with k x xs z same above (ih.0 h), λ h. ih.1 (head_without k x xs z same above h))
      | false ↦ λ e.
          let below : k.0 < x.0 = elim b [ inl l ↦ l | inr w ↦ absurd (unequal_from x.0 k.0 e (sym w.0)) ] in
          let all = higher k x xs below up.0 in
          let ih = heads_from xs x up.0 up.1 z in (
            λ h. head_before k (x ∷ xs) z all (elim h [ inl q ↦ inl q | inr m ↦ inr (ih.0 m) ]),
            λ h. elim (head_after k (x ∷ xs) z all h) [ inl q ↦ inl q | inr w ↦ inr (ih.1 w) ],
          )
    ] refl

heads : (xs : List (ℕ × ℕ)) → Ascends pair_cmp xs → (z : ℕ × ℕ) → Among z (dedup have_one_rank xs) ↔ IsHead z xs
heads [] up z = (λ h. absurd h, λ h. h.0)
heads (x ∷ xs) up z = heads_from xs x up.0 up.1 z

-- ---- numbers with their ranks

module _ (ranks numbers places : List ℕ) where
  abbrev rank : ℕ → ℕ
  rank r = get_or ranks r 0

  abbrev all : List ℕ
  all = numbers_at numbers places

  abbrev pairs : List (ℕ × ℕ)
  pairs = in_order pair_cmp (ranked ranks numbers places)

  abbrev chosen : List ℕ
  chosen = map (λ x. x.1) (dedup have_one_rank pairs)

  in_pairs : (x : ℕ × ℕ) → Among x pairs ↔ (x.0 ≡ rank x.1) × Among x.1 all
  in_pairs x =
      let list = ranked ranks numbers places in
      let a = In-in_order pair_cmp pair_total pair_separates x list in
      let m = among_map (λ (i : ℕ). (rank (get_or numbers i 0), get_or numbers i 0)) x places in (
        λ h.
            let w = m.0 ((in_among x list).0 (a.0 ((in_among x pairs).1 h))) in
            let e : get_or numbers w.0 0 ≡ x.1 = ap (λ (p : ℕ × ℕ). p.1) w.2 in
            let f : rank (get_or numbers w.0 0) ≡ x.0 = ap (λ (p : ℕ × ℕ). p.0) w.2 in
            (sym f ∙ ap rank e, to_places numbers places x.1 w.0 w.1 e),
        λ h.
            let w = from_places numbers places x.1 h.1 in
            let f : rank (get_or numbers w.0 0) ≡ x.0 = ap rank w.2 ∙ sym h.0 in
            let e : get_or numbers w.0 0 ≡ x.1 = w.2 in
            (in_among x pairs).0 (a.1 ((in_among x list).1 (m.1 (w.0, w.1, λ t. (f t, e t))))),
      )

  in_chosen : (r : ℕ) → Among r chosen ↔ Among r (first_ones ranks all)
  in_chosen r =
      let f = first_among ranks r all in
      let m = among_map (λ (x : ℕ × ℕ). x.1) r (dedup have_one_rank pairs) in
      let up = Ascends-in_order pair_cmp pair_total pair_separates (ranked ranks numbers places) in (
        λ h.
            let w = m.0 h in
            let head = (heads pairs up w.0).0 w.1 in
            let own = (in_pairs w.0).0 head.0 in
            let rank_is : w.0.0 ≡ rank r = own.0 ∙ ap rank w.2 in
            f.1 (
              subst (λ s. Among s all) w.2 own.1,
              λ s n l q. let e = w.2 in head.1 (rank s, s) ((in_pairs (rank s, s)).1 (refl, n)) (q ∙ sym rank_is) (omega (arith, l, e)),
            ),
        λ h.
            let w = f.0 h in
            m.1 (
              (rank r, r),
              (heads pairs up (rank r, r)).1 (
                (in_pairs (rank r, r)).1 (refl, w.0),
                λ v n q l. let own = (in_pairs v).0 n in w.1 v.1 own.1 l (sym own.0 ∙ q),
              ),
              refl,
            ),
      )

  pub first_numbers : in_order nat_cmp chosen ≡ first_ones ranks all
  first_numbers =
      let firsts = first_ones ranks all in
      same_by_members nat_cmp nat_cmp_total nat_separates (in_order nat_cmp chosen) firsts (Ascends-in_order nat_cmp nat_cmp_total nat_separates chosen)
      (Ascends-filter nat_cmp (λ r. not (list_any (is_lower ranks r) all)) all (Ascends-in_order nat_cmp nat_cmp_total nat_separates (map (λ i. get_or numbers i 0) places)))
      (λ r.
      let a = In-in_order nat_cmp nat_cmp_total nat_separates r chosen in
      let c = in_among r chosen in
      let d = in_among r firsts in
      let e = in_chosen r in
      (λ h. d.1 (e.0 (c.0 (a.0 h))), λ h. a.1 (c.1 (e.1 (d.0 h)))))
