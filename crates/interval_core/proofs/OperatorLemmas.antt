-- What the operators on intervals give by members, by the ends.
use Rattle.std.proofs.Common.{◌≡◌, ◌⊎◌, ◌↔◌, inl, inr, ℕ, zero, suc, ℤ, pos, negsuc, ◌+ℤ◌, ◌-ℤ◌, ◌≤ℤ◌, ◌<ℤ◌, ◌≤◌, ◌^◌, cond, not, List, [], ◌∷◌, ◌++◌, length, Option, Some, None, refl, sym, ap, ap₂, ◌∙◌, subst, arith}
use Rattle.std.specs.Option.{IsNone, IfSome}
use Rattle.std.specs.List.{filter, fold, All}
use Rattle.std.specs.Int.{int_min, int_max}
use Rattle.std.specs.Ordering.{int_cmp}
use Rattle.std.specs.FinMap.{int_cmp-IsAntisymmetric}
use Rattle.std.proofs.lemmas.Cmp.{int_cmp_total}
use Rattle.std.proofs.lemmas.List.Elements.{All-contains}
use Rattle.std.proofs.lemmas.Bool.{not-true, not_from_false, false_from_ne_true, both_ways}
use Rattle.std.proofs.lemmas.Int.{ints, clamps, by_lt_z, fold-int_min_bounds, fold-int_min_reached, fold-int_max_bounds, fold-int_max_reached}
use Rattle.base_core.proofs.SetLemmas.{In, In-from_Contains, Contains-from_In}
use Rattle.base_core.proofs.MemberLemmas.{In-append, In-filter}
use Rattle.base_core.proofs.SetOperatorLemmas.{are_same-In}
use Rattle.interval_core.specs.Members.{Span, numbers_from, count_of, members, has_member}
use Rattle.interval_core.specs.Operators.{count, hull_of, if_same, interval_of, union, intersect, minus}
use Rattle.interval_core.proofs.MembersLemmas.{In-members, has_member-between}

-- ---- how many

pub length-numbers_from : (n : ℕ) (b : ℤ) → length (numbers_from n b) ≡ n
length-numbers_from zero b = refl
length-numbers_from (suc n) b = let h = length-numbers_from n (b +ℤ pos 1) in omega (arith, h)

pub count-ends : (i : Span) → i.0 ≤ℤ i.1 → pos (count i) ≡ (i.1 +ℤ pos 1) -ℤ i.0
unfolding members
count-ends i l = counted ((i.1 +ℤ pos 1) -ℤ i.0) refl
  where
    counted : (d : ℤ) → (i.1 +ℤ pos 1) -ℤ i.0 ≡ d → pos (length (numbers_from (count_of d) i.0)) ≡ d
    counted (pos n) e = ap pos (length-numbers_from n i.0)
    counted (negsuc n) e = absurd (omega (arith, ints))

pub count_none : (i : Span) (r : Option ℤ) → i.0 ≤ℤ i.1 → IsNone r ↔ (pos 9223372036854775807 <ℤ ((i.1 +ℤ pos 1) -ℤ i.0)) → IsNone r ↔ (2 ^ 63 ≤ count i)
count_none i r l h =
    let e = count-ends i l in
    (λ k. let m = h.0 k in omega (arith, ints), λ k. h.1 (omega (arith, ints)))

pub count_some : (i : Span) (r : Option ℤ) → i.0 ≤ℤ i.1 → IfSome r (λ n. n ≡ (i.1 +ℤ pos 1) -ℤ i.0) → IfSome r (λ n. n ≡ pos (count i))
count_some i None l h = h
count_some i (Some n) l h = h ∙ sym (count-ends i l)

-- ---- the interval of some numbers

-- p is from the first to the last
abbrev pub IsBetween : Span → ℤ → Type 0
IsBetween i p = (i.0 ≤ℤ p) × (p ≤ℤ i.1)

All-In : {X : Type 0} (P : X → Type 0) (xs : List X) (x : X) → All P xs → In x xs → P x
All-In P xs x h i = All-contains P xs x h (Contains-from_In xs x i)

hull-bounds : (n : ℤ) (ns : List ℤ) (p : ℤ) → In p (n ∷ ns) → IsBetween (hull_of n ns) p
hull-bounds n ns p i =
    let a = fold-int_min_bounds n ns (fold int_min n ns) refl in
    let b = fold-int_max_bounds n ns (fold int_max n ns) refl in
    elim i [
      | inl e ↦ (subst (λ z. fold int_min n ns ≤ℤ z) (sym e) a.0, subst (λ z. z ≤ℤ fold int_max n ns) (sym e) b.0)
      | inr j ↦ (All-In (λ x. fold int_min n ns ≤ℤ x) ns p a.1 j, All-In (λ x. x ≤ℤ fold int_max n ns) ns p b.1 j)
    ]

hull-low : (n : ℤ) (ns : List ℤ) → In (hull_of n ns).0 (n ∷ ns)
hull-low n ns = elim (fold-int_min_reached n ns (fold int_min n ns) refl) [ inl e ↦ inl e | inr h ↦ inr (In-from_Contains ns _ h) ]

hull-high : (n : ℤ) (ns : List ℤ) → In (hull_of n ns).1 (n ∷ ns)
hull-high n ns = elim (fold-int_max_reached n ns (fold int_max n ns) refl) [ inl e ↦ inl e | inr h ↦ inr (In-from_Contains ns _ h) ]

if_same-yes : (i : Span) (ns : List ℤ) → ((p : ℤ) → In p ns ↔ IsBetween i p) → if_same i ns ≡ Some i
if_same-yes i ns h =
    ap (λ b. cond b (Some i) None) ((are_same-In int_cmp int_cmp_total int_cmp-IsAntisymmetric (members i) ns).1 (λ p.
    let w = In-members i p in
    (λ k. (h p).1 (w.0 k), λ k. w.1 ((h p).0 k))))

if_same-no : (i : Span) (ns : List ℤ) → (((p : ℤ) → In p ns ↔ IsBetween i p) → ⊥) → if_same i ns ≡ None
if_same-no i ns h =
    let w = are_same-In int_cmp int_cmp_total int_cmp-IsAntisymmetric (members i) ns in
    ap (λ b. cond b (Some i) None) (false_from_ne_true _ (λ e. h (λ p.
    let v = In-members i p in
    (λ k. v.0 ((w.0 e p).1 k), λ k. (w.0 e p).0 (v.1 k)))))

-- the numbers of a list are those from a first to a last one
pub interval_of-Some : (ns : List ℤ) (i : Span) → i.0 ≤ℤ i.1 → ((p : ℤ) → In p ns ↔ IsBetween i p) → interval_of ns ≡ Some i
interval_of-Some [] i l h = absurd ((h i.0).1 (omega (arith, ints), l))
interval_of-Some (n ∷ ns) i l h =
    let low = (h (hull_of n ns).0).0 (hull-low n ns) in
    let high = (h (hull_of n ns).1).0 (hull-high n ns) in
    let first = hull-bounds n ns i.0 ((h i.0).1 (omega (arith, ints), l)) in
    let last = hull-bounds n ns i.1 ((h i.1).1 (l, omega (arith, ints))) in
    let a : (hull_of n ns).0 ≡ i.0 = same_number _ _ first.0 low.0 in
    let b : (hull_of n ns).1 ≡ i.1 = same_number _ _ high.1 last.1 in
    let e : hull_of n ns ≡ i = ap₂ (λ (x y : ℤ). (x, y)) a b in
    ap (λ k. if_same k (n ∷ ns)) e ∙ if_same-yes i (n ∷ ns) h
  where
    same_number : (x y : ℤ) → x ≤ℤ y → y ≤ℤ x → x ≡ y
    same_number x y h k = omega (arith, ints)

-- the numbers of a list are not those of an interval
pub interval_of-None : (ns : List ℤ) → ((i : Span) → i.0 ≤ℤ i.1 → ((p : ℤ) → In p ns ↔ IsBetween i p) → ⊥) → interval_of ns ≡ None
interval_of-None [] h = refl
interval_of-None (n ∷ ns) h =
    let first = hull-bounds n ns (hull_of n ns).1 (hull-high n ns) in
    if_same-no (hull_of n ns) (n ∷ ns) (h (hull_of n ns) first.0)

-- ---- operators

In-union : (i j : Span) (p : ℤ) → In p (members i ++ members j) ↔ (IsBetween i p ⊎ IsBetween j p)
In-union i j p =
    let w = In-append p (members i) (members j) in
    let a = In-members i p in
    let b = In-members j p in (
      λ h. elim (w.0 h) [ inl k ↦ inl (a.0 k) | inr k ↦ inr (b.0 k) ],
      λ h. w.1 (elim h [ inl k ↦ inl (a.1 k) | inr k ↦ inr (b.1 k) ]),
    )

In-intersect : (i j : Span) (p : ℤ) → In p (filter (has_member j) (members i)) ↔ (IsBetween i p × IsBetween j p)
In-intersect i j p =
    let w = In-filter (has_member j) p (members i) in
    let a = In-members i p in
    let b = has_member-between j p in
    (λ h. let k = w.0 h in (a.0 k.0, b.0 k.1), λ h. w.1 (a.1 h.0, b.1 h.1))

In-minus : (i j : Span) (p : ℤ) → In p (filter (λ q. not (has_member j q)) (members i)) ↔ (IsBetween i p × (IsBetween j p → ⊥))
In-minus i j p =
    let w = In-filter (λ q. not (has_member j q)) p (members i) in
    let a = In-members i p in
    let b = has_member-between j p in (
      λ h. let k = w.0 h in (a.0 k.0, λ m. both_ways (has_member j p) (not-true (has_member j p) k.1) (b.1 m)),
      λ h. w.1 (a.1 h.0, not_from_false (has_member j p) (false_from_ne_true (has_member j p) (λ e. h.1 (b.0 e)))),
    )

-- the interval over both, and the common one
abbrev pub over : Span → Span → Span
over i j = (int_min i.0 j.0, int_max i.1 j.1)

abbrev pub within : Span → Span → Span
within i j = (int_max i.0 j.0, int_min i.1 j.1)

pub union-merging : (i j : Span) → i.0 ≤ℤ i.1 → j.0 ≤ℤ j.1 → i.0 ≤ℤ (j.1 +ℤ pos 1) → j.0 ≤ℤ (i.1 +ℤ pos 1) → union i j ≡ Some (over i j)
union-merging i j l m a b =
    interval_of-Some (members i ++ members j) (over i j) (omega (arith, ints, clamps)) (λ p.
    let w = In-union i j p in (
      λ h. elim (w.0 h) [
        | inl k ↦ let k0 = k.0 in let k1 = k.1 in (omega (arith, ints, clamps), omega (arith, ints, clamps))
        | inr k ↦ let k0 = k.0 in let k1 = k.1 in (omega (arith, ints, clamps), omega (arith, ints, clamps))
      ],
      λ h. let h0 = h.0 in let h1 = h.1 in w.1 (in_either i j p l m a b h0 h1),
    ))
  where
    in_either : (i j : Span) (p : ℤ) → i.0 ≤ℤ i.1 → j.0 ≤ℤ j.1 → i.0 ≤ℤ (j.1 +ℤ pos 1) → j.0 ≤ℤ (i.1 +ℤ pos 1)
        → int_min i.0 j.0 ≤ℤ p → p ≤ℤ int_max i.1 j.1 → IsBetween i p ⊎ IsBetween j p
    in_either i j p l m a b h k =
        by_lt_z p i.0
        (λ u. inr (omega (arith, ints, clamps), omega (arith, ints, clamps)))
        (λ u. by_lt_z i.1 p
        (λ v. inr (omega (arith, ints, clamps), omega (arith, ints, clamps)))
        (λ v. inl (u, v)))

pub union-apart : (i j : Span) → i.0 ≤ℤ i.1 → j.0 ≤ℤ j.1 → ((j.1 +ℤ pos 1) <ℤ i.0) ⊎ ((i.1 +ℤ pos 1) <ℤ j.0) → union i j ≡ None
union-apart i j l m apart =
    interval_of-None (members i ++ members j) (λ k o h.
    let at = λ (p : ℤ) (c : IsBetween i p ⊎ IsBetween j p). (h p).0 ((In-union i j p).1 c) in
    let i0 = at i.0 (inl (omega (arith, ints), l)) in
    let i1 = at i.1 (inl (l, omega (arith, ints))) in
    let j0 = at j.0 (inr (omega (arith, ints), m)) in
    let j1 = at j.1 (inr (m, omega (arith, ints))) in
    let i00 = i0.0 in let i01 = i0.1 in let i10 = i1.0 in let i11 = i1.1 in
    let j00 = j0.0 in let j01 = j0.1 in let j10 = j1.0 in let j11 = j1.1 in
    elim apart [
      | inl g ↦ elim ((In-union i j (j.1 +ℤ pos 1)).0 ((h (j.1 +ℤ pos 1)).1 (omega (arith, ints), omega (arith, ints)))) [
        | inl c ↦ let c0 = c.0 in omega (arith, ints)
        | inr c ↦ let c1 = c.1 in omega (arith, ints)
      ]
      | inr g ↦ elim ((In-union i j (i.1 +ℤ pos 1)).0 ((h (i.1 +ℤ pos 1)).1 (omega (arith, ints), omega (arith, ints)))) [
        | inl c ↦ let c1 = c.1 in omega (arith, ints)
        | inr c ↦ let c0 = c.0 in omega (arith, ints)
      ]
    ])

pub intersect-overlapping : (i j : Span) → i.0 ≤ℤ i.1 → j.0 ≤ℤ j.1 → i.0 ≤ℤ j.1 → j.0 ≤ℤ i.1 → intersect i j ≡ Some (within i j)
intersect-overlapping i j l m a b =
    interval_of-Some (filter (has_member j) (members i)) (within i j) (omega (arith, ints, clamps)) (λ p.
    let w = In-intersect i j p in (
      λ h. let k = w.0 h in let x = k.0 in let y = k.1 in let x0 = x.0 in let x1 = x.1 in let y0 = y.0 in let y1 = y.1 in (omega (arith, ints, clamps), omega (arith, ints, clamps)),
      λ h. let h0 = h.0 in let h1 = h.1 in w.1 ((omega (arith, ints, clamps), omega (arith, ints, clamps)), (omega (arith, ints, clamps), omega (arith, ints, clamps))),
    ))

pub intersect-disjoint : (i j : Span) → (j.1 <ℤ i.0) ⊎ (i.1 <ℤ j.0) → intersect i j ≡ None
intersect-disjoint i j apart =
    interval_of-None (filter (has_member j) (members i)) (λ k o h.
    let w = (In-intersect i j k.0).0 ((h k.0).1 (omega (arith, ints), o)) in
    let x = w.0 in let y = w.1 in let x0 = x.0 in let x1 = x.1 in let y0 = y.0 in let y1 = y.1 in
    elim apart [ inl g ↦ omega (arith, ints) | inr g ↦ omega (arith, ints) ])

-- what is taken away is apart, at the end, at the begin, in the middle or over all
pub minus-disjoint : (i j : Span) → i.0 ≤ℤ i.1 → (j.1 <ℤ i.0) ⊎ (i.1 <ℤ j.0) → minus i j ≡ Some i
minus-disjoint i j l apart =
    interval_of-Some (filter (λ p. not (has_member j p)) (members i)) i l (λ p.
    let w = In-minus i j p in (
      λ h. (w.0 h).0,
      λ h. w.1 (h, λ k. let h0 = h.0 in let h1 = h.1 in let k0 = k.0 in let k1 = k.1 in elim apart [ inl g ↦ omega (arith, ints) | inr g ↦ omega (arith, ints) ]),
    ))

pub minus-before : (i j : Span) → i.0 <ℤ j.0 → j.0 ≤ℤ i.1 → i.1 ≤ℤ j.1 → minus i j ≡ Some (i.0, j.0 -ℤ pos 1)
minus-before i j a b c =
    interval_of-Some (filter (λ p. not (has_member j p)) (members i)) (i.0, j.0 -ℤ pos 1) (omega (arith, ints)) (λ p.
    let w = In-minus i j p in (
      λ h. let k = w.0 h in let x = k.0 in let x0 = x.0 in let x1 = x.1 in
          (x0, by_lt_z p j.0 (λ u. omega (arith, ints)) (λ u. absurd (k.1 (u, omega (arith, ints))))),
      λ h. let h0 = h.0 in let h1 = h.1 in w.1 ((h0, omega (arith, ints)), λ k. let k0 = k.0 in omega (arith, ints)),
    ))

pub minus-after : (i j : Span) → j.0 ≤ℤ i.0 → i.0 ≤ℤ j.1 → j.1 <ℤ i.1 → minus i j ≡ Some (j.1 +ℤ pos 1, i.1)
minus-after i j a b c =
    interval_of-Some (filter (λ p. not (has_member j p)) (members i)) (j.1 +ℤ pos 1, i.1) (omega (arith, ints)) (λ p.
    let w = In-minus i j p in (
      λ h. let k = w.0 h in let x = k.0 in let x0 = x.0 in let x1 = x.1 in
          (by_lt_z j.1 p (λ u. omega (arith, ints)) (λ u. absurd (k.1 (omega (arith, ints), u))), x1),
      λ h. let h0 = h.0 in let h1 = h.1 in w.1 ((omega (arith, ints), h1), λ k. let k1 = k.1 in omega (arith, ints)),
    ))

pub minus-inside : (i j : Span) → j.0 ≤ℤ j.1 → i.0 <ℤ j.0 → j.1 <ℤ i.1 → minus i j ≡ None
minus-inside i j m a b =
    interval_of-None (filter (λ p. not (has_member j p)) (members i)) (λ k o h.
    let first = (h i.0).0 ((In-minus i j i.0).1 ((omega (arith, ints), omega (arith, ints)), λ c. let c0 = c.0 in omega (arith, ints))) in
    let last = (h i.1).0 ((In-minus i j i.1).1 ((omega (arith, ints), omega (arith, ints)), λ c. let c1 = c.1 in omega (arith, ints))) in
    let f0 = first.0 in let l1 = last.1 in
    ((In-minus i j j.0).0 ((h j.0).1 (omega (arith, ints), omega (arith, ints)))).1 (omega (arith, ints), m))

pub minus-over : (i j : Span) → j.0 ≤ℤ i.0 → i.1 ≤ℤ j.1 → minus i j ≡ None
minus-over i j a b =
    interval_of-None (filter (λ p. not (has_member j p)) (members i)) (λ k o h.
    let w = (In-minus i j k.0).0 ((h k.0).1 (omega (arith, ints), o)) in
    let x = w.0 in let x0 = x.0 in let x1 = x.1 in
    w.1 (omega (arith, ints), omega (arith, ints)))

-- ---- what the code answers, by the ends, is what the members tell

some_pair : (p q : ℤ) (i : Span) (r : Option Span) → r ≡ Some i → p ≡ i.0 → q ≡ i.1 → Some (p, q) ≡ r
some_pair p q i r e a b =
    let k : (p, q) ≡ i = ap₂ (λ (x y : ℤ). (x, y)) a b in
    ap (λ s. Some s) k ∙ sym e

pub union_some : (i j : Span) (p q : ℤ) → i.0 ≤ℤ i.1 → j.0 ≤ℤ j.1 → i.0 ≤ℤ (j.1 +ℤ pos 1) → j.0 ≤ℤ (i.1 +ℤ pos 1) → p ≡ int_min i.0 j.0 → q ≡ int_max i.1 j.1 → Some (p, q) ≡ union i j
union_some i j p q l m a b x y = some_pair p q (over i j) (union i j) (union-merging i j l m a b) x y

pub union_none : (i j : Span) → i.0 ≤ℤ i.1 → j.0 ≤ℤ j.1 → (i.0 ≤ℤ (j.1 +ℤ pos 1) → j.0 ≤ℤ (i.1 +ℤ pos 1) → ⊥) → None ≡ union i j
union_none i j l m h = sym (union-apart i j l m (by_lt_z (j.1 +ℤ pos 1) i.0 (λ u. inl u) (λ u. by_lt_z (i.1 +ℤ pos 1) j.0 (λ v. inr v) (λ v. absurd (h u v)))))

pub intersect_some : (i j : Span) (p q : ℤ) → i.0 ≤ℤ i.1 → j.0 ≤ℤ j.1 → i.0 ≤ℤ j.1 → j.0 ≤ℤ i.1 → p ≡ int_max i.0 j.0 → q ≡ int_min i.1 j.1 → Some (p, q) ≡ intersect i j
intersect_some i j p q l m a b x y = some_pair p q (within i j) (intersect i j) (intersect-overlapping i j l m a b) x y

apart_from : (i j : Span) → (i.0 ≤ℤ j.1 → j.0 ≤ℤ i.1 → ⊥) → (j.1 <ℤ i.0) ⊎ (i.1 <ℤ j.0)
apart_from i j h = by_lt_z j.1 i.0 (λ u. inl u) (λ u. by_lt_z i.1 j.0 (λ v. inr v) (λ v. absurd (h u v)))

pub intersect_none : (i j : Span) → (i.0 ≤ℤ j.1 → j.0 ≤ℤ i.1 → ⊥) → None ≡ intersect i j
intersect_none i j h = sym (intersect-disjoint i j (apart_from i j h))

pub minus_whole : (i j : Span) → i.0 ≤ℤ i.1 → (i.0 ≤ℤ j.1 → j.0 ≤ℤ i.1 → ⊥) → Some i ≡ minus i j
minus_whole i j l h = sym (minus-disjoint i j l (apart_from i j h))

pub minus_first_part : (i j : Span) (p q : ℤ) → i.0 <ℤ j.0 → j.0 ≤ℤ i.1 → i.1 ≤ℤ j.1 → p ≡ i.0 → q ≡ j.0 -ℤ pos 1 → Some (p, q) ≡ minus i j
minus_first_part i j p q a b c x y = some_pair p q (i.0, j.0 -ℤ pos 1) (minus i j) (minus-before i j a b c) x y

pub minus_last_part : (i j : Span) (p q : ℤ) → j.0 ≤ℤ i.0 → i.0 ≤ℤ j.1 → j.1 <ℤ i.1 → p ≡ j.1 +ℤ pos 1 → q ≡ i.1 → Some (p, q) ≡ minus i j
minus_last_part i j p q a b c x y = some_pair p q (j.1 +ℤ pos 1, i.1) (minus i j) (minus-after i j a b c) x y

pub minus_none_inside : (i j : Span) → j.0 ≤ℤ j.1 → i.0 <ℤ j.0 → j.1 <ℤ i.1 → None ≡ minus i j
minus_none_inside i j m a b = sym (minus-inside i j m a b)

pub minus_none_over : (i j : Span) → j.0 ≤ℤ i.0 → i.1 ≤ℤ j.1 → None ≡ minus i j
minus_none_over i j a b = sym (minus-over i j a b)
