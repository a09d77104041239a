-- The sweep over the cells of a side keeps the live rows.
use Rattle.std.proofs.Common.{◌≡◌, ℕ, suc, ◌+◌, ◌<◌, ◌≤◌, Bool, true, false, ◌&&◌, leb, ltb, List, [], ◌∷◌, ◌++◌, map, length, get_or, ◌↔◌, ◌⊎◌, inl, inr, arith, sym, ap, subst, refl, ◌∙◌, Ordering}
use Rattle.std.specs.declared.cmp.Ordering.TheVariants.{Less}
use Rattle.std.specs.Ordering.{nat_cmp, ordering_then, is_lt}
use Rattle.std.specs.Prelude.{eqb}
use Rattle.std.specs.List.{All, AllByRecursion, filter, dedup}
use Rattle.std.specs.List.Sorted.{IsStrictlySortedBy, IsSorted, IsSortedBy, IsPermutation}
use Rattle.std.proofs.lemmas.Bool.{cases_lt, true≢false, and_parts}
use Rattle.std.proofs.lemmas.Bool.Decides.{nat_tests}
use Rattle.std.proofs.lemmas.Cmp.{nat_cmp_total}
use Rattle.std.proofs.lemmas.List.Elements.{All-from_recursion}
use Rattle.std.proofs.lemmas.List.Kept.{Contains-dedup_nat, Contains-from_dedup}
use Rattle.std.proofs.lemmas.List.Sorted.{sorted_far, ranks_by, Contains-permutation, IsPermutation-sym}
use Rattle.std.proofs.lemmas.Map.Keys.{IsStrictlyIncreasing-dedup, sorted_from_strictly_increasing}
use Rattle.std.proofs.lemmas.List.{get_or_default}
use Rattle.cell_packing.specs.Covering.{Among}
use Rattle.cell_packing.specs.Live.{side_has, span_has}
use Rattle.cell_packing.proofs.AmongLemmas.{among_append, among_map, among_filter, each_from_members}
use Rattle.cell_packing.proofs.Order.{among_contains, contains_among}
use Rattle.cell_packing.proofs.Same.{same_sorted}
use Rattle.cell_sweep.specs.PackedRows.{span_of}
use Rattle.cell_sweep.specs.Rows.{AreRows, pair_cmp, pair_total}
use Rattle.cell_sweep.specs.Sweeps.{AreStarts, AreOpen, IsSweep}
use Rattle.cell_sweep.specs.declared.live.Sweep.{Sweep}
use Rattle.cell_sweep.proofs.Turns.{AreRows-filter}

-- ---- the rows by their first cells

pub starts_from : (boxes : List (List (ℕ × ℕ))) (side : ℕ) (rows : List ℕ) (firsts starts : List (ℕ × ℕ)) → firsts ≡ map (λ r. ((span_of boxes side r).0, r)) rows → IsPermutation firsts starts → IsSortedBy (λ x y. is_lt (pair_cmp x y)) starts → AreStarts boxes side rows starts
starts_from boxes side rows firsts starts made moved sorted = record {
  order = λ i j h l. in_order (get_or starts i (0, 0)) (get_or starts j (0, 0)) (sorted_far (λ x y. is_lt (pair_cmp x y)) (ranks_by pair_total (λ x. x)) starts sorted i j (0, 0) h l);
  from = λ x m.
      let w = (among_map at x rows).0 (subst (Among x) made (contains_among firsts x (Contains-permutation starts firsts x (IsPermutation-sym firsts starts moved) (among_contains starts x m)))) in
      let e : w.0 ≡ x.1 = ap (λ (y : ℕ × ℕ). y.1) w.2 in
      (subst (λ r. Among r rows) e w.1, sym (ap (λ (y : ℕ × ℕ). y.0) w.2) ∙ ap (λ r. (span_of boxes side r).0) e);
  to = λ r m. contains_among starts (at r) (Contains-permutation firsts starts (at r) moved (among_contains firsts (at r) (subst (Among (at r)) (sym made) ((among_map at (at r) rows).1 (r, m, refl)))));
}
  where
    at : ℕ → ℕ × ℕ
    at r = ((span_of boxes side r).0, r)

    in_order : (x y : ℕ × ℕ) → is_lt (pair_cmp y x) ≡ false → x.0 ≤ y.0
    in_order x y e = elim (cases_lt y.0 x.0) [ inl l ↦ absurd (true≢false (less x.0 y.0 (nat_cmp y.1 x.1) l ∙ e)) | inr l ↦ l ]
      where
        less : (a b : ℕ) (r : Ordering) → b < a → true ≡ is_lt (ordering_then (nat_cmp b a) r)
        less a b r l = grind (arith, nat_tests)

-- ---- what begins by a cell

pub begun_step : (starts : List (ℕ × ℕ)) (first n : ℕ) → first ≤ n → (live rows new : List ℕ) → new ≡ rows ++ (get_or starts n (0, 0)).1 ∷ []
    → ((r : ℕ) → Among r rows ↔ Among r live ⊎ ((j : ℕ) × (first ≤ j) × (j < n) × ((get_or starts j (0, 0)).1 ≡ r)))
    → (r : ℕ) → Among r new ↔ Among r live ⊎ ((j : ℕ) × (first ≤ j) × (j < n + 1) × ((get_or starts j (0, 0)).1 ≡ r))
begun_step starts first n f live rows new e c r =
    let a = among_append r rows ((get_or starts n (0, 0)).1 ∷ []) in
    let b = c r in
    subst (λ xs. Among r xs ↔ Among r live ⊎ ((j : ℕ) × (first ≤ j) × (j < n + 1) × ((get_or starts j (0, 0)).1 ≡ r))) (sym e) (
      λ h. elim (a.0 h) [
        | inl w ↦ elim (b.0 w) [ inl v ↦ inl v | inr v ↦ let l = v.2 in inr (v.0, v.1, omega arith, v.3) ]
        | inr w ↦ elim w [ inl v ↦ inr (n, f, omega arith, v) | inr v ↦ absurd v ]
      ],
      λ h. elim h [
        | inl w ↦ a.1 (inl (b.1 (inl w)))
        | inr w ↦ elim (cases_lt w.0 n) [
          | inl l ↦ a.1 (inl (b.1 (inr (w.0, w.1, l, w.3))))
          | inr l ↦ let m = w.2 in let q : w.0 ≡ n = omega arith in a.1 (inr (inl (subst (λ j. (get_or starts j (0, 0)).1 ≡ r) q w.3)))
        ]
      ],
    )

pub passed_step : (starts : List (ℕ × ℕ)) (first n cell : ℕ) → (get_or starts n (0, 0)).0 ≤ cell → ((j : ℕ) → first ≤ j → j < n → (get_or starts j (0, 0)).0 ≤ cell) → (j : ℕ) → first ≤ j → j < n + 1 → (get_or starts j (0, 0)).0 ≤ cell
passed_step starts first n cell h p j f l = elim (cases_lt j n) [ inl w ↦ p j f w | inr w ↦ let q : n ≡ j = omega arith in subst (λ i. (get_or starts i (0, 0)).0 ≤ cell) q h ]

-- ---- in order, each once

pub ascending : (a z : ℕ) (xs : List ℕ) → AreRows a z xs → IsStrictlySortedBy nat_cmp xs
unfolding IsStrictlySortedBy
ascending a z [] h = tt
ascending a z (x ∷ xs) h = (after (suc x) xs h.2 (omega arith), ascending (suc x) z xs h.2)
  where
    less : (y : ℕ) → x < y → nat_cmp x y ≡ Less
    less y l = grind (arith, nat_tests)

    after : (b : ℕ) (ys : List ℕ) → AreRows b z ys → x < b → AllByRecursion (λ y. nat_cmp x y ≡ Less) ys
    after b [] k l = tt
    after b (y ∷ ys) k l = let m = k.0 in (less y (omega arith), after (suc y) ys k.2 (omega arith))

pub settled : (t : ℕ → Bool) (rows here sorted done : List ℕ) → here ≡ filter t rows → IsPermutation here sorted → IsSorted nat_cmp sorted → done ≡ dedup eqb sorted
    → (a z : ℕ) (all : List ℕ) → AreRows a z all → ((r : ℕ) → t r ≡ true → Among r rows ↔ Among r all) → done ≡ filter t all
settled t rows here sorted done made moved order left a z all are same =
    same_sorted nat_cmp nat_cmp_total done (filter t all)
    (subst (IsStrictlySortedBy nat_cmp) (sym left) (sorted_from_strictly_increasing (dedup eqb sorted) (IsStrictlyIncreasing-dedup sorted order)))
    (ascending a z (filter t all) (AreRows-filter t a z all are))
    (λ r. (
      λ m.
          let c = Contains-from_dedup eqb sorted r (among_contains (dedup eqb sorted) r (subst (Among r) left m)) in
          let h = contains_among here r (Contains-permutation sorted here r (IsPermutation-sym here sorted moved) c) in
          let w = (among_filter t r rows).0 (subst (Among r) made h) in
          (among_filter t r all).1 ((same r w.1).0 w.0, w.1),
      λ m.
          let w = (among_filter t r all).0 m in
          let h = subst (Among r) (sym made) ((among_filter t r rows).1 ((same r w.1).1 w.0, w.1)) in
          let c = Contains-dedup_nat sorted r (Contains-permutation here sorted r moved (among_contains here r h)) in
          subst (Among r) (sym left) (contains_among (dedup eqb sorted) r c),
    ))

-- numbers of which each is less than the next one
pub rising : (xs : List ℕ) → ((i : ℕ) → suc i < length xs → get_or xs i 0 < get_or xs (suc i) 0) → IsStrictlySortedBy nat_cmp xs
unfolding IsStrictlySortedBy
rising [] h = tt
rising (x ∷ []) h = (tt, tt)
rising (x ∷ y ∷ ys) h =
    let rest = rising (y ∷ ys) (λ i l. h (suc i) (omega (arith, l))) in
    let first : x < y = h 0 (omega arith) in
    let below : nat_cmp x y ≡ Less = less x y first in
    ((below, after ys rest.0 below), rest)
  where
    less : (a b : ℕ) → a < b → nat_cmp a b ≡ Less
    less a b l = grind (arith, nat_tests)

    after : (zs : List ℕ) → AllByRecursion (λ z. nat_cmp y z ≡ Less) zs → nat_cmp x y ≡ Less → AllByRecursion (λ z. nat_cmp x z ≡ Less) zs
    after [] a b = tt
    after (z ∷ zs) a b = (nat_cmp_total.trans x y z b a.0, after zs a.1 b)

pub settled_rising : (t : ℕ → Bool) (rows here : List ℕ) → here ≡ filter t rows → IsStrictlySortedBy nat_cmp here
    → (a z : ℕ) (all : List ℕ) → AreRows a z all → ((r : ℕ) → t r ≡ true → Among r rows ↔ Among r all) → here ≡ filter t all
settled_rising t rows here made sorted a z all are same =
    same_sorted nat_cmp nat_cmp_total here (filter t all) sorted (ascending a z (filter t all) (AreRows-filter t a z all are))
    (λ r. (
      λ m. let w = (among_filter t r rows).0 (subst (Among r) made m) in (among_filter t r all).1 ((same r w.1).0 w.0, w.1),
      λ m. let w = (among_filter t r all).0 m in subst (Among r) (sym made) ((among_filter t r rows).1 ((same r w.1).1 w.0, w.1)),
    ))

-- ---- come to a cell

pub cell_has : (s : ℕ × ℕ) (i : ℕ) → span_has s i ≡ true → (s.0 ≤ i) × (i < s.1)
cell_has s i e = let w = and_parts (leb s.0 i) (ltb i s.1) e in (first s.0 w.0, last s.1 w.1)
  where
    first : (a : ℕ) → leb a i ≡ true → a ≤ i
    first a h = grind (arith, nat_tests)

    last : (z : ℕ) → ltb i z ≡ true → i < z
    last z h = grind (arith, nat_tests)

pub span_from : (s : ℕ × ℕ) (i : ℕ) → s.0 ≤ i → i < s.1 → span_has s i ≡ true
span_from s i l m = within s.0 s.1 l m
  where
    within : (a z : ℕ) → a ≤ i → i < z → (leb a i && ltb i z) ≡ true
    within a z f g = grind (arith, nat_tests)

at_grid_point : (starts : List (ℕ × ℕ)) (j : ℕ) → j < length starts → Among (get_or starts j (0, 0)) starts
at_grid_point starts j h = contains_among starts (get_or starts j (0, 0)) (j, h, get_or_default starts j (get_or starts j (0, 0)) (0, 0) h)

module _ (boxes : List (List (ℕ × ℕ))) (side : ℕ) (rows : List ℕ) (starts : List (ℕ × ℕ)) (b cell first n : ℕ) (live begun : List ℕ)
    (up : b ≤ cell) (are : AreStarts boxes side rows starts) (was : AreOpen boxes side rows b starts first live)
    (from : first ≤ n) (within : n ≤ length starts)
    (passed : (j : ℕ) → first ≤ j → j < n → (get_or starts j (0, 0)).0 ≤ cell)
    (ahead : n < length starts → cell < (get_or starts n (0, 0)).0)
    (is : (r : ℕ) → Among r begun ↔ Among r live ⊎ ((j : ℕ) × (first ≤ j) × (j < n) × ((get_or starts j (0, 0)).1 ≡ r))) where
  begun_rows : (r : ℕ) → Among r begun → Among r rows
  begun_rows r m = elim ((is r).0 m) [
    | inl w ↦ was.from r w
    | inr w ↦ let j = w.2 in subst (λ q. Among q rows) w.3 (are.from (get_or starts w.0 (0, 0)) (at_grid_point starts w.0 (omega arith))).0
  ]

  -- a row of the cell has begun
  rows_begun : (r : ℕ) → side_has boxes side cell r ≡ true → Among r rows → Among r begun
  rows_begun r h m =
      let s = cell_has (span_of boxes side r) cell h in
      let x : ℕ × ℕ = ((span_of boxes side r).0, r) in
      let w = among_contains starts x (are.to r m) in
      let j : ℕ = w.0 in
      let e : get_or starts j (0, 0) ≡ x = get_or_default starts j (0, 0) x w.1 ∙ w.2 in
      let begins : (get_or starts j (0, 0)).0 ≤ cell = subst (λ (y : ℕ × ℕ). y.0 ≤ cell) (sym e) s.0 in
      let own : (get_or starts j (0, 0)).1 ≡ r = ap (λ (y : ℕ × ℕ). y.1) e in
      elim (cases_lt j n) [
        | inl l ↦ elim (cases_lt j first) [
          | inl k ↦
              let still : b < (span_of boxes side (get_or starts j (0, 0)).1).1 = subst (λ q. b < (span_of boxes side q).1) (sym own) (let z = s.1 in omega arith) in
              (is r).1 (inl (subst (λ q. Among q live) own (was.to j k still)))
          | inr k ↦ (is r).1 (inr (j, k, l, own))
        ]
        | inr l ↦
            let inside : j < length starts = w.1 in
            let o = are.order n j l inside in
            let c = ahead (omega arith) in
            absurd (omega arith)
      ]

  pub same_live : (r : ℕ) → side_has boxes side cell r ≡ true → Among r begun ↔ Among r rows
  same_live r h = (begun_rows r, rows_begun r h)

  pub open_now : (now : List ℕ) → now ≡ filter (side_has boxes side cell) rows → AreOpen boxes side rows cell starts n now
  open_now now e = record {
    within = within;
    passed = early;
    from = λ r m. ((among_filter (side_has boxes side cell) r rows).0 (subst (Among r) e m)).0;
    to = λ j l k.
        let x : ℕ × ℕ = get_or starts j (0, 0) in
        let w = are.from x (at_grid_point starts j (omega arith)) in
        let p = early j l in
        let q = w.1 in
        let begins : (span_of boxes side x.1).0 ≤ cell = omega arith in
        subst (Among x.1) (sym e) ((among_filter (side_has boxes side cell) x.1 rows).1 (w.0, span_from (span_of boxes side x.1) cell begins k));
  }
    where
      early : (j : ℕ) → j < n → (get_or starts j (0, 0)).0 ≤ cell
      early j l = elim (cases_lt j first) [ inl w ↦ let p = was.passed j w in omega arith | inr w ↦ passed j w l ]

-- ---- what holds of all rows holds of those of a sweep

module _ (boxes : List (List (ℕ × ℕ))) (side : ℕ) (rows : List ℕ) (cell : ℕ) (s : Sweep) (is : IsSweep boxes side rows cell s) where
  pub sweep_later : (next : ℕ) → cell ≤ next → IsSweep boxes side rows next s
  sweep_later next l =
      let o = is.1 in (
        is.0,
        record {
          within = o.within;
          passed = λ j h. let p = o.passed j h in omega arith;
          from = o.from;
          to = λ j h k. o.to j h (omega arith);
        },
      )

  below : (m r : ℕ) → All (λ q. q < m) rows → Among r rows → r < m
  below m r a h = let c = among_contains rows r h in subst (λ q. q < m) c.2 (a c.0 r c.1)

  pub starts_below : (m : ℕ) → All (λ r. r < m) rows → All (λ (x : ℕ × ℕ). x.1 < m) s.starts.items
  starts_below m a = let f = is.0.from in All-from_recursion (λ (x : ℕ × ℕ). x.1 < m) s.starts.items (each_from_members (λ (x : ℕ × ℕ). x.1 < m) s.starts.items (λ x h. below m x.1 a (f x h).0))

  pub live_below : (m : ℕ) → All (λ r. r < m) rows → All (λ r. r < m) s.live.items
  live_below m a = let f = is.1.from in All-from_recursion (λ r. r < m) s.live.items (each_from_members (λ r. r < m) s.live.items (λ r h. below m r a (f r h)))
