-- Rows by one of their sides, and the pairs that are found there.
use Rattle.std.proofs.Common.{◌≡◌, ℕ, zero, suc, ◌+◌, ◌<◌, true, false, List, [], ◌∷◌, ◌++◌, map, length, get_or, max, min, ◌↔◌, ◌⊎◌, inl, inr, arith, sym, ap, subst, refl, ◌∙◌, Ordering}
use Rattle.std.specs.declared.cmp.Ordering.TheVariants.{Equal}
use Rattle.std.specs.Cmp.{IsTotalOrder}
use Rattle.std.specs.List.{All, list_all}
use Rattle.std.specs.List.Sorted.{IsPermutation}
use Rattle.std.proofs.lemmas.Bool.{cases_lt, and_parts}
use Rattle.std.proofs.lemmas.Cmp.{tied_back}
use Rattle.std.proofs.lemmas.Int.{clamps}
use Rattle.std.proofs.lemmas.List.Sorted.{Contains-permutation, IsPermutation-sym}
use Rattle.std.proofs.lemmas.List.{get_or_default}
use Rattle.cell_packing.specs.Covering.{Among}
use Rattle.cell_packing.specs.Packed.{no_cells}
use Rattle.cell_packing.proofs.AmongLemmas.{among_append, among_map}
use Rattle.cell_packing.proofs.Order.{among_contains, contains_among}
use Rattle.cell_boxes.specs.Answers.{PlainKeyedCellBox}
use Rattle.cell_boxes.specs.Common.{both, first_of, common, has_cell, HaveCells}
use Rattle.cell_boxes.specs.Keys.{ArePaired}
use Rattle.cell_boxes.specs.Meetings.{IsLater, turned}
use Rattle.cell_boxes.specs.Rows.{IsRow, PlainCellBox}
use Rattle.cell_boxes.specs.Sides.{AreCandidates, IsOnSide, AreOnSide, renumbered}
use Rattle.cell_boxes.proofs.GridPointLemmas.{first_meets, cell_parts}
use Rattle.cell_boxes.proofs.RowLemmas.{row_among, one_row, some_row, row_all, row_sides}

-- boxes that meet overlap on each side that both have
pub side_meets : (xs ys : List (ℕ × ℕ)) (s : ℕ) → s < length xs → s < length ys → HaveCells (common xs ys)
    → ((get_or ys s no_cells).0 < (get_or xs s no_cells).1) × ((get_or xs s no_cells).0 < (get_or ys s no_cells).1)
side_meets [] ys s l m h = absurd (omega arith)
side_meets (x ∷ xs) [] s l m h = absurd (omega arith)
side_meets (x ∷ xs) (y ∷ ys) zero l m h =
    let w = cell_parts (both x y) (and_parts (has_cell (both x y)) (list_all has_cell (common xs ys)) h).0 in
    let u : max x.0 y.0 < min x.1 y.1 = w in
    (omega (arith, clamps), omega (arith, clamps))
side_meets (x ∷ xs) (y ∷ ys) (suc s) l m h = side_meets xs ys s (omega arith) (omega arith) (and_parts (has_cell (both x y)) (list_all has_cell (common xs ys)) h).1

pub long_enough : {P : Type 0} (k side : ℕ) (rows : List (PlainCellBox P)) → All (λ x. length x.1 ≡ k) rows → side < k → All (λ x. side < length x.1) rows
long_enough k side rows a l i d h = let e = a i d h in omega arith

-- one more row
pub side_turn : {P : Type 0} (side : ℕ) (rows : List (PlainCellBox P)) (i : ℕ) (x : PlainCellBox P) → IsRow rows i x → (z : PlainKeyedCellBox P ℕ) → x.0 ≡ z.0 → z.1 ≡ i → (get_or x.1 side no_cells ∷ [] ≡ z.2)
    → (old new : List (PlainKeyedCellBox P ℕ)) → new ≡ old ++ z ∷ []
    → ((w : PlainKeyedCellBox P ℕ) → Among w old ↔ (w.1 < i) × IsOnSide side rows w)
    → (w : PlainKeyedCellBox P ℕ) → Among w new ↔ (w.1 < i + 1) × IsOnSide side rows w
side_turn {P} side rows i x at z key number cells old new made before w =
    let a = among_append w old (z ∷ []) in
    let b = before w in
    subst (λ ws. Among w ws ↔ (w.1 < i + 1) × IsOnSide side rows w) (sym made) (
      λ h. elim (a.0 h) [
        | inl u ↦ let v = b.0 u in let l = v.0 in (omega arith, v.1)
        | inr u ↦ elim u [
          | inl e ↦
              let n : z.1 ≡ w.1 = ap (λ (q : PlainKeyedCellBox P ℕ). q.1) e in
              (omega arith, subst (IsOnSide side rows) e (x, subst (λ m. IsRow rows m x) (sym number) at, key, cells))
          | inr q ↦ absurd q
        ]
      ],
      λ h. elim (cases_lt w.1 i) [
        | inl l ↦ a.1 (inl (b.1 (l, h.1)))
        | inr l ↦
            let k = h.0 in
            let e : w.1 ≡ i = omega arith in
            let v = h.1 in
            let same : v.0 ≡ x = one_row rows i v.0 x (subst (λ n. IsRow rows n v.0) e v.1) at in
            let p : z.0 ≡ w.0 = sym key ∙ ap (λ (q : PlainCellBox P). q.0) (sym same) ∙ v.2 in
            let n : z.1 ≡ w.1 = number ∙ sym e in
            let s : z.2 ≡ w.2 = sym cells ∙ ap (λ (q : PlainCellBox P). get_or q.1 side no_cells ∷ []) (sym same) ∙ v.3 in
            a.1 (inr (inl (λ t. (p t, n t, s t))))
      ],
    )

pub on_side : {P : Type 0} (side : ℕ) (rows : List (PlainCellBox P)) (numbered : List (PlainKeyedCellBox P ℕ)) → ((z : PlainKeyedCellBox P ℕ) → Among z numbered ↔ IsOnSide side rows z)
    → (keys : List (PlainCellBox P)) (numbers : List ℕ) → ArePaired numbered keys numbers → AreOnSide side rows keys numbers
on_side side rows numbered is keys numbers h = record {
  count = h.count;
  from = λ i x n a b. (is (x.0, n, x.1)).0 (h.from i x n a b);
  to = λ z w. h.to z ((is z).1 w);
}

-- ---- pairs

-- those of both ways together
pub both_ways : {P : Type 0} (order : P → P → Ordering) (left right : List (PlainCellBox P)) (lefts rights all : List (ℕ × ℕ)) → all ≡ lefts ++ map turned rights
    → ((p : ℕ × ℕ) → Among p lefts ↔ IsLater order false left right p) → ((p : ℕ × ℕ) → Among p rights ↔ IsLater order true right left p)
    → (p : ℕ × ℕ) → Among p all ↔ IsLater order false left right p ⊎ IsLater order true right left (turned p)
both_ways order left right lefts rights all made ls rs p =
    let a = among_append p lefts (map turned rights) in
    let m = among_map turned p rights in (
      λ h. elim (a.0 (subst (Among p) made h)) [
        | inl w ↦ inl ((ls p).0 w)
        | inr w ↦ let v = m.0 w in inr (subst (IsLater order true right left) (ap turned v.2) ((rs v.0).0 v.1))
      ],
      λ h. subst (Among p) (sym made) (a.1 (elim h [ inl w ↦ inl ((ls p).1 w) | inr w ↦ inr (m.1 (turned p, (rs (turned p)).1 w, refl)) ])),
    )

module _ {P : Type 0} (order : P → P → Ordering) (total : IsTotalOrder order) where
  -- rows of one key that overlap on the first side begin one within the other
  one_within : (left right : List (PlainCellBox P)) (i j : ℕ) (x y : PlainCellBox P) → IsRow left i x → IsRow right j y → order x.0 y.0 ≡ Equal
      → (first_of y.1).0 < (first_of x.1).1 → (first_of x.1).0 < (first_of y.1).1 → IsLater order false left right (i, j) ⊎ IsLater order true right left (j, i)
  one_within left right i j x y a b e l m = elim (cases_lt (first_of y.1).0 (first_of x.1).0) [
    | inl u ↦ inr (y, x, b, a, e, omega arith, m)
    | inr u ↦ inl (x, y, a, b, tied_back total x.0 y.0 e, u, l)
  ]

  of_one_key : (left right : List (PlainCellBox P)) (p : ℕ × ℕ) → IsLater order false left right p ⊎ IsLater order true right left (turned p)
      → (x : PlainCellBox P) × (y : PlainCellBox P) × IsRow left p.0 x × IsRow right p.1 y × (order x.0 y.0 ≡ Equal)
  of_one_key left right p h = elim h [
    | inl w ↦ (w.0, w.1, w.2, w.3, tied_back total w.1.0 w.0.0 w.4)
    | inr w ↦ (w.1, w.0, w.3, w.2, w.4)
  ]

  module _ (left right : List (PlainCellBox P)) where
    pub sorted_candidates : (all sorted : List (ℕ × ℕ)) → IsPermutation all sorted → AreCandidates order left right all → AreCandidates order left right sorted
    sorted_candidates all sorted moved is = record {
      keys = λ p h. is.keys p (contains_among all p (Contains-permutation sorted all p (IsPermutation-sym all sorted moved) (among_contains sorted p h)));
      all = λ i j x y a b e c. contains_among sorted (i, j) (Contains-permutation all sorted (i, j) moved (among_contains all (i, j) (is.all i j x y a b e c)));
    }

    pub first_candidates : (k : ℕ) → All (λ x. length x.1 ≡ k) left → All (λ x. length x.1 ≡ k) right → (pairs : List (ℕ × ℕ))
        → ((p : ℕ × ℕ) → Among p pairs ↔ IsLater order false left right p ⊎ IsLater order true right left (turned p)) → AreCandidates order left right pairs
    first_candidates k ls rs pairs is = record {
      keys = λ p h. of_one_key left right p ((is p).0 h);
      all = λ i j x y a b e c.
          let f = first_meets x.1 y.1 (row_sides k left ls i x a ∙ sym (row_sides k right rs j y b)) c in
          (is (i, j)).1 (one_within left right i j x y a b e f.0 f.1);
    }

    module _ (side : ℕ) (lefts rights : List (PlainCellBox P)) (ln rn : List ℕ) (ls : AreOnSide side left lefts ln) (rs : AreOnSide side right rights rn)
        (pairs : List (ℕ × ℕ)) (is : (p : ℕ × ℕ) → Among p pairs ↔ IsLater order false lefts rights p ⊎ IsLater order true rights lefts (turned p)) where
      pub numbers_there : All (λ (p : ℕ × ℕ). (p.0 < length ln) × (p.1 < length rn)) pairs
      numbers_there i d h =
          let p : ℕ × ℕ = get_or pairs i d in
          let w = of_one_key lefts rights p ((is p).0 (row_among pairs i p (some_row pairs i d h))) in
          (subst (λ n. p.0 < n) (sym ls.count) w.2.0, subst (λ n. p.1 < n) (sym rs.count) w.3.0)

      pub side_candidates : All (λ x. side < length x.1) left → All (λ x. side < length x.1) right → AreCandidates order left right (map (renumbered ln rn) pairs)
      side_candidates la ra = record {
        keys = λ p h.
            let w = (among_map (renumbered ln rn) p pairs).0 h in
            let q : ℕ × ℕ = w.0 in
            let v = of_one_key lefts rights q ((is q).0 w.1) in
            let n : ℕ = get_or ln q.0 0 in
            let m : ℕ = get_or rn q.1 0 in
            let a = ls.from q.0 v.0 n v.2 (some_row ln q.0 0 (subst (λ k. q.0 < k) (sym ls.count) v.2.0)) in
            let b = rs.from q.1 v.1 m v.3 (some_row rn q.1 0 (subst (λ k. q.1 < k) (sym rs.count) v.3.0)) in
            let e : n ≡ p.0 = ap (λ (z : ℕ × ℕ). z.0) w.2 in
            let f : m ≡ p.1 = ap (λ (z : ℕ × ℕ). z.1) w.2 in
            let same : order a.0.0 b.0.0 ≡ Equal = (λ t. order (a.2 t) (b.2 t)) ∙ v.4 in
            (a.0, b.0, subst (λ i. IsRow left i a.0) e a.1, subst (λ i. IsRow right i b.0) f b.1, same);
        all = λ i j x y a b e c.
            let f = side_meets x.1 y.1 side (row_all (λ (z : PlainCellBox P). side < length z.1) left la i x a) (row_all (λ (z : PlainCellBox P). side < length z.1) right ra j y b) c in
            let u : PlainCellBox P = (x.0, get_or x.1 side no_cells ∷ []) in
            let v : PlainCellBox P = (y.0, get_or y.1 side no_cells ∷ []) in
            let l = ls.to (x.0, i, get_or x.1 side no_cells ∷ []) (x, a, refl, refl) in
            let r = rs.to (y.0, j, get_or y.1 side no_cells ∷ []) (y, b, refl, refl) in
            let g = (is (l.0, r.0)).1 (one_within lefts rights l.0 r.0 u v l.1 r.1 e f.0 f.1) in
            let n : get_or ln l.0 0 ≡ i = get_or_default ln l.0 0 i l.2.0 ∙ l.2.1 in
            let m : get_or rn r.0 0 ≡ j = get_or_default rn r.0 0 j r.2.0 ∙ r.2.1 in
            (among_map (renumbered ln rn) (i, j) pairs).1 ((l.0, r.0), g, λ t. (n t, m t));
      }
