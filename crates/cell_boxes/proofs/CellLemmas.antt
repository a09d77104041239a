-- The rows of a key by a number of each.
use Rattle.std.proofs.Common.{◌≡◌, ℕ, ◌+◌, ◌<◌, ◌≤◌, true, false, List, [], ◌∷◌, ◌++◌, map, get_or, ◌↔◌, ◌⊎◌, inl, inr, arith, sym, ap, subst, refl, ◌∙◌, Ordering}
use Rattle.std.specs.Ordering.{nat_cmp, ordering_then, is_lt}
use Rattle.std.specs.List.{All}
use Rattle.std.specs.List.Sorted.{IsSortedBy, IsPermutation}
use Rattle.std.proofs.lemmas.Bool.{cases_lt, true≢false}
use Rattle.std.proofs.lemmas.Bool.Decides.{nat_tests}
use Rattle.std.proofs.lemmas.List.Sorted.{sorted_far, ranks_by, Contains-permutation, IsPermutation-sym}
use Rattle.std.proofs.lemmas.List.{get_or_default}
use Rattle.cell_packing.specs.Covering.{Among}
use Rattle.cell_packing.specs.Packed.{no_cells}
use Rattle.cell_packing.proofs.AmongLemmas.{among_append, among_map}
use Rattle.cell_packing.proofs.Order.{among_contains, contains_among}
use Rattle.cell_sweep.specs.Rows.{pair_cmp, pair_total}
use Rattle.cell_boxes.specs.Tallies.{Within, pair_at, AreBy}
use Rattle.cell_boxes.proofs.RowLemmas.{row_among, among_row, some_row}

-- the rows from a up to before z, each with its number
abbrev pub ArePairs : (ℕ → ℕ) → ℕ → ℕ → List (ℕ × ℕ) → Type 0
ArePairs number a z xs = (x : ℕ × ℕ) → Among x xs ↔ (a ≤ x.1) × (x.1 < z) × (x.0 ≡ number x.1)

pub pairs_none : (number : ℕ → ℕ) (a : ℕ) → ArePairs number a a []
pairs_none number a x = (λ h. absurd h, λ h. let l = h.0 in let m = h.1 in absurd (omega arith))

pub pairs_more : (number : ℕ → ℕ) (a n : ℕ) (old new : List (ℕ × ℕ)) → a ≤ n → new ≡ old ++ (number n, n) ∷ [] → ArePairs number a n old → ArePairs number a (n + 1) new
pairs_more number a n old new l made was x =
    let b = among_append x old ((number n, n) ∷ []) in
    let w = was x in
    subst (λ xs. Among x xs ↔ (a ≤ x.1) × (x.1 < n + 1) × (x.0 ≡ number x.1)) (sym made) (
      λ h. elim (b.0 h) [
        | inl u ↦ (let v = w.0 u in let p = v.1 in (v.0, omega arith, v.2))
        | inr u ↦ elim u [ inl e ↦ subst (λ (y : ℕ × ℕ). (a ≤ y.1) × (y.1 < n + 1) × (y.0 ≡ number y.1)) e (l, omega arith, refl) | inr e ↦ absurd e ]
      ],
      λ h. elim (cases_lt x.1 n) [
        | inl m ↦ b.1 (inl (w.1 (h.0, m, h.2)))
        | inr m ↦
            let p = h.1 in
            let e : n ≡ x.1 = omega arith in
            b.1 (inr (inl (λ t. ((ap number e ∙ sym h.2) t, e t))))
      ],
    )

pub by_from : (number : ℕ → ℕ) (rows : ℕ × ℕ) (pairs sorted : List (ℕ × ℕ)) → ArePairs number rows.0 rows.1 pairs → IsPermutation pairs sorted → IsSortedBy (λ x y. is_lt (pair_cmp x y)) sorted → AreBy number rows sorted
by_from number rows pairs sorted are moved order = record {
  order = λ i j h l. in_order (get_or sorted i (0, 0)) (get_or sorted j (0, 0)) (sorted_far (λ x y. is_lt (pair_cmp x y)) (ranks_by pair_total (λ x. x)) sorted order i j (0, 0) h l);
  from = λ j l.
      let x : ℕ × ℕ = pair_at sorted j in
      let m = row_among sorted j x (some_row sorted j no_cells l) in
      let w = (are x).0 (contains_among pairs x (Contains-permutation sorted pairs x (IsPermutation-sym pairs sorted moved) (among_contains sorted x m))) in
      ((w.0, w.1), w.2);
  to = λ r w.
      let x : ℕ × ℕ = (number r, r) in
      let m = contains_among sorted x (Contains-permutation pairs sorted x moved (among_contains pairs x ((are x).1 (w.0, w.1, refl)))) in
      let v = among_row sorted x m in
      (v.0, v.1.0, ap (λ (y : ℕ × ℕ). y.1) (get_or_default sorted v.0 no_cells x v.1.0 ∙ v.1.1));
}
  where
    in_order : (x y : ℕ × ℕ) → is_lt (pair_cmp y x) ≡ false → x.0 ≤ y.0
    in_order x y e = elim (cases_lt y.0 x.0) [ inl l ↦ absurd (true≢false (less x.0 y.0 (nat_cmp y.1 x.1) l ∙ e)) | inr l ↦ l ]
      where
        less : (a b : ℕ) (r : Ordering) → b < a → true ≡ is_lt (ordering_then (nat_cmp b a) r)
        less a b r l = grind (arith, nat_tests)

-- the rows by their numbers are below the end
pub by_below : (number : ℕ → ℕ) (rows : ℕ × ℕ) (pairs : List (ℕ × ℕ)) (n : ℕ) → rows.1 ≤ n → AreBy number rows pairs → All (λ (x : ℕ × ℕ). x.1 < n) pairs
by_below number rows pairs n l by i d h =
    let w = (by.from i h).0.1 in
    let e : (get_or pairs i d).1 ≡ (pair_at pairs i).1 = ap (λ (x : ℕ × ℕ). x.1) (get_or_default pairs i d no_cells h) in
    omega (arith, e)

-- the number of each row is among those of the pairs
pub by_number : (number : ℕ → ℕ) (rows : ℕ × ℕ) (pairs : List (ℕ × ℕ)) (cuts : List ℕ) → AreBy number rows pairs → ((x : ℕ × ℕ) → Among x pairs → Among x.0 cuts) → (r : ℕ) → Within rows r → Among (number r) cuts
by_number number rows pairs cuts by are r w =
    let v = by.to r w in
    let j : ℕ = v.0 in
    let e : (pair_at pairs j).0 ≡ number r = (by.from j v.1).1 ∙ ap number v.2 in
    subst (λ c. Among c cuts) e (are (pair_at pairs j) (row_among pairs j (pair_at pairs j) (some_row pairs j no_cells v.1)))

-- what is in two lists of pairs is in the list of their cells, also after a sort
pub cells_sorted : (starts ends : List (ℕ × ℕ)) (cells sorted : List ℕ) → cells ≡ map (λ (x : ℕ × ℕ). x.0) starts ++ map (λ (x : ℕ × ℕ). x.0) ends → IsPermutation cells sorted
    → (x : ℕ × ℕ) → Among x starts ⊎ Among x ends → Among x.0 sorted
cells_sorted starts ends cells sorted made moved x h =
    let a = among_append x.0 (map (λ (y : ℕ × ℕ). y.0) starts) (map (λ (y : ℕ × ℕ). y.0) ends) in
    let m = subst (Among x.0) (sym made) (a.1 (elim h [
      | inl w ↦ inl ((among_map (λ (y : ℕ × ℕ). y.0) x.0 starts).1 (x, w, refl))
      | inr w ↦ inr ((among_map (λ (y : ℕ × ℕ). y.0) x.0 ends).1 (x, w, refl))
    ])) in
    contains_among sorted x.0 (Contains-permutation cells sorted x.0 moved (among_contains cells x.0 m))
