-- Hashes in order: one search tells whether any of them reaches another.
use Rattle.std.proofs.Common.{◌≡◌, inl, inr, ℕ, ℤ, ◌<◌, ◌≤◌, List, length, get_or, Ok, Err, refl, sym, ap, ◌∙◌, subst, arith, Bool, true, false, not, ◌&&◌, cond, Ordering}
use Rattle.std.specs.Prelude.{int_lt}
use Rattle.std.specs.declared.cmp.Ordering.TheVariants.{Less, Equal, Greater}
use Rattle.std.specs.Cmp.{IsTotalOrder}
use Rattle.std.specs.List.{list_any, AllWithin}
use Rattle.std.specs.List.Sorted.{IsSorted, IsBinarySearchResult, IsSearchInRange}
use Rattle.std.specs.Ordering.{is_lt, is_eq, int_cmp, ordering_then, ordering_reverse, eq_by_cmp}
use Rattle.std.proofs.lemmas.Bool.{cases_lt}
use Rattle.std.proofs.lemmas.Cmp.{then_total, on_total, int_cmp_total}
use Rattle.std.proofs.lemmas.List.{get_or_default}
use Rattle.std.proofs.lemmas.List.Folds.{list_any_at, list_any_none}
use Rattle.std.proofs.lemmas.List.Sorted.{ranks_by, sorted_far, searchable_from_sorted}
use Rattle.value_core.specs.Order.{row_total}
use Rattle.value_core.specs.Values.{row_cmp}
use Rattle.u_constraints.specs.Hashes.{Hash, hash_cmp, reaches}

hash_total : IsTotalOrder hash_cmp
hash_total = then_total (on_total (λ (m : Hash). m.0) row_total) (on_total (λ (m : Hash). m.1) int_cmp_total)

-- ---- what the order of two hashes tells

less_of : (l m : Bool) → l ≡ is_lt (cond l Less (cond m Greater Equal))
less_of true m = refl
less_of false true = refl
less_of false false = refl

less_is : (n m : ℤ) → int_lt n m ≡ is_lt (int_cmp n m)
less_is n m = less_of (int_lt n m) (int_lt m n)

at_equal : (r s : Ordering) → ordering_then r s ≡ Equal → (is_eq r && not (is_lt s)) ≡ true
at_equal Less s e = cc
at_equal Equal Less e = cc
at_equal Equal Equal e = refl
at_equal Equal Greater e = cc
at_equal Greater s e = cc

at_less : (r s : Ordering) → ordering_then r s ≡ Less → (is_eq r && not (is_lt s)) ≡ false
at_less Less s e = refl
at_less Equal Less e = refl
at_less Equal Equal e = cc
at_less Equal Greater e = cc
at_less Greater s e = cc

at_greater : (r s : Ordering) → ordering_then r s ≡ Greater → (is_eq r && not (is_lt s)) ≡ is_eq r
at_greater Less s e = cc
at_greater Equal Less e = cc
at_greater Equal Equal e = cc
at_greater Equal Greater e = refl
at_greater Greater s e = refl

-- the test of two hashes by the orders of their parts and numbers
reaches_is : (a e : Hash) → reaches a e ≡ (is_eq (row_cmp e.0 a.0) && not (is_lt (int_cmp e.1 a.1)))
reaches_is a e = ap (λ l. is_eq (row_cmp e.0 a.0) && not l) (less_is e.1 a.1)

equal_reaches : (a e : Hash) → hash_cmp e a ≡ Equal → reaches a e ≡ true
equal_reaches a e h = reaches_is a e ∙ at_equal (row_cmp e.0 a.0) (int_cmp e.1 a.1) h

less_misses : (a e : Hash) → hash_cmp e a ≡ Less → reaches a e ≡ false
less_misses a e h = reaches_is a e ∙ at_less (row_cmp e.0 a.0) (int_cmp e.1 a.1) h

greater_by_part : (a e : Hash) → hash_cmp e a ≡ Greater → reaches a e ≡ eq_by_cmp row_cmp e.0 a.0
greater_by_part a e h = reaches_is a e ∙ at_greater (row_cmp e.0 a.0) (int_cmp e.1 a.1) h

-- ---- behind a hash that is greater, with another part, none reaches

greater_part : (r s : Ordering) → ordering_then r s ≡ Greater → is_eq r ≡ false → r ≡ Greater
greater_part Less s e n = cc
greater_part Equal s e n = cc
greater_part Greater s e n = refl

not_less : (r s : Ordering) → is_lt (ordering_then r s) ≡ false → r ≡ Less → ⊥
not_less Less s e h = cc
not_less Equal s e h = cc
not_less Greater s e h = cc

behind : (a e f : Hash) → hash_cmp e a ≡ Greater → eq_by_cmp row_cmp e.0 a.0 ≡ false → is_lt (hash_cmp f e) ≡ false → eq_by_cmp row_cmp f.0 a.0 ≡ false
behind a e f above other up =
    let part : row_cmp e.0 a.0 ≡ Greater = greater_part (row_cmp e.0 a.0) (int_cmp e.1 a.1) above other in
    elim (row_cmp f.0 a.0) as (λ r. row_cmp f.0 a.0 ≡ r → is_eq r ≡ false) [
      | Less ↦ λ h. refl
      | Equal ↦ λ h.
          let below : row_cmp f.0 e.0 ≡ Less = row_total.congr f.0 a.0 e.0 h ∙ (row_total.antisymm a.0 e.0 ∙ ap ordering_reverse part) in
          absurd (not_less (row_cmp f.0 e.0) (int_cmp f.1 e.1) up below)
      | Greater ↦ λ h. refl
    ] refl

-- ---- the search

module _ (ends : List Hash) (a : Hash) where
  -- an equal hash is found
  pub found : (i : ℕ) → IsSearchInRange (Ok i) (length ends) → IsBinarySearchResult (λ y. hash_cmp y a) ends (Ok i) → true ≡ list_any (reaches a) ends
  found i l at = sym (list_any_at (reaches a) ends i a l (equal_reaches a (get_or ends i a) (at a)))

  module _ (up : IsSorted hash_cmp ends) (i : ℕ) (at : IsBinarySearchResult (λ y. hash_cmp y a) ends (Err i)) where
    parts : AllWithin (λ e. hash_cmp e a ≡ Less) ends 0 i × AllWithin (λ e. hash_cmp e a ≡ Greater) ends i (length ends)
    parts = at (searchable_from_sorted hash_total (λ (m : Hash). m) ends a up)

    -- before the place of a search none reaches
    before : (k : ℕ) (d : Hash) → k < i → reaches a (get_or ends k d) ≡ false
    before k d l = less_misses a (get_or ends k d) (parts.0 k d (omega arith) l)

    -- all are less
    pub none_left : length ends ≤ i → false ≡ list_any (reaches a) ends
    none_left past = sym (list_any_none (reaches a) ends (λ k d l. before k d (omega arith)))

    -- the first that is not less tells of all by its part
    pub first_tells : i < length ends → (e : Hash) → e ≡ get_or ends i e → (b : Bool) → b ≡ eq_by_cmp row_cmp e.0 a.0 → b ≡ list_any (reaches a) ends
    first_tells l e is b tested = tested ∙ settled (eq_by_cmp row_cmp e.0 a.0) refl
      where
        above : hash_cmp e a ≡ Greater
        above = ap (λ m. hash_cmp m a) is ∙ parts.1 i e (omega arith) l

        settled : (c : Bool) → eq_by_cmp row_cmp e.0 a.0 ≡ c → c ≡ list_any (reaches a) ends
        settled true h = sym (list_any_at (reaches a) ends i e l (ap (reaches a) (sym is) ∙ (greater_by_part a e above ∙ h)))
        settled false h = sym (list_any_none (reaches a) ends (λ k d m. elim (cases_lt k i) [
          | inl below ↦ before k d below
          | inr past ↦
              let own : get_or ends i d ≡ e = get_or_default ends i d e l ∙ sym is in
              let far = subst (λ z. is_lt (hash_cmp (get_or ends k d) z) ≡ false) own (sorted_far (λ x y. is_lt (hash_cmp x y)) (ranks_by hash_total (λ (m : Hash). m)) ends up i k d past m) in
              greater_by_part a (get_or ends k d) (parts.1 k d past m) ∙ behind a e (get_or ends k d) above h far
        ]))
