-- What a sort of pieces leaves.
use Rattle.std.proofs.Common.{◌≡◌, ℕ, zero, suc, ◌<◌, ◌≤◌, true, false, List, [], ◌∷◌, length, get_or, ◌↔◌, ◌⊎◌, inl, inr, arith, ap, subst, refl, ◌∙◌, Ordering}
use Rattle.std.specs.declared.cmp.Ordering.TheVariants.{Less, Equal, Greater}
use Rattle.std.specs.Cmp.{IsTotalOrder}
use Rattle.std.specs.Ordering.{nat_cmp, ordering_then, is_lt, ordering_reverse}
use Rattle.std.specs.List.{Contains}
use Rattle.std.specs.List.Sorted.{IsPermutation, IsSortedBy}
use Rattle.std.proofs.lemmas.Bool.{cases_lt, true≢false}
use Rattle.std.proofs.lemmas.Bool.Decides.{nat_tests}
use Rattle.std.proofs.lemmas.Cmp.{tied_back, then_total, on_total, nat_cmp_total}
use Rattle.std.proofs.lemmas.List.Sorted.{sorted_far, ranks_by, Contains-permutation, IsPermutation-sym}
use Rattle.std.proofs.lemmas.List.{get_or_default}
use Rattle.cell_packing.specs.Covering.{Among}
use Rattle.cell_packing.specs.Pieces.{Covers, NotAfter}
use Rattle.cell_packing.specs.declared.Piece.{Piece}
use Rattle.cell_packing.proofs.Joined.{covers_by, covers_from}

pub among_contains : {X : Type 0} (xs : List X) (x : X) → Among x xs → Contains xs x
among_contains [] x h = absurd h
among_contains (y ∷ ys) x h = elim h [ inl e ↦ (0, omega arith, e) | inr w ↦ let v = among_contains ys x w in (suc v.0, omega (arith, v.1), v.2) ]

pub contains_among : {X : Type 0} (xs : List X) (x : X) → Contains xs x → Among x xs
contains_among {X = X} [] x h = absurd (omega (arith, h.1))
contains_among {X = X} (y ∷ ys) x h = go h.0 h.1 h.2
  where
    go : (k : ℕ) → k < suc (length ys) → get_or (y ∷ ys) k x ≡ x → (y ≡ x) ⊎ Among x ys
    go zero l e = inl e
    go (suc k) l e = inr (from ys k (omega arith) e)
      where
        from : (zs : List X) (k : ℕ) → k < length zs → get_or zs k x ≡ x → Among x zs
        from [] k l e = absurd (omega arith)
        from (z ∷ zs) zero l e = inl e
        from (z ∷ zs) (suc k) l e = inr (from zs k (omega arith) e)

module _ {K : Type 0} (R : K → K → Ordering) (o : IsTotalOrder R) where
  covers_moved : (xs ys : List (Piece K)) → IsPermutation xs ys → (k : K) (i : ℕ) → Covers R xs k i → Covers R ys k i
  covers_moved xs ys p k i h =
      let w = covers_by R o xs k i h in
      covers_from R o ys w.0 k i (contains_among ys w.0 (Contains-permutation xs ys w.0 p (among_contains xs w.0 w.1))) w.2 w.3 w.4

  -- pieces in another order cover the same
  pub covers_permuted : (xs ys : List (Piece K)) → IsPermutation xs ys → (k : K) (i : ℕ) → Covers R ys k i ↔ Covers R xs k i
  covers_permuted xs ys p k i = (covers_moved ys xs (IsPermutation-sym xs ys p) k i, covers_moved xs ys p k i)

  abbrev pub piece_cmp : Piece K → Piece K → Ordering
  piece_cmp x y = ordering_then (R x.key y.key) (ordering_then (nat_cmp x.begin y.begin) (nat_cmp x.end y.end))

  piece_total : IsTotalOrder piece_cmp
  piece_total = then_total (on_total (λ (x : Piece K). x.key) o) (then_total (on_total (λ (x : Piece K). x.begin) nat_cmp_total) (on_total (λ (x : Piece K). x.end) nat_cmp_total))

  not_after : (x y : Piece K) → is_lt (piece_cmp y x) ≡ false → NotAfter R x y
  not_after x y h = go (R y.key x.key) refl h
    where
      second : (r : Ordering) → is_lt (ordering_then (nat_cmp y.begin x.begin) r) ≡ false → x.begin ≤ y.begin
      second r e = elim (cases_lt y.begin x.begin) [ inl l ↦ absurd (true≢false (less r l ∙ e)) | inr l ↦ l ]
        where
          less : (r : Ordering) → y.begin < x.begin → true ≡ is_lt (ordering_then (nat_cmp y.begin x.begin) r)
          less r l = grind (arith, nat_tests)

      go : (r : Ordering) → R y.key x.key ≡ r → is_lt (ordering_then r (ordering_then (nat_cmp y.begin x.begin) (nat_cmp y.end x.end))) ≡ false → NotAfter R x y
      go Less e h = absurd (true≢false h)
      go Equal e h = inr (tied_back o y.key x.key e, second _ h)
      go Greater e h = inl (o.antisymm x.key y.key ∙ ap ordering_reverse e)

  pub order_from_sorted : (xs : List (Piece K)) → IsSortedBy (λ x y. is_lt (piece_cmp x y)) xs → (i j : ℕ) (d e : Piece K) → i ≤ j → j < length xs → NotAfter R (get_or xs i d) (get_or xs j e)
  order_from_sorted xs s i j d e h l =
      let f = sorted_far (λ x y. is_lt (piece_cmp x y)) (ranks_by piece_total (λ x. x)) xs s i j d h l in
      subst (λ y. NotAfter R (get_or xs i d) y) (get_or_default xs j d e l) (not_after (get_or xs i d) (get_or xs j d) f)
