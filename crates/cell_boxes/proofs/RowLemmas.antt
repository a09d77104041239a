-- Rows by their numbers, and in order.
use Rattle.std.proofs.Common.{◌≡◌, ℕ, zero, suc, ◌<◌, ◌≤◌, true, false, List, [], ◌∷◌, map, length, get_or, ◌⊎◌, inl, inr, arith, sym, ap, subst, refl, ◌∙◌, Ordering}
use Rattle.std.specs.declared.cmp.Ordering.TheVariants.{Less, Equal, Greater}
use Rattle.std.specs.Cmp.{IsTotalOrder}
use Rattle.std.specs.Cmp.Lexicographic.{slice_cmp}
use Rattle.std.specs.Ordering.{nat_cmp, ordering_then, ordering_reverse, is_lt}
use Rattle.std.specs.List.{All}
use Rattle.std.specs.List.Sorted.{IsSortedBy}
use Rattle.std.proofs.lemmas.Bool.{cases_lt, true≢false}
use Rattle.std.proofs.lemmas.Bool.Decides.{nat_tests}
use Rattle.std.proofs.lemmas.Cmp.{tied_back}
use Rattle.std.proofs.lemmas.List.Sorted.{sorted_far, ranks_by}
use Rattle.std.proofs.lemmas.List.{get_or_default}
use Rattle.cell_packing.specs.Covering.{Among}
use Rattle.cell_packing.proofs.Order.{among_contains, contains_among}
use Rattle.cell_sweep.specs.Rows.{pair_cmp, key_cmp, key_total}
use Rattle.cell_boxes.specs.Common.{first_of}
use Rattle.cell_boxes.specs.Rows.{IsRow, Ascend, PlainCellBox}

-- ---- rows by their numbers

pub row_among : {X : Type 0} (xs : List X) (i : ℕ) (x : X) → IsRow xs i x → Among x xs
row_among xs i x h = contains_among xs x (i, h.0, h.1)

pub among_row : {X : Type 0} (xs : List X) (x : X) → Among x xs → (i : ℕ) × IsRow xs i x
among_row xs x h = let w = among_contains xs x h in (w.0, (w.1, w.2))

pub one_row : {X : Type 0} (xs : List X) (i : ℕ) (x y : X) → IsRow xs i x → IsRow xs i y → x ≡ y
one_row xs i x y a b = sym a.1 ∙ get_or_default xs i x y a.0 ∙ b.1

-- a row below the length is there
pub some_row : {X : Type 0} (xs : List X) (i : ℕ) (d : X) → i < length xs → IsRow xs i (get_or xs i d)
some_row xs i d h = (h, get_or_default xs i (get_or xs i d) d h)

-- what holds of all rows holds of each
pub row_all : {X : Type 0} (Q : X → Type 0) (xs : List X) → All Q xs → (i : ℕ) (x : X) → IsRow xs i x → Q x
row_all Q xs a i x h = subst Q h.1 (a i x h.0)

pub row_sides : {P : Type 0} (k : ℕ) (rows : List (PlainCellBox P)) → All (λ x. length x.1 ≡ k) rows → (i : ℕ) (x : PlainCellBox P) → IsRow rows i x → length x.1 ≡ k
row_sides {P} k rows a i x h = row_all (λ (z : PlainCellBox P). length z.1 ≡ k) rows a i x h

-- there is one of each number below the length
pub row_there : {X : Type 0} (xs : List X) (i : ℕ) → i < length xs → (x : X) × IsRow xs i x
row_there [] i h = absurd (omega arith)
row_there (x ∷ xs) zero h = (x, (omega arith, refl))
row_there (x ∷ xs) (suc i) h = let w = row_there xs i (omega arith) in let l = w.1.0 in (w.0, (omega arith, w.1.1))

pub map_row : {X Y : Type 0} (f : X → Y) (xs : List X) (i : ℕ) (x : X) → IsRow xs i x → IsRow (map f xs) i (f x)
map_row f [] i x h = absurd (let l = h.0 in omega arith)
map_row f (y ∷ ys) zero x h = (omega arith, ap f h.1)
map_row f (y ∷ ys) (suc i) x h = let l = h.0 in let w = map_row f ys i x (omega arith, h.1) in let m = w.0 in (omega arith, w.1)

-- a row of the images is one of a row
pub row_map : {X Y : Type 0} (f : X → Y) (xs : List X) (i : ℕ) (y : Y) → IsRow (map f xs) i y → (x : X) × IsRow xs i x × (f x ≡ y)
row_map f [] i y h = absurd (let l = h.0 in omega arith)
row_map f (x ∷ xs) zero y h = (x, (omega arith, refl), h.1)
row_map f (x ∷ xs) (suc i) y h = let l = h.0 in let w = row_map f xs i y (omega arith, h.1) in let m = w.1.0 in (w.0, (omega arith, w.1.1), w.2)

-- ---- rows before a key and a cell

module _ {P : Type 0} (order : P → P → Ordering) (total : IsTotalOrder order) where
  -- ---- what a sort leaves

  first_in_order : (r : Ordering) (x y : List (ℕ × ℕ)) → is_lt (slice_cmp pair_cmp y x) ≡ false → (first_of x).0 ≤ (first_of y).0
  first_in_order r [] y h = omega arith
  first_in_order r (a ∷ x) [] h = absurd (true≢false h)
  first_in_order r (a ∷ x) (b ∷ y) h = elim (cases_lt b.0 a.0) [ inl l ↦ absurd (true≢false (less b.0 a.0 (nat_cmp b.1 a.1) (slice_cmp pair_cmp y x) l ∙ h)) | inr l ↦ l ]
    where
      less : (n m : ℕ) (r s : Ordering) → n < m → true ≡ is_lt (ordering_then (ordering_then (nat_cmp n m) r) s)
      less n m r s l = grind (arith, nat_tests)

  pub in_order : (x y : PlainCellBox P) → is_lt (key_cmp order y x) ≡ false → (order x.0 y.0 ≡ Less) ⊎ ((order x.0 y.0 ≡ Equal) × ((first_of x.1).0 ≤ (first_of y.1).0))
  in_order x y h = go (order y.0 x.0) refl h
    where
      go : (r : Ordering) → order y.0 x.0 ≡ r → is_lt (ordering_then r (slice_cmp pair_cmp y.1 x.1)) ≡ false → (order x.0 y.0 ≡ Less) ⊎ ((order x.0 y.0 ≡ Equal) × ((first_of x.1).0 ≤ (first_of y.1).0))
      go Less e h = absurd (true≢false h)
      go Equal e h = inr (tied_back total y.0 x.0 e, first_in_order Less x.1 y.1 h)
      go Greater e h = inl (total.antisymm x.0 y.0 ∙ ap ordering_reverse e)

  pub ascend_from_sorted : (rows : List (PlainCellBox P)) → IsSortedBy (λ x y. is_lt (key_cmp order x y)) rows → Ascend order rows
  ascend_from_sorted rows s i j x y h a b =
      let f = sorted_far (λ x y. is_lt (key_cmp order x y)) (ranks_by (key_total total) (λ x. x)) rows s i j x h b.0 in
      let ex : get_or rows i x ≡ x = a.1 in
      let ey : get_or rows j x ≡ y = get_or_default rows j x y b.0 ∙ b.1 in
      in_order x y (subst (λ z. is_lt (key_cmp order z x) ≡ false) ey (subst (λ z. is_lt (key_cmp order (get_or rows j x) z) ≡ false) ex f))
