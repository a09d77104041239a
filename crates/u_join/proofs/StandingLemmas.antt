-- Rows by their keys and by where their intervals begin.
use Rattle.std.proofs.Common.{◌≡◌, ◌⊎◌, inl, inr, ℕ, suc, ◌+◌, ◌<◌, ◌≤◌, ℤ, ◌≤ℤ◌, ◌<ℤ◌, true, false, List, [], ◌∷◌, map, drop, length, get_or, refl, sym, ap, ◌∙◌, subst, arith, Ordering}
use Rattle.std.proofs.Math.Seq.{drop-cons}
use Rattle.std.specs.Prelude.{slice_index_or}
use Rattle.std.specs.Cmp.{IsTotalOrder}
use Rattle.std.specs.Ordering.{int_cmp, ordering_then, ordering_reverse, is_eq, is_lt}
use Rattle.std.specs.List.{All}
use Rattle.std.specs.List.Sorted.{IsSortedBy}
use Rattle.std.specs.declared.cmp.Ordering.TheVariants.{Less, Equal, Greater}
use Rattle.std.proofs.lemmas.Bool.{true≢false}
use Rattle.std.proofs.lemmas.Cmp.{tied_back, then_total, on_total, int_cmp_total, int_ranked}
use Rattle.std.proofs.lemmas.Int.{ints}
use Rattle.std.proofs.lemmas.List.{get_or_default}
use Rattle.std.proofs.lemmas.List.Elements.{Contains-get_or}
use Rattle.std.proofs.lemmas.List.Sorted.{sorted_far, ranks_by}
use Rattle.base_core.proofs.SetLemmas.{In, In-from_Contains}
use Rattle.interval_core.specs.Members.{Span}
use Rattle.u_set.proofs.ApartLemmas.{then_stop, then_go}
use Rattle.value_core.specs.declared.value.Value.{Value as Held}
use Rattle.value_core.specs.Order.{row_total}
use Rattle.value_core.specs.Plain.{plain}
use Rattle.value_core.specs.Values.{Row, truth, value_cmp, row_cmp}
use Rattle.relation_core.specs.Agreement.{part_of}
use Rattle.u_row.proofs.CuttingLemmas.{drop_all}
use Rattle.u_join.specs.RowPairs.{Stood, stood_cmp, Ascend}

-- ---- how keys stand to each other, from a place on

module _ (ps qs : List ℕ) (x y : Row) where
  abbrev from_place : ℕ → Ordering
  from_place i = row_cmp (part_of (drop i ps) x) (part_of (drop i qs) y)

  abbrev whole : Ordering
  whole = row_cmp (part_of ps x) (part_of qs y)

  module _ (i : ℕ) (h : from_place i ≡ whole) where
    pub keys_longer : i < length ps → length qs ≤ i → Greater ≡ whole
    keys_longer l m =
        let a : drop i ps ≡ get_or ps i 0 ∷ drop (suc i) ps = drop-cons ps i 0 l in
        let b : drop i qs ≡ [] = drop_all qs i m in
        (λ t. row_cmp (part_of (sym a t) x) (part_of (sym b t) y)) ∙ h

    pub keys_shorter : length ps ≤ i → i < length qs → Less ≡ whole
    keys_shorter l m =
        let a : drop i ps ≡ [] = drop_all ps i l in
        let b : drop i qs ≡ get_or qs i 0 ∷ drop (suc i) qs = drop-cons qs i 0 m in
        (λ t. row_cmp (part_of (sym a t) x) (part_of (sym b t) y)) ∙ h

    module _ (left right : List Held) (lefts : map plain left ≡ x) (rights : map plain right ≡ y) (r : Ordering) (l : i < length ps) (m : i < length qs)
        (is : r ≡ value_cmp (slice_index_or (map plain left) (get_or ps i 0) (truth false)) (slice_index_or (map plain right) (get_or qs i 0) (truth false))) where
      keys_step : from_place i ≡ ordering_then r (from_place (i + 1))
      keys_step =
          let k : suc i ≡ i + 1 = omega arith in
          let a : drop i ps ≡ get_or ps i 0 ∷ drop (suc i) ps = drop-cons ps i 0 l in
          let b : drop i qs ≡ get_or qs i 0 ∷ drop (suc i) qs = drop-cons qs i 0 m in
          let here : r ≡ value_cmp (slice_index_or x (get_or ps i 0) (truth false)) (slice_index_or y (get_or qs i 0) (truth false)) =
          is ∙ (λ t. value_cmp (slice_index_or (lefts t) (get_or ps i 0) (truth false)) (slice_index_or (rights t) (get_or qs i 0) (truth false))) in
          (λ t. row_cmp (part_of (a t) x) (part_of (b t) y))
          ∙ (λ t. ordering_then (sym here t) (row_cmp (part_of (drop (k t) ps) x) (part_of (drop (k t) qs) y)))

      pub keys_stop : is_eq r ≡ false → r ≡ whole
      keys_stop e = sym (then_stop r (from_place (i + 1)) e) ∙ sym keys_step ∙ h

      pub keys_go : is_eq r ≡ true → from_place (i + 1) ≡ whole
      keys_go e = sym (then_go r (from_place (i + 1)) e) ∙ sym keys_step ∙ h

-- ---- what a sort leaves

pub stood_total : IsTotalOrder stood_cmp
stood_total = then_total (on_total (λ (x : Stood). x.1) row_total) (on_total (λ (x : Stood). x.2.0) int_cmp_total)

not_after : (a b : ℤ) → is_lt (int_cmp b a) ≡ false → a ≤ℤ b
not_after a b h = go (int_cmp b a) refl h
  where
    go : (r : Ordering) → int_cmp b a ≡ r → is_lt r ≡ false → a ≤ℤ b
    go Less e h = absurd (true≢false h)
    go Equal e h = let f : b ≡ a = int_ranked b a Equal (sym e) in omega (arith, ints, f)
    go Greater e h = let f : a <ℤ b = int_ranked b a Greater (sym e) in omega (arith, ints, f)

stands : (x y : Stood) → is_lt (stood_cmp y x) ≡ false → (row_cmp x.1 y.1 ≡ Less) ⊎ ((row_cmp x.1 y.1 ≡ Equal) × (x.2.0 ≤ℤ y.2.0))
stands x y h = go (row_cmp y.1 x.1) refl h
  where
    go : (r : Ordering) → row_cmp y.1 x.1 ≡ r → is_lt (ordering_then r (int_cmp y.2.0 x.2.0)) ≡ false → (row_cmp x.1 y.1 ≡ Less) ⊎ ((row_cmp x.1 y.1 ≡ Equal) × (x.2.0 ≤ℤ y.2.0))
    go Less e h = absurd (true≢false h)
    go Equal e h = inr (tied_back row_total y.1 x.1 e, not_after x.2.0 y.2.0 h)
    go Greater e h = inl (row_total.antisymm x.1 y.1 ∙ ap ordering_reverse e)

pub ascend_from_sorted : {A : Type 0} (see : A → Stood) (rows : List A) → IsSortedBy (λ x y. is_lt (stood_cmp (see x) (see y))) rows → Ascend see rows
ascend_from_sorted {A} see rows s i j x y h a b =
    let f = sorted_far (λ x y. is_lt (stood_cmp (see x) (see y))) (ranks_by stood_total see) rows s i j x h b.0 in
    let ex : get_or rows i x ≡ x = a.1 in
    let ey : get_or rows j x ≡ y = get_or_default rows j x y b.0 ∙ b.1 in
    stands (see x) (see y) (subst (λ z. is_lt (stood_cmp (see z) (see x)) ≡ false) ey (subst (λ z. is_lt (stood_cmp (see (get_or rows j x)) (see z)) ≡ false) ex f))

-- ---- lists that are one

pub all_held : {X : Type 0} (P : X → Type 0) (items rows : List X) → items ≡ rows → ((x : X) → In x rows → P x) → All P items
all_held P items rows same h = λ i d l. h (get_or items i d) (subst (In (get_or items i d)) same (In-from_Contains items (get_or items i d) (Contains-get_or items i d l)))

-- a row is seen by the numbers of its interval's ends
pub stood_by_ends : (row key : Row) (begin end : ℤ) {i : Span} → begin ≡ i.0 → end ≡ i.1 → (let x : Stood = (row, key, (begin, end)) in let y : Stood = (row, key, i) in x ≡ y)
stood_by_ends row key begin end a b = λ t. (row, key, (a t, b t))
