-- In a list in the order of keys the members with one key stand together.
use Rattle.std.proofs.Common.{◌≡◌, ℕ, zero, suc, ◌+◌, ◌-◌, ◌<◌, ◌≤◌, List, [], ◌∷◌, length, get_or, take, drop, refl, sym, ap, ◌∙◌, subst, arith, Bool, true, false, cond, not, ◌&&◌, Ordering}
use Rattle.std.specs.declared.cmp.Ordering.TheVariants.{Less, Equal, Greater}
use Rattle.std.specs.Cmp.{IsTotalOrder, IsStrictWeakOrder}
use Rattle.std.specs.List.{filter, AllWithin}
use Rattle.std.specs.List.Sorted.{IsSortedBy, IsSortedByKey, IsPartitionedBy, IsStableByKey, ties}
use Rattle.std.specs.Ordering.{is_lt, is_eq, ordering_reverse}
use Rattle.std.proofs.lemmas.Bool.{true≢false}
use Rattle.std.proofs.lemmas.List.Elements.{filter_agree}
use Rattle.std.proofs.lemmas.Cmp.{tied_itself, alike_right}
use Rattle.std.proofs.lemmas.List.{get_or-drop}
use Rattle.std.proofs.lemmas.List.MinMax.{ranks_by}
use Rattle.base_core.proofs.OrderingLemmas.{is_eq-Equal}

-- ---- where a member is not less than one before it

not_less : {E : Type 0} (lt : E → E → Bool) → IsStrictWeakOrder lt → (xs : List E) → IsSortedBy lt xs → (i m j : ℕ) (d : E) → j ≡ i + m → j < length xs → ((x : E) → lt x x ≡ false) → lt (get_or xs j d) (get_or xs i d) ≡ false
not_less lt o xs up i zero j d e l same =
    let here : i ≡ j = omega (arith, e) in
    subst (λ k. lt (get_or xs k d) (get_or xs i d) ≡ false) here (same (get_or xs i d))
not_less lt o xs up i (suc m) j d e l same =
    let next : i + m + 1 ≡ j = omega (arith, e) in
    let step = up (i + m) d (omega arith) (omega (arith, e, l)) in
    let before = not_less lt o xs up i m (i + m) d refl (omega (arith, e, l)) same in
    subst (λ k. lt (get_or xs k d) (get_or xs i d) ≡ false) next (o.chain (get_or xs (i + m + 1) d) (get_or xs (i + m) d) (get_or xs i d) step before)

less_of : (r : Ordering) → is_lt r ≡ true → r ≡ Less
less_of Less e = refl
less_of Equal e = absurd (true≢false (sym e))
less_of Greater e = absurd (true≢false (sym e))

module _ {E K : Type 0} (key : E → K) (cmp : K → K → Ordering) (o : IsTotalOrder cmp) where
  less : E → E → Bool
  less x y = is_lt (cmp (key x) (key y))

  no_less : (xs : List E) → IsSortedByKey key cmp xs → (i j : ℕ) (d : E) → i ≤ j → j < length xs → is_lt (cmp (key (get_or xs j d)) (key (get_or xs i d))) ≡ false
  no_less xs up i j d le l =
      not_less (λ x y. is_lt (cmp (key x) (key y))) (ranks_by o key) xs up i (j - i) j d (omega (arith, le)) l (λ x. ap is_lt (tied_itself o (key x)))

  -- the one not above another that is below a key is below it too
  below_down : (x y k : K) → is_lt (cmp y x) ≡ false → is_lt (cmp y k) ≡ true → is_lt (cmp x k) ≡ true
  below_down x y k up e =
      elim (cmp x y) as (λ r. cmp x y ≡ r → is_lt (cmp x k) ≡ true) [
        | Less ↦ λ h. ap is_lt (o.trans x y k h (less_of (cmp y k) e))
        | Equal ↦ λ h. ap is_lt (o.congr x y k h) ∙ e
        | Greater ↦ λ h. absurd (true≢false (sym (ap is_lt (o.antisymm y x ∙ ap ordering_reverse h)) ∙ up))
      ] refl

  -- what is not above a key and not below it has it
  at_down : (x y k : K) → is_lt (cmp y x) ≡ false → is_lt (cmp x k) ≡ false → is_eq (cmp y k) ≡ true → is_eq (cmp x k) ≡ true
  at_down x y k up low e =
      let same : cmp y k ≡ Equal = is_eq-Equal (cmp y k) e in
      elim (cmp x y) as (λ r. cmp x y ≡ r → is_eq (cmp x k) ≡ true) [
        | Less ↦ λ h. absurd (true≢false (sym (ap is_lt (sym (alike_right o y k x same) ∙ h)) ∙ low))
        | Equal ↦ λ h. ap is_eq (o.congr x y k h) ∙ e
        | Greater ↦ λ h. absurd (true≢false (sym (ap is_lt (o.antisymm y x ∙ ap ordering_reverse h)) ∙ up))
      ] refl

  pub below_partitions : (xs : List E) (k : K) → IsSortedByKey key cmp xs → IsPartitionedBy (λ e. is_lt (cmp (key e) k)) xs
  below_partitions xs k up i j d le l h = below_down (key (get_or xs i d)) (key (get_or xs j d)) k (no_less xs up i j d le l) h

  pub at_partitions : (xs rest : List E) (b : ℕ) (k : K) → IsSortedByKey key cmp xs → b ≤ length xs → rest ≡ drop b xs → length rest + b ≡ length xs
      → AllWithin (λ e. is_lt (cmp (key e) k) ≡ false) xs b (length xs) → IsPartitionedBy (λ e. is_eq (cmp (key e) k)) rest
  at_partitions xs rest b k up most is size low i j d le l h =
      let there : (n : ℕ) → get_or rest n d ≡ get_or xs (b + n) d = λ n. ap (λ zs. get_or zs n d) is ∙ get_or-drop b xs n d in
      let first = at_down (key (get_or xs (b + i) d)) (key (get_or xs (b + j) d)) k (no_less xs up (b + i) (b + j) d (omega (arith, le)) (omega (arith, l, size)))
      (low (b + i) d (omega arith) (omega (arith, le, l, size))) (subst (λ z. is_eq (cmp (key z) k) ≡ true) (there j) h) in
      subst (λ z. is_eq (cmp (key z) k) ≡ true) (sym (there i)) first

-- ---- the members that pass a test stand together

none_pass : {E : Type 0} (q : E → Bool) (xs : List E) → ((i : ℕ) (d : E) → i < length xs → q (get_or xs i d) ≡ false) → filter q xs ≡ []
none_pass q [] h = refl
none_pass q (x ∷ xs) h = ap (λ b. cond b (x ∷ filter q xs) (filter q xs)) (h zero x (omega arith)) ∙ none_pass q xs (λ i d l. h (suc i) d (omega (arith, l)))

prefix_passes : {E : Type 0} (q : E → Bool) (xs : List E) (n : ℕ) → AllWithin (λ e. q e ≡ true) xs 0 n → AllWithin (λ e. q e ≡ false) xs n (length xs) → filter q xs ≡ take n xs
prefix_passes q [] zero h k = refl
prefix_passes q [] (suc n) h k = refl
prefix_passes q (x ∷ xs) zero h k = none_pass q (x ∷ xs) (λ i d l. k i d (omega arith) l)
prefix_passes q (x ∷ xs) (suc n) h k =
    ap (λ b. cond b (x ∷ filter q xs) (filter q xs)) (h zero x (omega arith) (omega arith))
    ∙ ap (λ zs. x ∷ zs) (prefix_passes q xs n (λ i d a b. h (suc i) d (omega arith) (omega (arith, b))) (λ i d a b. k (suc i) d (omega (arith, a)) (omega (arith, b))))

rest_passes : {E : Type 0} (q : E → Bool) (xs : List E) (b : ℕ) → AllWithin (λ e. q e ≡ false) xs 0 b → filter q xs ≡ filter q (drop b xs)
rest_passes q xs zero h = refl
rest_passes q [] (suc b) h = refl
rest_passes q (x ∷ xs) (suc b) h =
    ap (λ t. cond t (x ∷ filter q xs) (filter q xs)) (h zero x (omega arith) (omega arith)) ∙ rest_passes q xs b (λ i d l m. h (suc i) d (omega arith) (omega (arith, m)))

pub run_is : {E : Type 0} (p q : E → Bool) → ((e : E) → p e ≡ true → q e ≡ false) → (xs rest found : List E) (b n : ℕ) → rest ≡ drop b xs → found ≡ take n rest
    → AllWithin (λ e. p e ≡ true) xs 0 b → AllWithin (λ e. q e ≡ true) rest 0 n → AllWithin (λ e. q e ≡ false) rest n (length rest) → found ≡ filter q xs
run_is p q apart xs rest found b n is cut low at high =
    cut ∙ (sym (prefix_passes q rest n at high) ∙ (ap (λ zs. filter q zs) is ∙ sym (rest_passes q xs b (λ i d l m. apart (get_or xs i d) (low i d l m)))))

pub not_below : (r : Ordering) → is_lt r ≡ true → is_eq r ≡ false
not_below Less e = refl
not_below Equal e = absurd (true≢false (sym e))
not_below Greater e = refl

-- ---- a stable sort

tied : (r s : Ordering) → r ≡ ordering_reverse s → (not (is_lt r) && not (is_lt s)) ≡ is_eq s
tied r Less e = ap (λ t. not (is_lt t) && not (is_lt Less)) e
tied r Equal e = ap (λ t. not (is_lt t) && not (is_lt Equal)) e
tied r Greater e = ap (λ t. not (is_lt t) && not (is_lt Greater)) e

-- members with one key stand in the order that they had
pub stable_at : {E K : Type 0} (key : E → K) (cmp : K → K → Ordering) (o : IsTotalOrder cmp) (xs ys : List E) → IsStableByKey key cmp xs ys → (e : E)
    → filter (λ x. is_eq (cmp (key x) (key e))) ys ≡ filter (λ x. is_eq (cmp (key x) (key e))) xs
stable_at key cmp o xs ys stable e =
    let same : (x : _) → ties (λ a b. is_lt (cmp (key a) (key b))) e x ≡ is_eq (cmp (key x) (key e)) = λ x. tied (cmp (key e) (key x)) (cmp (key x) (key e)) (o.antisymm (key e) (key x)) in
    sym (filter_agree (ties (λ a b. is_lt (cmp (key a) (key b))) e) (λ x. is_eq (cmp (key x) (key e))) same ys)
    ∙ (stable e ∙ filter_agree (ties (λ a b. is_lt (cmp (key a) (key b))) e) (λ x. is_eq (cmp (key x) (key e))) same xs)
