-- Rows that are sorted, each once, and the search among them.
use Rattle.std.proofs.Common.{◌≡◌, inl, inr, ℕ, zero, suc, ◌<◌, ◌≤◌, Bool, true, false, List, [], ◌∷◌, length, get_or, Result, Ok, Err, refl, sym, ap, ◌∙◌, subst, arith, Ordering, Less, Equal, Greater, is_ok}
use Rattle.std.proofs.Math.Bool.{and-false}
use Rattle.std.proofs.Math.Nat.{eq-or-lt_of_le}
use Rattle.std.proofs.lemmas.Bool.{cases_lt, and_parts}
use Rattle.std.proofs.lemmas.List.Folds.{list_any_at, list_any_none}
use Rattle.std.proofs.lemmas.List.Filters.{dedup_is}
use Rattle.std.proofs.lemmas.List.Kept.{IsStrictlySortedBy-dedup}
use Rattle.std.specs.List.{AllByRecursion, list_all, dedup}
use Rattle.std.specs.List.Retain.{IsFiltered, DiffersFromLast}
use Rattle.std.specs.List.Sorted.{IsPermutation, IsSorted, IsStrictlySortedBy, IsNonDecreasingBy, IsBinarySearchResult, IsSearchInRange}
use Rattle.std.specs.Ordering.{is_eq, eq_by_cmp, ordering_reverse, ordering_index}
use Rattle.std.specs.Cmp.{IsTotalOrder, tied_back}
use Rattle.base_core.specs.Sets.{has, is_set}
use Rattle.base_core.proofs.SetLemmas.{In, In-in_order, in_order_of_sorted, in_order_of_ascending, AllAfter, Ascends}
use Rattle.base_core.proofs.SetOperatorLemmas.{is_set-Ascends}
use Rattle.value_core.specs.Values.{Row, Heading, row_cmp, rows_of, fits_heading}
use Rattle.value_core.specs.Order.{row_total, row_separates}

-- ---- a row of another length fits no heading

pub other_length : (heading : Heading) (row : Row) → (length heading ≡ length row → ⊥) → fits_heading heading row ≡ false
other_length [] [] n = absurd (n refl)
other_length [] (v ∷ row) n = refl
other_length (a ∷ heading) [] n = refl
other_length (a ∷ heading) (v ∷ row) n =
    let shorter : fits_heading heading row ≡ false = other_length heading row (λ e. n (ap suc e)) in
    rw (shorter, and-false) refl

-- ---- a binary search tells membership

module _ {X : Type 0} (cmp : X → X → Ordering) (o : IsTotalOrder cmp) where
  after : (x : X) (xs : List X) (j : ℕ) (d : X) → AllByRecursion (λ y. cmp x y ≡ Less) xs → j < length xs → cmp x (get_or xs j d) ≡ Less
  after x [] j d h l = absurd (omega arith)
  after x (y ∷ ys) zero d h l = h.0
  after x (y ∷ ys) (suc j) d h l = after x ys j d h.1 (omega arith)

  ascend : (xs : List X) (i j : ℕ) (d : X) → IsStrictlySortedBy cmp xs → i < j → j < length xs → cmp (get_or xs i d) (get_or xs j d) ≡ Less
  unfolding IsStrictlySortedBy
  ascend [] i j d h k l = absurd (omega arith)
  ascend (x ∷ xs) i zero d h k l = absurd (omega arith)
  ascend (x ∷ xs) zero (suc j) d h k l = after x xs j d h.0 (omega arith)
  ascend (x ∷ xs) (suc i) (suc j) d h k l = ascend xs i j d h.1 (omega arith) (omega arith)

  -- what is less stands no higher against x
  no_higher : (a b x : X) → cmp a b ≡ Less → ordering_index (cmp a x) ≤ ordering_index (cmp b x)
  no_higher a b x less =
      elim (cmp a x) as (λ r. cmp a x ≡ r → ordering_index r ≤ ordering_index (cmp b x)) [
        | Less ↦ λ e. omega arith
        | Equal ↦ λ e. let here : cmp b x ≡ Greater = o.antisymm b x ∙ ap ordering_reverse (sym (o.congr a x b e) ∙ less) in rw here (omega arith)
        | Greater ↦ λ e.
            let back : cmp x a ≡ Less = o.antisymm x a ∙ ap ordering_reverse e in
            let here : cmp b x ≡ Greater = o.antisymm b x ∙ ap ordering_reverse (o.trans x a b back less) in
            rw here (omega arith)
      ] refl

  pub rising : (xs : List X) (x : X) → IsStrictlySortedBy cmp xs → IsNonDecreasingBy (λ y. ordering_index (cmp y x)) xs
  rising xs x up i j d le within =
      elim (eq-or-lt_of_le le) [
        | inl e ↦ subst (λ m. ordering_index (cmp (get_or xs i d) x) ≤ ordering_index (cmp (get_or xs m d) x)) e (omega arith)
        | inr l ↦ no_higher (get_or xs i d) (get_or xs j d) x (ascend xs i j d up l within)
      ]

  pub searched_has : (xs : List X) (x : X) (r : Result ℕ ℕ) → IsStrictlySortedBy cmp xs → IsSearchInRange r (length xs) → IsBinarySearchResult (λ y. cmp y x) xs r → is_ok r ≡ has cmp xs x
  searched_has xs x (Ok i) up within found = sym (list_any_at (eq_by_cmp cmp x) xs i x within (ap is_eq (tied_back o (get_or xs i x) x (found x))))
  searched_has xs x (Err i) up within found =
      let parts = found (rising xs x up) in
      sym (list_any_none (eq_by_cmp cmp x) xs (λ k d l.
      elim (cases_lt k i) [
        | inl below ↦ ap is_eq (o.antisymm x (get_or xs k d) ∙ ap ordering_reverse (parts.0 k d (omega arith) below))
        | inr above ↦ ap is_eq (o.antisymm x (get_or xs k d) ∙ ap ordering_reverse (parts.1 k d above l))
      ]))

-- ---- a sort and a dedup give the relation

all_pass : {X : Type 0} (p : X → Bool) (xs : List X) → ((x : X) → In x xs → p x ≡ true) → list_all p xs ≡ true
all_pass p [] h = refl
all_pass p (x ∷ xs) h = rw (h x (inl refl), all_pass p xs (λ y i. h y (inr i))) refl

each_passes : {X : Type 0} (p : X → Bool) (xs : List X) (x : X) → list_all p xs ≡ true → In x xs → p x ≡ true
each_passes p [] x h i = absurd i
each_passes p (y ∷ ys) x h i =
    let both = and_parts (p y) (list_all p ys) h in
    elim i [ inl e ↦ ap p e ∙ both.0 | inr k ↦ each_passes p ys x both.1 k ]

-- the set of a list passes a test that the list passes
pub in_order_passes : (p : Row → Bool) (rows : List Row) → list_all p rows ≡ true → list_all p (rows_of rows) ≡ true
in_order_passes p rows h =
    all_pass p (rows_of rows) (λ x i. each_passes p rows x h ((In-in_order row_cmp row_total row_separates x rows).0 i))

-- what a sort and a dedup leave
pub rows_from_sort : (given sorted kept : List Row) → IsPermutation given sorted → IsSorted row_cmp sorted → IsFiltered (DiffersFromLast (eq_by_cmp row_cmp)) [] sorted kept
    → (kept ≡ rows_of given) × IsStrictlySortedBy row_cmp kept
rows_from_sort given sorted kept moved up filtered =
    let is : kept ≡ dedup (eq_by_cmp row_cmp) sorted = dedup_is (eq_by_cmp row_cmp) sorted kept filtered in (
      is ∙ in_order_of_sorted row_cmp row_total row_separates (eq_by_cmp row_cmp) (λ x y. refl) given sorted moved up,
      subst (IsStrictlySortedBy row_cmp) (sym is) (IsStrictlySortedBy-dedup row_total (λ x y. refl) sorted up),
    )

-- ---- rows that ascend already

each_after : (x : Row) (ys : List Row) → AllAfter row_cmp x ys → AllByRecursion (λ y. row_cmp x y ≡ Less) ys
each_after x [] h = tt
each_after x (y ∷ ys) h = (h.0, each_after x ys h.1)

pub sorted_from_ascending : (xs : List Row) → Ascends row_cmp xs → IsStrictlySortedBy row_cmp xs
unfolding IsStrictlySortedBy
sorted_from_ascending [] h = tt
sorted_from_ascending (x ∷ xs) h = (each_after x xs h.0, sorted_from_ascending xs h.1)

pub rows_from_set : (rows : List Row) → is_set row_cmp rows ≡ true → (rows ≡ rows_of rows) × IsStrictlySortedBy row_cmp rows
rows_from_set rows h =
    let up : Ascends row_cmp rows = (is_set-Ascends row_cmp row_total rows).0 h in
    (sym (in_order_of_ascending row_cmp row_total row_separates rows up), sorted_from_ascending rows up)
