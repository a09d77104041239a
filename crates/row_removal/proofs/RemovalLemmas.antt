-- Rows that are taken out of those that ascend.
--     taken_turn      taking out one row after the other
--     taken_found, taken_missing      a row that a search finds, and one that it does not find
--     fewer_relation      what is left of a relation's rows is a relation
use Rattle.std.proofs.Common.{◌≡◌, inl, inr, ℕ, zero, suc, ◌+◌, take, ◌<◌, ◌≤◌, Bool, true, false, not, List, [], ◌∷◌, ◌++◌, length, get_or, refl, sym, ap, subst, ◌∙◌, arith, true≢false, cond, Err, Ordering, Less, Equal, Greater, ◌||◌}
use Rattle.std.specs.List.{filter, remove, HoldsAt}
use Rattle.std.specs.List.Sorted.{IsStrictlySortedBy, IsBinarySearchResult}
use Rattle.std.specs.Ordering.{ordering_reverse, is_eq}
use Rattle.base_core.specs.Sets.{has}
use Rattle.base_core.proofs.SetLemmas.{In, AllAfter, Ascends, Ascends-from_sorted, same_by_members}
use Rattle.base_core.proofs.MemberLemmas.{In-append, has-In}
use Rattle.base_core.proofs.SetOperatorLemmas.{In-difference_of, Ascends-difference_of, AllAfter-In}
use Rattle.value_core.specs.Values.{Row, Relation, row_cmp, fits_heading, IsRelation}
use Rattle.value_core.specs.Order.{row_total, row_separates}
use Rattle.value_core.proofs.RelationLemmas.{searched_has, sorted_from_ascending}
use Rattle.relation_core.specs.Operators.{subtracted}
use Rattle.relation_core.proofs.FilterLemmas.{filter_all, list_all-filter, length-filter_at_most}

-- ---- one after the other

pub taken_turn : (rows gone : List Row) (x : Row) → IsStrictlySortedBy row_cmp rows → subtracted (subtracted rows gone) (x ∷ []) ≡ subtracted rows (gone ++ x ∷ [])
taken_turn rows gone x sorted =
    let up = Ascends-from_sorted row_cmp rows sorted in
    let part = Ascends-difference_of row_cmp row_total row_separates rows gone up in
    same_by_members row_cmp row_total row_separates (subtracted (subtracted rows gone) (x ∷ [])) (subtracted rows (gone ++ x ∷ []))
    (Ascends-difference_of row_cmp row_total row_separates (subtracted rows gone) (x ∷ []) part)
    (Ascends-difference_of row_cmp row_total row_separates rows (gone ++ x ∷ []) up)
    (λ z.
    let last = In-difference_of row_cmp row_total row_separates z (subtracted rows gone) (x ∷ []) in
    let first = In-difference_of row_cmp row_total row_separates z rows gone in
    let both = In-difference_of row_cmp row_total row_separates z rows (gone ++ x ∷ []) in
    let either = In-append z gone (x ∷ []) in (
      λ i. both.1 ((first.0 (last.0 i).0).0, λ j. elim (either.0 j) [ inl k ↦ (first.0 (last.0 i).0).1 k | inr k ↦ (last.0 i).1 k ]),
      λ i. last.1 (first.1 ((both.0 i).0, λ j. (both.0 i).1 (either.1 (inl j))), λ j. (both.0 i).1 (either.1 (inr j))),
    ))

pub one_more : (gone : List Row) (i : ℕ) (x : Row) → i < length gone → x ≡ get_or gone i x → take i gone ++ x ∷ [] ≡ take (i + 1) gone
one_more gone i x l e = let one : suc i ≡ i + 1 = omega arith in by gone i l e ∙ ap (λ (n : ℕ). take n gone) one
  where
    by : (ys : List Row) (k : ℕ) → k < length ys → x ≡ get_or ys k x → take k ys ++ x ∷ [] ≡ take (suc k) ys
    by [] k l e = absurd (omega arith)
    by (y ∷ ys) zero l e = ap (λ (z : Row). z ∷ []) e
    by (y ∷ ys) (suc k) l e = ap (λ (zs : List Row). y ∷ zs) (by ys k (omega arith) e)

pub sorted_taken : (rows gone : List Row) → IsStrictlySortedBy row_cmp rows → IsStrictlySortedBy row_cmp (subtracted rows gone)
sorted_taken rows gone sorted =
    sorted_from_ascending (subtracted rows gone) (Ascends-difference_of row_cmp row_total row_separates rows gone (Ascends-from_sorted row_cmp rows sorted))

-- ---- one row

after_at : (y : Row) (ys : List Row) (i : ℕ) (d : Row) → AllAfter row_cmp y ys → i < length ys → row_cmp y (get_or ys i d) ≡ Less
after_at y [] i d a l = absurd (omega arith)
after_at y (z ∷ zs) zero d a l = a.0
after_at y (z ∷ zs) (suc i) d a l = after_at y zs i d a.1 (omega arith)

kept : (x z : Row) (r : Ordering) → is_eq r ≡ false → row_cmp z x ≡ r → not (has row_cmp (x ∷ []) z) ≡ true
kept x z r e is = ap (λ (o : Ordering). not (is_eq o || false)) is ∙ ap (λ (b : Bool). not (b || false)) e

pub found_at : (rows : List Row) (x : Row) (i : ℕ) → Ascends row_cmp rows → i < length rows → ((d : Row) → row_cmp (get_or rows i d) x ≡ Equal) → remove rows i ≡ subtracted rows (x ∷ [])
found_at [] x i up l found = absurd (omega arith)
found_at (y ∷ ys) x zero up l found =
    let p = λ (z : Row). not (has row_cmp (x ∷ []) z) in
    let gone : p y ≡ false = ap (λ (o : Ordering). not (is_eq o || false)) (found y) in
    let same : y ≡ x = row_separates y x (found y) in
    let rest : filter p ys ≡ ys = filter_all p ys (λ z i.
    let less : row_cmp x z ≡ Less = subst (λ (w : Row). row_cmp w z ≡ Less) same ((AllAfter-In row_cmp y ys).0 up.0 z i) in
    kept x z Greater refl (row_total.antisymm z x ∙ ap ordering_reverse less)) in
    sym (ap (λ (b : Bool). cond b (y ∷ filter p ys) (filter p ys)) gone ∙ rest)
found_at (y ∷ ys) x (suc i) up l found =
    let p = λ (z : Row). not (has row_cmp (x ∷ []) z) in
    let same : get_or ys i y ≡ x = row_separates (get_or ys i y) x (found y) in
    let less : row_cmp y x ≡ Less = subst (λ (w : Row). row_cmp y w ≡ Less) same (after_at y ys i y up.0 (omega arith)) in
    let stays : p y ≡ true = kept x y Less refl less in
    ap (λ (zs : List Row). y ∷ zs) (found_at ys x i up.1 (omega arith) found) ∙ sym (ap (λ (b : Bool). cond b (y ∷ filter p ys) (filter p ys)) stays)

-- a row that the search finds
pub taken_found : (rows : List Row) (x : Row) (i : ℕ) → IsStrictlySortedBy row_cmp rows → i < length rows → HoldsAt (λ y. row_cmp y x ≡ Equal) rows i → remove rows i ≡ subtracted rows (x ∷ [])
taken_found rows x i sorted l found = found_at rows x i (Ascends-from_sorted row_cmp rows sorted) l found

-- a row that it does not find
pub taken_missing : (rows : List Row) (x : Row) (i : ℕ) → IsStrictlySortedBy row_cmp rows → i ≤ length rows → IsBinarySearchResult (λ y. row_cmp y x) rows (Err i) → rows ≡ subtracted rows (x ∷ [])
taken_missing rows x i sorted within missing =
    let none : false ≡ has row_cmp rows x = searched_has row_cmp row_total rows x (Err i) sorted within missing in
    let p = λ (z : Row). not (has row_cmp (x ∷ []) z) in
    sym (filter_all p rows (λ z j. by z j none (has row_cmp (x ∷ []) z) refl))
  where
    by : (z : Row) → In z rows → false ≡ has row_cmp rows x → (b : Bool) → has row_cmp (x ∷ []) z ≡ b → not (has row_cmp (x ∷ []) z) ≡ true
    by z j none false q = ap not q
    by z j none true q = elim ((has-In row_cmp row_total row_separates (x ∷ []) z).0 q) [
      | inl same ↦ absurd (true≢false (sym ((has-In row_cmp row_total row_separates rows x).1 (subst (λ (w : Row). In w rows) same j)) ∙ sym none))
      | inr n ↦ absurd n
    ]

-- ---- what is left

pub fewer_relation : (old : Relation) (gone : List Row) → IsRelation old → IsRelation (record { heading = old.heading; rows = subtracted old.rows gone })
fewer_relation old gone is =
    let p = λ (x : Row). not (has row_cmp gone x) in
    let less = length-filter_at_most p old.rows in
    let few = is.few in
    record {
      headed = is.headed;
      ascending = sorted_taken old.rows gone is.ascending;
      fitting = list_all-filter (fits_heading old.heading) p old.rows is.fitting;
      few = omega (arith, less, few);
    }
