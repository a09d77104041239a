-- Filters of rows, and rows that stay in order and fit.
use Rattle.std.proofs.Common.{◌≡◌, ℕ, ◌+◌, ◌<◌, ◌≤◌, get_or, take, inl, inr, List, [], ◌∷◌, ◌++◌, length, drop, suc, zero, refl, sym, ap, ap₂, ◌∙◌, subst, arith, Bool, true, false, cond, if◌then◌else◌, Ordering}
use Rattle.std.specs.Bool.{IsTrue}
use Rattle.std.specs.List.{filter, list_all}
use Rattle.std.proofs.Math.Seq.{drop-cons}
use Rattle.std.proofs.lemmas.Bool.{and_parts}
use Rattle.base_core.specs.Sets.{is_set}
use Rattle.base_core.proofs.SetLemmas.{In, Ascends, in_order_of_ascending, Ascends-from_sorted}
use Rattle.base_core.proofs.MemberLemmas.{In-filter, list_all-In}
use Rattle.base_core.proofs.SetOperatorLemmas.{Ascends-filter, is_set-Ascends}
use Rattle.value_core.specs.Values.{Row, Relation, IsRelation, row_cmp, rows_of, fits_heading}
use Rattle.value_core.specs.Order.{row_total, row_separates}

pub filter_same : {X : Type 0} (p q : X → Bool) (xs : List X) → ((z : X) → In z xs → p z ≡ q z) → filter p xs ≡ filter q xs
filter_same p q [] h = refl
filter_same p q (x ∷ xs) h = ap₂ (λ b r. cond b (x ∷ r) r) (h x (inl refl)) (filter_same p q xs (λ z i. h z (inr i)))

pub filter_all : {X : Type 0} (p : X → Bool) (xs : List X) → ((z : X) → In z xs → p z ≡ true) → filter p xs ≡ xs
filter_all p [] h = refl
filter_all p (x ∷ xs) h = ap₂ (λ b r. cond b (x ∷ r) r) (h x (inl refl)) (filter_all p xs (λ z i. h z (inr i)))

one_or_none : {X : Type 0} (k : Bool) (x : X) (r : List X) → cond k (x ∷ r) r ≡ (if k then x ∷ [] else []) ++ r
one_or_none true x r = refl
one_or_none false x r = refl

pub filter_first : {X : Type 0} (p : X → Bool) (x : X) (xs : List X) (k : Bool) → p x ≡ k → filter p (x ∷ xs) ≡ (if k then x ∷ [] else []) ++ filter p xs
filter_first p x xs k e = ap (λ b. cond b (x ∷ filter p xs) (filter p xs)) e ∙ one_or_none k x (filter p xs)

pub length-filter_at_most : {X : Type 0} (p : X → Bool) (xs : List X) → length (filter p xs) ≤ length xs
length-filter_at_most p [] = omega arith
length-filter_at_most p (x ∷ xs) =
    let h = length-filter_at_most p xs in
    elim (p x) as (λ b. length (cond b (x ∷ filter p xs) (filter p xs)) ≤ length (x ∷ xs)) [
      | true ↦ omega (arith, h)
      | false ↦ omega (arith, h)
    ]

-- a test that all pass
pub list_all-filter : {X : Type 0} (q p : X → Bool) (xs : List X) → IsTrue (list_all q xs) → IsTrue (list_all q (filter p xs))
list_all-filter q p xs h = (list_all-In q (filter p xs)).1 (λ z i. (list_all-In q xs).0 h z ((In-filter p z xs).0 i).0)

pub Ascends-drop : {X : Type 0} (cmp : X → X → Ordering) (n : ℕ) (xs : List X) → Ascends cmp xs → Ascends cmp (drop n xs)
Ascends-drop cmp zero xs a = a
Ascends-drop cmp (suc n) [] a = tt
Ascends-drop cmp (suc n) (x ∷ xs) a = Ascends-drop cmp n xs a.1

pub head_of : {X : Type 0} (xs : List X) (i : ℕ) (x : X) → i < length xs → x ≡ get_or xs i x → drop i xs ≡ x ∷ drop (i + 1) xs
head_of xs i x l e =
    let next : suc i ≡ i + 1 = omega arith in
    subst (λ n. drop i xs ≡ x ∷ drop n xs) next (drop-cons xs i x l ∙ ap (λ z. z ∷ drop (suc i) xs) (sym e))

pub ended : {X : Type 0} (n : ℕ) (xs : List X) → length xs ≤ n → drop n xs ≡ []
ended zero [] h = refl
ended (suc n) [] h = refl
ended zero (x ∷ xs) h = absurd (omega arith)
ended (suc n) (x ∷ xs) h = ended n xs (omega arith)

pub take_all : {X : Type 0} (n : ℕ) (xs : List X) → length xs ≤ n → take n xs ≡ xs
take_all zero [] h = refl
take_all (suc n) [] h = refl
take_all zero (x ∷ xs) h = absurd (omega arith)
take_all (suc n) (x ∷ xs) h = ap (λ r. x ∷ r) (take_all n xs (omega arith))

pub passes_at : {X : Type 0} (p : X → Bool) (xs : List X) (i : ℕ) (d : X) → IsTrue (list_all p xs) → i < length xs → IsTrue (p (get_or xs i d))
passes_at p [] i d h l = absurd (omega arith)
passes_at p (x ∷ xs) zero d h l = (and_parts (p x) (list_all p xs) h).0
passes_at p (x ∷ xs) (suc i) d h l = passes_at p xs i d (and_parts (p x) (list_all p xs) h).1 (omega arith)

-- ---- the rows of a relation

pub rows_ascend : (r : Relation) → IsRelation r → Ascends row_cmp r.rows
rows_ascend r is = Ascends-from_sorted row_cmp r.rows is.ascending

pub rows_are_set : (r : Relation) → IsRelation r → IsTrue (is_set row_cmp r.rows)
rows_are_set r is = (is_set-Ascends row_cmp row_total r.rows).1 (rows_ascend r is)

pub rows_of-ascending : (rows : List Row) → Ascends row_cmp rows → rows_of rows ≡ rows
rows_of-ascending rows a = in_order_of_ascending row_cmp row_total row_separates rows a

pub rows_of-filter : (p : Row → Bool) (rows : List Row) → Ascends row_cmp rows → rows_of (filter p rows) ≡ filter p rows
rows_of-filter p rows a = rows_of-ascending (filter p rows) (Ascends-filter row_cmp p rows a)

pub rows_fit : (r : Relation) → IsRelation r → (x : Row) → In x r.rows → IsTrue (fits_heading r.heading x)
rows_fit r is = (list_all-In (fits_heading r.heading) r.rows).0 is.fitting
