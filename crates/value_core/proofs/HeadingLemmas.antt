-- A list of attributes with different names, sorted by them, is a heading.
use Rattle.std.proofs.Common.{◌≡◌, ℕ, suc, ◌+◌, ◌<◌, ◌≤◌, Bool, true, false, ◌||◌, List, [], ◌∷◌, ◌++◌, length, get_or, take, drop, Some, None, refl, subst, arith, Ordering, Less, Equal, Greater, if◌then◌else◌, nat_le}
use Rattle.std.proofs.Math.Seq.{drop-cons}
use Rattle.std.proofs.lemmas.Bool.Decides.{nat_tests}
use Rattle.std.proofs.lemmas.Map.Keys.{IsDistinct-IsPermutation}
use Rattle.std.specs.List.{AllByRecursion, IsDistinct}
use Rattle.std.specs.List.Sorted.{IsPermutation, IsSorted}
use Rattle.std.specs.Ordering.{is_lt, is_eq, eq_by_cmp, ordering_reverse}
use Rattle.std.specs.Str.{bytes_eq}
use Rattle.std.specs.Cmp.{IsTotalOrder, on_total}
use Rattle.std.specs.Cmp.Lexicographic.{nat_list_cmp_total, texts_ties, nat_list_eq_equiv}
use Rattle.std.proofs.lemmas.Bool.{or_parts}
use Rattle.base_core.specs.Sets.{is_set, is_set_after}
use Rattle.value_core.specs.Values.{Name, Heading, attribute_cmp, is_heading}
use Rattle.value_core.specs.declared.kind.Kind.{Kind}
use Rattle.value_core.specs.Headings.{has_name, repeat_after, first_repeat, most_attributes}

-- ---- the first repeat, index by index

-- the attribute at i repeats one before it
pub repeat_found : (list : Heading) (i : ℕ) (d : _) → i < length list → has_name (take i list) (get_or list i d).0 ≡ true
    → repeat_after (take i list) i (drop i list) ≡ Some i
repeat_found list i d within old = rw (drop-cons list i d within, old) refl

-- ---- no repeat: the names differ

abbrev same_name : Name × Kind → Name × Kind → Bool
same_name a b = bytes_eq a.0 b.0

not_in_more : (prefix : Heading) (a : Name × Kind) (name : Name) → has_name (prefix ++ a ∷ []) name ≡ false → (has_name prefix name ≡ false) × (bytes_eq a.0 name ≡ false)
not_in_more [] a name e = (refl, (or_parts (bytes_eq a.0 name) false e).0)
not_in_more (f ∷ prefix) a name e =
    let h = or_parts (bytes_eq f.0 name) (has_name (prefix ++ a ∷ []) name) e in
    let k = not_in_more prefix a name h.1 in
    (rw (h.0, k.0) refl, k.1)

prefix_apart : (prefix : Heading) (a : Name × Kind) (rest : Heading) → AllByRecursion (λ b. has_name (prefix ++ a ∷ []) b.0 ≡ false) rest → AllByRecursion (λ b. has_name prefix b.0 ≡ false) rest
prefix_apart prefix a [] h = tt
prefix_apart prefix a (b ∷ rest) h = ((not_in_more prefix a b.0 h.0).0, prefix_apart prefix a rest h.1)

one_apart : (prefix : Heading) (a : Name × Kind) (rest : Heading) → AllByRecursion (λ b. has_name (prefix ++ a ∷ []) b.0 ≡ false) rest → AllByRecursion (λ b. same_name a b ≡ false) rest
one_apart prefix a [] h = tt
one_apart prefix a (b ∷ rest) h = ((not_in_more prefix a b.0 h.0).1, one_apart prefix a rest h.1)

all_apart : (prefix : Heading) (n : ℕ) (rest : Heading) → repeat_after prefix n rest ≡ None → AllByRecursion (λ a. has_name prefix a.0 ≡ false) rest × IsDistinct same_name rest
unfolding IsDistinct
all_apart prefix n [] e = (tt, tt)
all_apart prefix n (a ∷ rest) e =
    elim (has_name prefix a.0) as (λ r. has_name prefix a.0 ≡ r → (if r then Some n else repeat_after (prefix ++ a ∷ []) (n + 1) rest) ≡ None
    → AllByRecursion (λ b. has_name prefix b.0 ≡ false) (a ∷ rest) × IsDistinct same_name (a ∷ rest)) [
      | true ↦ λ h none. cc
      | false ↦ λ h none.
          let more = all_apart (prefix ++ a ∷ []) (n + 1) rest none in
          ((h, prefix_apart prefix a rest more.0), (one_apart prefix a rest more.0, more.1))
    ] refl e

-- ---- sorted, and with different names: a heading

module _ {X : Type 0} (cmp : X → X → Ordering) (o : IsTotalOrder cmp) where
  less : (r : Ordering) → is_lt (ordering_reverse r) ≡ false → is_eq r ≡ false → is_lt r ≡ true
  less Less h k = refl
  less Equal h k = cc
  less Greater h k = cc

  set_after : (x : X) (ys : List X) → IsSorted cmp (x ∷ ys) → IsDistinct (eq_by_cmp cmp) (x ∷ ys) → is_set_after cmp x ys ≡ true
  unfolding IsDistinct
  set_after x [] up apart = refl
  set_after x (y ∷ ys) up apart =
      let first : is_lt (ordering_reverse (cmp x y)) ≡ false = subst (λ r. is_lt r ≡ false) (o.antisymm y x) (up 0 x (omega arith) (omega arith)) in
      let more : IsSorted cmp (y ∷ ys) = λ k d low high.
      let next : suc k + 1 ≡ suc (k + 1) = omega arith in
      subst (λ m. is_lt (cmp (get_or (x ∷ (y ∷ ys)) m d) (get_or (y ∷ ys) k d)) ≡ false) next (up (suc k) d (omega arith) (omega arith)) in
      let here : is_lt (cmp x y) ≡ true = less (cmp x y) first apart.0.0 in
      rw here (set_after y ys more apart.1)

  pub set_from_sorted : (xs : List X) → IsSorted cmp xs → IsDistinct (eq_by_cmp cmp) xs → is_set cmp xs ≡ true
  set_from_sorted [] up apart = refl
  set_from_sorted (x ∷ xs) up apart = set_after x xs up apart

pub attribute_total : IsTotalOrder attribute_cmp
attribute_total = on_total (λ a. a.0) nat_list_cmp_total

same_name-flips : (a b : Name × Kind) → same_name a b ≡ same_name b a
same_name-flips a b = nat_list_eq_equiv.symm a.0 b.0

few_enough : (n : ℕ) → n ≤ most_attributes → nat_le n most_attributes ≡ true
few_enough n le = grind (arith, nat_tests)

-- what a sort by name gives
set_of_names : (xs ys : Heading) → first_repeat xs ≡ None → IsPermutation xs ys → IsSorted attribute_cmp ys → is_set attribute_cmp ys ≡ true
set_of_names xs ys new moved up =
    let apart = IsDistinct-IsPermutation same_name same_name-flips xs ys moved (all_apart [] 0 xs new).1 in
    set_from_sorted attribute_cmp attribute_total ys up (subst (λ e. IsDistinct e ys) (λ i a b. texts_ties a.0 b.0 i) apart)

pub heading_from_sorted : (xs ys : Heading) → first_repeat xs ≡ None → IsPermutation xs ys → IsSorted attribute_cmp ys → length ys ≤ most_attributes → is_heading ys ≡ true
heading_from_sorted xs ys new moved up few = rw (set_of_names xs ys new moved up, few_enough (length ys) few) refl
