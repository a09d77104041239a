-- Cuts in order, and those of them that part an interval.
use Rattle.std.specs.Prelude.{◌≡◌, ℕ, ◌+◌, ◌<◌, ℤ, int_le, int_lt, true, false, cond, IsTrue, List, [], ◌∷◌, ◌++◌, length, map, filter, refl}
use Rattle.std.proofs.Common.{sym, ◌∙◌, ap, ap₂, subst, arith, get_or, take}
use Rattle.std.proofs.lemmas.Int.{ints}
use Rattle.std.proofs.lemmas.List.Elements.{All-same, All-from_recursion, recursion_from_All, filter_more}
use Rattle.std.proofs.lemmas.List.Filters.{dedup_is}
use Rattle.std.proofs.lemmas.List.Kept.{IsStrictlySortedBy-dedup, IsStrictlySortedBy-filter}
use Rattle.std.specs.List.{All, AllByRecursion, dedup}
use Rattle.std.specs.List.Retain.{IsFiltered, DiffersFromLast}
use Rattle.std.specs.List.Sorted.{IsPermutation, IsSorted, IsStrictlySortedBy}
use Rattle.std.specs.Ordering.{int_cmp, int_eq}
use Rattle.std.specs.Cmp.{int_cmp_total}
use Rattle.std.specs.FinMap.{int_cmp-IsAntisymmetric}
use Rattle.base_core.specs.Sets.{in_order}
use Rattle.base_core.proofs.SetLemmas.{in_order_of_sorted}
use Rattle.base_core.proofs.SetOperatorLemmas.{in_order-filter}
use Rattle.base_core.proofs.BoolLemmas.{and_left, and_right}
use Rattle.base_core.proofs.IntLemmas.{int_le-le, int_lt-lt}
use Rattle.point_core.specs.declared.any_type.AnyType.{AnyType}
use Rattle.point_core.specs.declared.any_type.AnyPoint.{AnyPoint}
use Rattle.point_core.specs.Points.{line, number, IsPointOf}
use Rattle.interval_core.specs.Members.{Span, span}
use Rattle.scalar_core.specs.Cuts.{is_inside}

-- what a sort and a dedup leave
pub numbers_from_sort : (given sorted kept : List ℤ) → IsPermutation given sorted → IsSorted int_cmp sorted → IsFiltered (DiffersFromLast int_eq) [] sorted kept
    → (kept ≡ in_order int_cmp given) × IsStrictlySortedBy int_cmp kept
numbers_from_sort given sorted kept moved up filtered =
    let is : kept ≡ dedup int_eq sorted = dedup_is int_eq sorted kept filtered in (
      is ∙ in_order_of_sorted int_cmp int_cmp_total int_cmp-IsAntisymmetric int_eq (λ x y. refl) given sorted moved up,
      subst (IsStrictlySortedBy int_cmp) (sym is) (IsStrictlySortedBy-dedup int_cmp_total (λ x y. refl) sorted up),
    )

-- the numbers that part an interval, one more of them
pub inside_more : (i j : Span) (xs old new : List ℤ) (k : ℕ) (n d : ℤ) → k < length xs → i ≡ j → n ≡ get_or xs k d → old ≡ filter (is_inside j) (take k xs) →
    new ≡ old ++ filter (is_inside i) (n ∷ []) → new ≡ filter (is_inside j) (take (k + 1) xs)
inside_more i j xs old new k n d within same at so_far now =
    now ∙ (ap₂ (λ os ns. os ++ ns) so_far (ap₂ (λ s m. filter (is_inside s) (m ∷ [])) same at) ∙ sym (filter_more (is_inside j) xs k d within))

-- the numbers in order and then those inside are the numbers inside in order
pub inside_in_order : (i j : Span) (all given kept points : List ℤ) → points ≡ filter (is_inside i) kept → kept ≡ in_order int_cmp given → given ≡ all → i ≡ j →
    points ≡ in_order int_cmp (filter (is_inside j) all)
inside_in_order i j all given kept points e kept_is given_is same =
    e ∙ (ap₂ (λ s ns. filter (is_inside s) ns) same (kept_is ∙ ap (in_order int_cmp) given_is) ∙ sym (in_order-filter int_cmp int_cmp_total int_cmp-IsAntisymmetric (is_inside j) all))

-- such points ascend, and each is inside
pub inside-ascending : (i : Span) (kept points : List ℤ) → points ≡ filter (is_inside i) kept → IsStrictlySortedBy int_cmp kept → IsStrictlySortedBy int_cmp points
inside-ascending i kept points e up = subst (IsStrictlySortedBy int_cmp) (sym e) (IsStrictlySortedBy-filter int_cmp (is_inside i) kept up)

each_inside : (i : Span) (cs : List ℤ) → AllByRecursion (λ c. IsTrue (is_inside i c)) (filter (is_inside i) cs)
each_inside i [] = tt
each_inside i (c ∷ cs) =
    elim (is_inside i c) as (λ b. is_inside i c ≡ b → AllByRecursion (λ d. IsTrue (is_inside i d)) (cond b (c ∷ filter (is_inside i) cs) (filter (is_inside i) cs))) [
      | true ↦ λ e. (e, each_inside i cs)
      | false ↦ λ e. each_inside i cs
    ] refl

pub inside-each : (i j : Span) (kept points : List ℤ) → points ≡ filter (is_inside i) kept → i ≡ j → All (λ c. IsTrue (is_inside j c)) points
inside-each i j kept points e same =
    All-same (λ c. IsTrue (is_inside j c)) points (filter (is_inside j) kept) (e ∙ ap (λ s. filter (is_inside s) kept) same)
    (All-from_recursion (λ c. IsTrue (is_inside j c)) (filter (is_inside j) kept) (each_inside j kept))

-- points between two of a type, on their line, are of the type
pub inside-points : (t : AnyType) (i : AnyPoint × AnyPoint) (kept : List ℤ) (points : List AnyPoint) → map number points ≡ filter (is_inside (span number i)) kept →
    All (λ p. line p ≡ line i.0) points → IsPointOf t i.0 → IsPointOf t i.1 → All (IsPointOf t) points
inside-points t i kept points e lines begin end =
    All-from_recursion (IsPointOf t) points
    (each points (recursion_from_All (λ p. line p ≡ line i.0) points lines)
    (recursion_from_All (λ c. IsTrue (is_inside (span number i) c)) (map number points) (inside-each (span number i) (span number i) kept (map number points) e refl)))
  where
    each : (ps : List AnyPoint) → AllByRecursion (λ p. line p ≡ line i.0) ps → AllByRecursion (λ c. IsTrue (is_inside (span number i) c)) (map number ps) → AllByRecursion (IsPointOf t) ps
    each [] h g = tt
    each (p ∷ ps) h g =
        let low = int_lt-lt (number i.0) (number p) (and_left (int_lt (number i.0) (number p)) (int_le (number p) (number i.1)) g.0) in
        let high = int_le-le (number p) (number i.1) (and_right (int_lt (number i.0) (number p)) (int_le (number p) (number i.1)) g.0) in
        let first = begin.1.0 in
        let last = end.1.1 in
        ((h.0 ∙ begin.0, (omega (arith, ints), omega (arith, ints))), each ps h.1 g.1)
