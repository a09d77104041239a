-- How a key stands to a part of a row, from a place on.
use Rattle.std.proofs.Common.{◌≡◌, ℕ, zero, suc, ◌<◌, ◌≤◌, List, [], ◌∷◌, length, drop, map, refl, ap, ap₂, ◌∙◌, arith, Ordering, Less, Equal, Greater}
use Rattle.std.proofs.Math.Seq.{drop-cons}
use Rattle.std.specs.Ordering.{nat_cmp, MatchOrdering}
use Rattle.std.specs.Cmp.{nat_cmp_is}
use Rattle.value_core.specs.Values.{Row, row_cmp}
use Rattle.value_core.specs.Plain.{plain}
use Rattle.value_core.specs.declared.value.Value.{Value}
use Rattle.relation_core.specs.Agreement.{part_of}
use Rattle.relation_core.proofs.FilterLemmas.{ended}

-- how the key's values from the place on stand to the row's values at the positions from the place on
abbrev pub rest_cmp : List Value → Row → List ℕ → ℕ → Ordering
rest_cmp left row positions at = row_cmp (map plain (drop at left)) (part_of (drop at positions) row)

-- a key that has no more values
pub rest_short : (left : List Value) (row : Row) (positions : List ℕ) (at : ℕ) → length left ≤ at → at < length positions → rest_cmp left row positions at ≡ Less
rest_short left row positions at over l =
    ap₂ (λ (a : List Value) (b : List ℕ). row_cmp (map plain a) (part_of b row)) (ended at left over) (drop-cons positions at 0 l)

one_more : (r : Ordering) (m n : ℕ) → MatchOrdering r (m < n) (m ≡ n) (n < m) → MatchOrdering r (suc m < suc n) (suc m ≡ suc n) (suc n < suc m)
one_more Less m n h = omega (arith, h)
one_more Equal m n h = ap suc h
one_more Greater m n h = omega (arith, h)

-- values that are left beside none
left_over : (left : List Value) (n : ℕ) → n ≤ length left → MatchOrdering (row_cmp (map plain (drop n left)) []) (length left < n) (length left ≡ n) (n < length left)
left_over [] zero within = refl
left_over [] (suc n) within = absurd (omega (arith, within))
left_over (v ∷ left) zero within = omega arith
left_over (v ∷ left) (suc n) within = one_more (row_cmp (map plain (drop n left)) []) (length left) n (left_over left n (omega (arith, within)))

-- a key whose values were all equal, as far as there are positions
pub rest_done : (left : List Value) (row : Row) (positions : List ℕ) (n : ℕ) → n ≡ length positions → n ≤ length left → rest_cmp left row positions n ≡ nat_cmp (length left) (length positions)
rest_done left row positions n all within =
    let none : drop n positions ≡ [] = ended n positions (omega (arith, all)) in
    ap (λ (ps : List ℕ). row_cmp (map plain (drop n left)) (part_of ps row)) none
    ∙ (nat_cmp_is (length left) n (row_cmp (map plain (drop n left)) []) (left_over left n within) ∙ ap (nat_cmp (length left)) all)
