-- Numbers as labels.
use Rattle.std.specs.Prelude.{◌≡◌, ℕ, List, [], ◌∷◌, Result, Ok, Err}
use Rattle.std.proofs.Common.{ap, subst, sym}
use Rattle.std.specs.List.Sorted.{IsStrictlySortedBy}
use Rattle.std.specs.declared.cmp.Ordering.{Ordering}
use Rattle.std.specs.declared.cmp.Ordering.TheVariants.{Equal}
use Rattle.std.specs.Ordering.{nat_cmp}
use Rattle.std.proofs.lemmas.Cmp.{ranked}

-- numbers that tie are equal
pub separates_numbers : (a b : ℕ) → nat_cmp a b ≡ Equal → a ≡ b
separates_numbers a b e = ranked a b Equal (sym e)

-- an answer of one label
abbrev pub one_label : {P F : Type 0} → P → Result (List P) F
one_label l = Ok (l ∷ [])

abbrev labels_or : {P F : Type 0} → List P → Result (List P) F → List P
labels_or d (Ok v) = v
labels_or d (Err e) = d

one_in_order : {P : Type 0} (order : P → P → Ordering) (l : P) → IsStrictlySortedBy order (l ∷ [])
unfolding IsStrictlySortedBy
one_in_order order l = (tt, tt)

-- is in order
pub one_sorted : {F : Type 0} (l : ℕ) (v : List ℕ) → one_label {F = F} l ≡ Ok v → IsStrictlySortedBy nat_cmp v
one_sorted l v e = subst (IsStrictlySortedBy nat_cmp) (ap (labels_or []) e) (one_in_order nat_cmp l)
