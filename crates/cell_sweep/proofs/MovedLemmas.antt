-- Packed rows of sets that are alike at the places of all sides, and of rows that stand in another order.
use Rattle.std.proofs.Common.{◌≡◌, ℕ, zero, suc, ◌+◌, List, [], ◌∷◌, length, get_or, ◌↔◌, arith}
use Rattle.std.specs.List.Sorted.{IsPermutation}
use Rattle.std.proofs.lemmas.List.Sorted.{Contains-permutation, IsPermutation-sym}
use Rattle.cell_packing.specs.Covering.{Among}
use Rattle.cell_packing.specs.Packed.{IsIndexPackedTo, no_cells}
use Rattle.cell_packing.proofs.Joined.{IsIndexRun-iff}
use Rattle.cell_packing.proofs.Order.{among_contains, contains_among}
use Rattle.cell_sweep.specs.PackedRows.{HasRow, IsPackedOf}

pub packed_alike : (k : ℕ) (S S' : List ℕ → Type 0) → ((grid_point : List ℕ) → length grid_point ≡ k → S grid_point ↔ S' grid_point) → (j : ℕ) (y : List (ℕ × ℕ)) (rest : List ℕ) → j + length rest ≡ k → IsIndexPackedTo j S y rest ↔ IsIndexPackedTo j S' y rest
packed_alike k S S' e zero y rest f = e rest (omega (arith, f))
packed_alike k S S' e (suc j) y rest f =
    let at = get_or y j no_cells in
    let ih = λ (i : ℕ). packed_alike k S S' e j y (i ∷ rest) (omega (arith, f)) in (
      IsIndexRun-iff (λ i. IsIndexPackedTo j S y (i ∷ rest)) (λ i. IsIndexPackedTo j S' y (i ∷ rest)) ih at.0 at.1,
      IsIndexRun-iff (λ i. IsIndexPackedTo j S' y (i ∷ rest)) (λ i. IsIndexPackedTo j S y (i ∷ rest)) (λ i. let w = ih i in (w.1, w.0)) at.0 at.1,
    )

pub among_moved : {X : Type 0} (xs ys : List X) → IsPermutation xs ys → (x : X) → Among x ys ↔ Among x xs
among_moved xs ys p x = (
  λ h. contains_among xs x (Contains-permutation ys xs x (IsPermutation-sym xs ys p) (among_contains ys x h)),
  λ h. contains_among ys x (Contains-permutation xs ys x p (among_contains xs x h)),
)

has_moved : {P : Type 0} (rows arranged : List (P × List (ℕ × ℕ))) → IsPermutation rows arranged → (l : P) (grid_point : List ℕ) → HasRow arranged l grid_point ↔ HasRow rows l grid_point
has_moved rows arranged p l grid_point = (
  λ h. (h.0, (among_moved rows arranged p (l, h.0)).0 h.1, h.2),
  λ h. (h.0, (among_moved rows arranged p (l, h.0)).1 h.1, h.2),
)

-- what is packed of the one is packed of the other
pub packed_moved : {P : Type 0} (k : ℕ) (rows arranged out : List (P × List (ℕ × ℕ))) → IsPermutation rows arranged
    → ((x : P × List (ℕ × ℕ)) → Among x out ↔ (length x.1 ≡ k) × IsPackedOf k arranged x) → (x : P × List (ℕ × ℕ)) → Among x out ↔ (length x.1 ≡ k) × IsPackedOf k rows x
packed_moved k rows arranged out p is x =
    let a = is x in
    let b = packed_alike k (HasRow arranged x.0) (HasRow rows x.0) (λ grid_point f. has_moved rows arranged p x.0 grid_point) k x.1 [] (omega arith) in (
      λ h. let w = a.0 h in (w.0, b.0 w.1),
      λ h. a.1 (h.0, b.1 h.1),
    )
