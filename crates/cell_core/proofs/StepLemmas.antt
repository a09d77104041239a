-- The bound on steps, from its parts.
use Rattle.std.proofs.Common.{◌≡◌, ℕ, zero, suc, ◌+◌, ◌-◌, ◌*◌, ◌/◌, ◌^◌, ◌<◌, ◌≤◌, List, [], ◌∷◌, length, get_or, inl, inr, arith, ap, subst, refl, ◌∙◌}
use Rattle.std.proofs.Math.Nat.{mul-le-mul_left, mul-le-mul_right, pow-succ', pow-zero}
use Rattle.std.proofs.lemmas.Bool.{cases_lt}
use Rattle.std.proofs.lemmas.Bool.Decides.{nat_tests}
use Rattle.std.specs.List.{All}
use Rattle.point_core.specs.Digits.{binary_digits}
use Rattle.point_core.proofs.DigitsLemmas.{binary_digits_0, binary_digits_half}
use Rattle.cell_sweep.specs.Rows.{volume}
use Rattle.cell_core.specs.Cells.{rows_from}
use Rattle.cell_core.specs.Costs.{bound, side_cost}

-- more numbers, no fewer digits; f is above both
digits_below : (f a b : ℕ) → a ≤ b → b < f → binary_digits a ≤ binary_digits b
digits_below zero a b h l = absurd (omega arith)
digits_below (suc f) a b h l =
    elim (cases_lt 0 a) [
      | inr z ↦ let e : a ≡ 0 = omega arith in let d : binary_digits a ≡ 0 = ap binary_digits e ∙ binary_digits_0 in omega arith
      | inl p ↦
          let q : 0 < b = omega arith in
          let ih : binary_digits (a / 2) ≤ binary_digits (b / 2) = digits_below f (a / 2) (b / 2) (omega arith) (omega arith) in
          let x = binary_digits_half a p in
          let y = binary_digits_half b q in
          omega arith
    ]

pub digits_mono : (a b : ℕ) → a ≤ b → binary_digits a ≤ binary_digits b
digits_mono a b h = digits_below (suc b) a b h (omega arith)

pub sort_within : (m n : ℕ) → m ≤ 2 * n → m * binary_digits m ≤ 2 * n * binary_digits (2 * n)
sort_within m n h =
    let a : m * binary_digits m ≤ m * binary_digits (2 * n) = mul-le-mul_left m (digits_mono m (2 * n) h) in
    let b : m * binary_digits (2 * n) ≤ 2 * n * binary_digits (2 * n) = mul-le-mul_right (binary_digits (2 * n)) h in
    omega arith

-- the parts of the numbering of a side: the sort of the ends, their cells, and the last points of the cells
pub side_within : (n m k old b c d : ℕ) → m ≤ 2 * n → k ≤ m → b ≡ old + m * binary_digits m → c ≤ b + m → d ≤ c + k → d + n ≤ old + side_cost n
side_within n m k old b c d h l q r s =
    let w : m * binary_digits m ≤ 2 * n * binary_digits (2 * n) = sort_within m n h in
    omega (arith, w)

-- one side more
pub one_more : (j s old a b : ℕ) → a ≤ old + j * s → b ≤ a + s → b ≤ old + (j + 1) * s
one_more j s old a b h g = omega arith

pub sides_within : (j m s old a : ℕ) → j ≤ m → a ≤ old + j * s → a ≤ old + m * s
sides_within j m s old a h g = let w : j * s ≤ m * s = mul-le-mul_right s h in omega (arith, w)

-- the cells of all sides
pub volume_within : (b k : ℕ) (counts : List ℕ) → ((j : ℕ) → get_or counts j 0 ≤ b) → volume k counts ≤ b ^ k
volume_within b zero counts h = let e : b ^ 0 ≡ 1 = pow-zero b in omega arith
volume_within b (suc k) counts h =
    let ih : volume k counts ≤ b ^ k = volume_within b k counts h in
    let c : ℕ = get_or counts k 0 in
    let x : c * volume k counts ≤ c * b ^ k = mul-le-mul_left c ih in
    let y : c * b ^ k ≤ b * b ^ k = mul-le-mul_right (b ^ k) (h k) in
    let e : b ^ suc k ≡ b * b ^ k = pow-succ' b k in
    omega arith

pub bound_of : (n k : ℕ) → 0 < n → bound n k ≡ 2 * k * n * (binary_digits (2 * n) + 3) + (2 * n) ^ k
bound_of n k h = grind (arith, nat_tests)

pub sides_bound : (n k old a : ℕ) → a ≤ old + k * side_cost n → a ≤ old + (bound n k - k * n)
sides_bound zero k old a h = let z : k * side_cost 0 ≡ 0 = omega arith in omega arith
sides_bound (suc m) k old a h =
    let n : ℕ = suc m in
    let e : bound n k ≡ 2 * k * n * (binary_digits (2 * n) + 3) + (2 * n) ^ k = bound_of n k (omega arith) in
    let s : k * side_cost n + k * n ≡ 2 * k * n * (binary_digits (2 * n) + 3) = omega arith in
    omega arith

-- a look at neighbours on one side, and then the numbering
pub looked_bound : (n old mid new : ℕ) → mid ≤ old + 2 * n → new ≤ mid + 1 * side_cost n → new ≤ old + bound n 1
looked_bound zero old mid new h g = let z : 1 * side_cost 0 ≡ 0 = omega arith in omega arith
looked_bound (suc m) old mid new h g =
    let n : ℕ = suc m in
    let e : bound n 1 ≡ 2 * 1 * n * (binary_digits (2 * n) + 3) + (2 * n) ^ 1 = bound_of n 1 (omega arith) in
    let z : (2 * n) ^ 0 ≡ 1 = pow-zero (2 * n) in
    let p : (2 * n) ^ 1 ≡ 2 * n * (2 * n) ^ 0 = pow-succ' (2 * n) 0 in
    let q : 2 * n * (2 * n) ^ 0 ≡ 2 * n * 1 = ap (λ x. 2 * n * x) z in
    let s : 1 * side_cost n + n ≡ 2 * 1 * n * (binary_digits (2 * n) + 3) = omega arith in
    omega arith

-- the numbering alone is within the whole bound
pub numbering_bound : (a b m n k old new : ℕ) → a ≡ m → b ≡ n → new ≤ old + k * side_cost (a + b) → new ≤ old + bound (m + n) k
numbering_bound a b m n k old new e f h =
    let l : new ≤ old + k * side_cost (m + n) = subst (λ z. new ≤ old + k * side_cost z) (λ t. e t + f t) h in
    let w : new ≤ old + (bound (m + n) k - k * (m + n)) = sides_bound (m + n) k old new l in
    omega arith

-- both together, of some rows; without rows the cells take no step
pub whole_bound : (n k old a b v : ℕ) → a ≤ old + k * side_cost n → b ≤ a + v → (n ≡ 0 → b ≤ a) → v ≤ (2 * n) ^ k → b ≤ old + (bound n k - k * n)
whole_bound zero k old a b v h g z l = let w = z refl in sides_bound zero k old b (omega (arith, w))
whole_bound (suc m) k old a b v h g z l =
    let n : ℕ = suc m in
    let e : bound n k ≡ 2 * k * n * (binary_digits (2 * n) + 3) + (2 * n) ^ k = bound_of n k (omega arith) in
    let s : k * side_cost n + k * n ≡ 2 * k * n * (binary_digits (2 * n) + 3) = omega arith in
    omega arith

pub counts_within : (b : ℕ) (counts : List ℕ) → All (λ m. m < suc b) counts → (j : ℕ) → get_or counts j 0 ≤ b
counts_within b counts h j = elim (cases_lt j (length counts)) [ inl l ↦ let w = h j 0 l in omega arith | inr l ↦ let w : get_or counts j 0 ≡ 0 = past counts j l in omega arith ]
  where
    past : (xs : List ℕ) (j : ℕ) → length xs ≤ j → get_or xs j 0 ≡ 0
    past [] j l = refl
    past (x ∷ xs) zero l = absurd (omega arith)
    past (x ∷ xs) (suc j) l = past xs j (omega arith)

pub length_rows_from : (a n : ℕ) → length (rows_from a n) ≡ n
length_rows_from a zero = refl
length_rows_from a (suc n) = ap suc (length_rows_from (suc a) n)
