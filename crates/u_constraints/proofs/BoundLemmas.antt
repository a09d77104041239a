-- More rows may take more steps.
use Rattle.std.proofs.Common.{◌≡◌, ℕ, zero, suc, ◌+◌, ◌*◌, ◌^◌, ◌≤◌, arith, subst, sym}
use Rattle.std.proofs.Math.Nat.{mul-le-mul_left, mul-le-mul_right, pow-succ', pow-zero}
use Rattle.point_core.specs.Digits.{binary_digits}
use Rattle.cell_core.specs.Costs.{bound}
use Rattle.cell_core.proofs.StepLemmas.{digits_mono, bound_of}

power_grows : (a b k : ℕ) → a ≤ b → a ^ k ≤ b ^ k
power_grows a b zero h =
    let e : a ^ 0 ≡ 1 = pow-zero a in
    let f : b ^ 0 ≡ 1 = pow-zero b in
    omega (arith, e, f)
power_grows a b (suc k) h =
    let more = power_grows a b k h in
    let x : a * a ^ k ≤ a * b ^ k = mul-le-mul_left a more in
    let y : a * b ^ k ≤ b * b ^ k = mul-le-mul_right (b ^ k) h in
    let e : a ^ suc k ≡ a * a ^ k = pow-succ' a k in
    let f : b ^ suc k ≡ b * b ^ k = pow-succ' b k in
    omega arith

product_grows : (a b c d : ℕ) → a ≤ b → c ≤ d → a * c ≤ b * d
product_grows a b c d h g =
    let x : a * c ≤ a * d = mul-le-mul_left a g in
    let y : a * d ≤ b * d = mul-le-mul_right d h in
    omega (arith, x, y)

pub bound_grows : (n m k : ℕ) → n ≤ m → bound n k ≤ bound m k
bound_grows zero m k h = omega arith
bound_grows (suc n) zero k h = absurd (omega (arith, h))
bound_grows (suc n) (suc m) k h =
    let e : bound (suc n) k ≡ 2 * k * suc n * (binary_digits (2 * suc n) + 3) + (2 * suc n) ^ k = bound_of (suc n) k (omega arith) in
    let f : bound (suc m) k ≡ 2 * k * suc m * (binary_digits (2 * suc m) + 3) + (2 * suc m) ^ k = bound_of (suc m) k (omega arith) in
    let twice : 2 * suc n ≤ 2 * suc m = omega (arith, h) in
    let digits : binary_digits (2 * suc n) + 3 ≤ binary_digits (2 * suc m) + 3 = let d = digits_mono (2 * suc n) (2 * suc m) twice in omega (arith, d) in
    let rows : 2 * k * suc n ≤ 2 * k * suc m = mul-le-mul_left (2 * k) h in
    let first = product_grows (2 * k * suc n) (2 * k * suc m) (binary_digits (2 * suc n) + 3) (binary_digits (2 * suc m) + 3) rows digits in
    let second = power_grows (2 * suc n) (2 * suc m) k twice in
    subst (λ z. z ≤ bound (suc m) k) (sym e) (subst (λ z. 2 * k * suc n * (binary_digits (2 * suc n) + 3) + (2 * suc n) ^ k ≤ z) (sym f) (omega (arith, first, second)))
