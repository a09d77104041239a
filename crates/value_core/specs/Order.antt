-- The printing order is total, and tells any two values or rows apart. Each law is proved by its term.
use Rattle.std.specs.Prelude.{◌≡◌, ℕ, zero, suc, ℤ, pos, unsigned_abs, true, false, List, [], ◌∷◌, map, refl}
use Rattle.std.proofs.Common.{ap, sym, ◌∙◌}
use Rattle.std.specs.Ordering.{int_eq}
use Rattle.std.specs.Cmp.{IsTotalOrder, int_cmp_total, on_total}
use Rattle.std.specs.Cmp.Lexicographic.{lists_total}
use Rattle.std.specs.FinMap.{IsAntisymmetric, int_cmp-IsAntisymmetric, slice_cmp-IsAntisymmetric}
use Rattle.point_core.specs.Points.{integers, days, values_of, seconds}
use Rattle.value_core.specs.Values.{Value, truth, text, point, interval, value_key, value_cmp, row_cmp}

pub value_total : IsTotalOrder value_cmp
value_total = on_total value_key (lists_total int_cmp_total)

pub row_total : IsTotalOrder row_cmp
row_total = lists_total value_total

-- ---- the value of a key

point_of : List ℤ → Value
point_of (pos zero ∷ p ∷ _) = point integers p
point_of (pos (suc zero) ∷ p ∷ _) = point days p
point_of (pos (suc (suc zero)) ∷ n ∷ p ∷ _) = point (values_of (unsigned_abs n)) p
point_of (pos (suc (suc (suc _))) ∷ p ∷ _) = point seconds p
point_of _ = truth false

interval_of : List ℤ → Value
interval_of (pos zero ∷ b ∷ e ∷ _) = interval integers (b, e)
interval_of (pos (suc zero) ∷ b ∷ e ∷ _) = interval days (b, e)
interval_of (pos (suc (suc zero)) ∷ n ∷ b ∷ e ∷ _) = interval (values_of (unsigned_abs n)) (b, e)
interval_of (pos (suc (suc (suc _))) ∷ b ∷ e ∷ _) = interval seconds (b, e)
interval_of _ = truth false

value_of : List ℤ → Value
value_of (pos zero ∷ b ∷ _) = truth (int_eq b (pos 1))
value_of (pos (suc zero) ∷ bytes) = text (map unsigned_abs bytes)
value_of (pos (suc (suc zero)) ∷ key) = point_of key
value_of (pos (suc (suc (suc _))) ∷ key) = interval_of key
value_of _ = truth false

bytes_back : (bytes : List ℕ) → map unsigned_abs (map pos bytes) ≡ bytes
bytes_back [] = refl
bytes_back (b ∷ bytes) = ap (λ rest. b ∷ rest) (bytes_back bytes)

value_back : (v : Value) → value_of (value_key v) ≡ v
unfolding value_of point_of interval_of
value_back (truth true) = refl
value_back (truth false) = refl
value_back (text bytes) = ap text (bytes_back bytes)
value_back (point integers p) = refl
value_back (point days p) = refl
value_back (point (values_of n) p) = refl
value_back (point seconds p) = refl
value_back (interval integers i) = refl
value_back (interval days i) = refl
value_back (interval (values_of n) i) = refl
value_back (interval seconds i) = refl

same_keys : (v w : Value) → value_key v ≡ value_key w → v ≡ w
same_keys v w e = sym (value_back v) ∙ (ap value_of e ∙ value_back w)

pub value_separates : IsAntisymmetric value_cmp
value_separates v w e = same_keys v w (slice_cmp-IsAntisymmetric int_cmp-IsAntisymmetric (value_key v) (value_key w) e)

pub row_separates : IsAntisymmetric row_cmp
row_separates = slice_cmp-IsAntisymmetric value_separates
