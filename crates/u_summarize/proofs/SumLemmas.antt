-- The sum of a column, as rows come and go.
use Rattle.std.proofs.Common.{◌≡◌, ℕ, zero, suc, ◌+◌, ◌<◌, Bool, true, false, List, set, length, get_or, arith, subst, refl, ℤ, ◌+ℤ◌, ◌-ℤ◌}
use Rattle.std.specs.Int.{w64}
use mir.Val.{SFits, to_z, of_z}
use Rattle.cell_boxes.specs.Totals.{count_of, IsTotal}
use Rattle.cell_boxes.proofs.TotalLemmas.{entered_total, left_total, count_some}

pub sum_entered : (vs : List ℤ) (sum : ℤ) (f : List Bool) (row : ℕ) → IsTotal vs (count_of f) sum f → (inside : row < length f) (v : ℤ) → SFits w64 v → v ≡ get_or vs row v → get_or f row true ≡ false
    → (z : ℤ) → z ≡ sum +ℤ to_z w64 (of_z w64 v) → IsTotal vs (count_of (set f row true)) z (set f row true)
sum_entered vs sum f row is inside v fits read out z e =
    let t = entered_total vs (count_of f) sum f row is inside v fits read out (count_of f + 1) z refl e in
    subst (λ n. IsTotal vs n z (set f row true)) t.counted t

pub sum_left : (vs : List ℤ) (sum : ℤ) (f : List Bool) (row : ℕ) → IsTotal vs (count_of f) sum f → (inside : row < length f) (v : ℤ) → SFits w64 v → v ≡ get_or vs row v → get_or f row false ≡ true
    → (z : ℤ) → z ≡ sum -ℤ to_z w64 (of_z w64 v) → IsTotal vs (count_of (set f row false)) z (set f row false)
sum_left vs sum f row is inside v fits read into z e =
    let n = before (count_of f) (count_some vs (count_of f) sum f row is inside into) in
    let t = left_total vs (count_of f) sum f row is inside v fits read into n.0 z n.1 e in
    subst (λ n. IsTotal vs n z (set f row false)) t.counted t
  where
    before : (c : ℕ) → 0 < c → (n : ℕ) × (n + 1 ≡ c)
    before zero l = absurd (omega arith)
    before (suc n) l = (n, omega arith)
