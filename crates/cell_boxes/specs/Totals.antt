-- How many rows are marked, and the sum of their values.
use Rattle.std.specs.Prelude.{◌≡◌, ℕ, zero, suc, ◌<◌, ◌≤◌, ◌^◌, Bool, true, false, List, [], ◌∷◌, length, get_or, Option, Some, None, Result, Ok, Err, ℤ, pos, neg_ℤ, ◌+ℤ◌, ◌≤ℤ◌}
use Rattle.std.proofs.Common.{ap, refl}
use Rattle.cell_boxes.specs.Tallies.{IsIn}

abbrev pub count_of : List Bool → ℕ
count_of [] = 0
count_of (true ∷ fs) = suc (count_of fs)
count_of (false ∷ fs) = count_of fs

-- the sum of the values of the marked rows
abbrev pub sum_of : List ℤ → List Bool → ℤ
sum_of [] fs = pos 0
sum_of (v ∷ vs) [] = pos 0
sum_of (v ∷ vs) (true ∷ fs) = v +ℤ sum_of vs fs
sum_of (v ∷ vs) (false ∷ fs) = sum_of vs fs

-- the values of the marked rows are of 64 bits
abbrev pub Fit : List ℤ → List Bool → Type 0
Fit values f = (r : ℕ) → IsIn f r → (neg_ℤ (pos (2 ^ 63)) ≤ℤ get_or values r (pos 0)) × (get_or values r (pos 0) ≤ℤ pos (2 ^ 63))

-- count and sum are those of the marked rows
pub record IsTotal (values : List ℤ) (count : ℕ) (sum : ℤ) (f : List Bool) : Type 0 where
  pub within : length f ≤ length values
  pub short : length f < 2 ^ 64
  pub fit : Fit values f
  pub counted : count ≡ count_of f
  pub summed : sum ≡ sum_of values f

-- none of no rows, and of others what the rule gives
abbrev pub of_some : {R F : Type 0} → ℕ → Result R F → Result (Option R) F
of_some zero x = Ok None
of_some (suc n) (Ok l) = Ok (Some l)
of_some (suc n) (Err e) = Err e

-- what a rule gives of the count and of the sum of the marked rows, if there are any
abbrev pub of_total : {R F : Type 0} → (ℕ → ℤ → Result R F) → List ℤ → List Bool → Result (Option R) F
of_total m values f = of_some (count_of f) (m (count_of f) (sum_of values f))

pub no_count : (f : List Bool) → ((r : ℕ) → IsIn f r → ⊥) → count_of f ≡ 0
no_count [] h = refl
no_count (true ∷ fs) h = absurd (h 0 refl)
no_count (false ∷ fs) h = no_count fs (λ r. h (suc r))

-- none of no rows
pub nothing_none : {R F : Type 0} (m : ℕ → ℤ → Result R F) (vs : List ℤ) (f : List Bool) → ((r : ℕ) → IsIn f r → ⊥) → of_total m vs f ≡ Ok None
nothing_none m vs f h = ap (λ n. of_some n (m (count_of f) (sum_of vs f))) (no_count f h)
