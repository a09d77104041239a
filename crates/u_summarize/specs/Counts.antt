-- Which numbers marked rows have.
--     weigh      how many marked rows have a number that passes a test
--     image      a flag for each number that some flagged row has
--     IsCounted      of each number it is counted how many marked rows have it
--     counted_means      what is given of the flags of numbers, if there are any
use Rattle.std.specs.Prelude.{◌≡◌, ℕ, zero, suc, ◌+◌, ◌<◌, ◌^◌, Bool, true, false, List, [], ◌∷◌, length, get_or, Option, None, Result, Ok, ltb, eqb}
use Rattle.std.proofs.Common.{refl, ap}
use Rattle.cell_boxes.specs.Tallies.{IsIn}
use Rattle.cell_boxes.specs.Totals.{of_some}

abbrev pub one : Bool → ℕ
one true = 1
one false = 0

abbrev pub weigh : (ℕ → Bool) → List ℕ → List Bool → ℕ
weigh t [] f = 0
weigh t (x ∷ xs) [] = 0
weigh t (x ∷ xs) (true ∷ fs) = one (t x) + weigh t xs fs
weigh t (x ∷ xs) (false ∷ fs) = weigh t xs fs

abbrev pub any : ℕ → Bool
any m = true

-- what the test says of n numbers from a on
abbrev pub tests_from : ℕ → ℕ → (ℕ → Bool) → List Bool
tests_from zero a t = []
tests_from (suc n) a t = t a ∷ tests_from n (suc a) t

abbrev pub image : ℕ → List ℕ → List Bool → List Bool
image n numbers f = tests_from n 0 (λ m. ltb 0 (weigh (eqb m) numbers f))

pub record IsCounted (n : ℕ) (numbers : List ℕ) (total : ℕ) (counts : List ℕ) (f : List Bool) : Type 0 where
  pub rows : length f ≡ length numbers
  pub short : length f < 2 ^ 64
  pub many : length counts ≡ n
  pub all : total ≡ weigh any numbers f
  pub each : (m : ℕ) → m < n → get_or counts m 0 ≡ weigh (eqb m) numbers f

abbrev pub counted_means : {R F : Type 0} → (List Bool → Result R F) → ℕ → List ℕ → List Bool → Result (Option R) F
counted_means m n numbers f = of_some (weigh any numbers f) (m (image n numbers f))

no_weight : (t : ℕ → Bool) (numbers : List ℕ) (f : List Bool) → ((r : ℕ) → IsIn f r → ⊥) → weigh t numbers f ≡ 0
no_weight t [] f h = refl
no_weight t (x ∷ xs) [] h = refl
no_weight t (x ∷ xs) (true ∷ fs) h = absurd (h 0 refl)
no_weight t (x ∷ xs) (false ∷ fs) h = no_weight t xs fs (λ r. h (suc r))

pub none_means : {R F : Type 0} (m : List Bool → Result R F) (n : ℕ) (numbers : List ℕ) (f : List Bool) → ((r : ℕ) → IsIn f r → ⊥) → counted_means m n numbers f ≡ Ok None
none_means m n numbers f h = ap (λ w. of_some w (m (image n numbers f))) (no_weight any numbers f h)
