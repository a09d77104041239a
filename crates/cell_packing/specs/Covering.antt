-- The cells of a function of the covering rows.
use Rattle.std.specs.Prelude.{◌≡◌, ℕ, suc, Bool, true, false, cond, ◌&&◌, List, [], ◌∷◌, ℤ, ◌⊎◌, Result, Ok, Err, int_le, nat_le, nat_lt, ◌≢◌}
use Rattle.interval_core.specs.Members.{Span}

-- x is one of the list
abbrev pub Among : {X : Type 0} → X → List X → Type 0
Among x [] = ⊥
Among x (y ∷ ys) = (y ≡ x) ⊎ Among x ys

-- whether the box has all the place's points
abbrev pub has : List Span → List ℤ → Bool
has [] [] = true
has [] (p ∷ ps) = false
has (i ∷ is) [] = false
has (i ∷ is) (p ∷ ps) = int_le i.0 p && (int_le p i.1 && has is ps)

-- the numbers, from n on, of the rows that pass
abbrev pub passing : {X : Type 0} → (X → Bool) → ℕ → List X → List ℕ
passing t n [] = []
passing t n (x ∷ xs) = cond (t x) (n ∷ passing t (suc n) xs) (passing t (suc n) xs)

-- the numbers of the rows that cover the place, ascending
abbrev pub covering : List (List Span) → List ℤ → List ℕ
covering rows grid_point = passing (λ x. has x grid_point) 0 rows

-- the function's answer has the label
abbrev pub Gives : {P F : Type 0} → Result (List P) F → P → Type 0
Gives (Ok labels) l = Among l labels
Gives (Err e) l = ⊥

-- a function of the numbers of the covering rows, left and right
abbrev pub CellFunction : Type 0 → Type 0 → Type 0
CellFunction P F = List ℕ → List ℕ → Result (List P) F

-- some row covers the place, and the function of the covering rows gives the label
abbrev pub InCells : {P F : Type 0} → CellFunction P F → List (List Span) → List (List Span) → P → List ℤ → Type 0
InCells f left right l grid_point =
    let a = covering left grid_point in
    let b = covering right grid_point in
    ((a ≢ []) ⊎ (b ≢ [])) × Gives (f a b) l

-- the same over numbered cells
abbrev pub has_cell : List (ℕ × ℕ) → List ℕ → Bool
has_cell [] [] = true
has_cell [] (p ∷ ps) = false
has_cell (i ∷ is) [] = false
has_cell (i ∷ is) (p ∷ ps) = nat_le i.0 p && (nat_lt p i.1 && has_cell is ps)

abbrev pub InIndexCells : {P F : Type 0} → CellFunction P F → List (List (ℕ × ℕ)) → List (List (ℕ × ℕ)) → P → List ℕ → Type 0
InIndexCells f left right l grid_point =
    let a = passing (λ x. has_cell x grid_point) 0 left in
    let b = passing (λ x. has_cell x grid_point) 0 right in
    ((a ≢ []) ⊎ (b ≢ [])) × Gives (f a b) l
