-- Sets of places, and their packed form.
--     A place is a list of numbers, one for each side. A box is a list of spans, one for each side; a span is its first and its last number.
use Rattle.std.specs.Prelude.{◌≡◌, ℕ, zero, suc, ◌<◌, ◌≤◌, ℤ, pos, ◌+ℤ◌, ◌-ℤ◌, ◌≤ℤ◌, List, [], ◌∷◌, set, get_or}
use Rattle.interval_core.specs.Members.{Span, at_point}

-- a longest run of numbers that P holds of
pub record IsRun (P : ℤ → Type 0) (i : Span) : Type 0 where
  pub some : i.0 ≤ℤ i.1
  pub each : (p : ℤ) → i.0 ≤ℤ p → p ≤ℤ i.1 → P p
  pub before : ¬ (P (i.0 -ℤ pos 1))
  pub after : ¬ (P (i.1 +ℤ pos 1))

-- ---- one side after the other, as a machine that unpacks would

abbrev pub nowhere : Span
nowhere = (pos 0, pos 0)

-- the rows of r packed on the side j
abbrev pub pack1 : ℕ → (List Span → Type 0) → List Span → Type 0
pack1 j r y = IsRun (λ p. r (set y j (at_point p))) (get_or y j nowhere)

-- packed on the first j sides, the first of them first
abbrev pub packs : ℕ → (List Span → Type 0) → List Span → Type 0
packs zero r = r
packs (suc j) r = pack1 j (packs j r)

abbrev pub ArePoints : List Span → Type 0
ArePoints [] = Unit {0}
ArePoints (i ∷ is) = (i.0 ≡ i.1) × ArePoints is

abbrev pub firsts : List Span → List ℤ
firsts [] = []
firsts (i ∷ is) = i.0 ∷ firsts is

-- the rows of single points
abbrev pub points_of : (List ℤ → Type 0) → List Span → Type 0
points_of S y = ArePoints y × S (firsts y)

-- ---- the same by the side's number: packed on the first j sides, at the point `rest` of the sides after them
abbrev pub IsPackedTo : ℕ → (List ℤ → Type 0) → List Span → List ℤ → Type 0
IsPackedTo zero S y rest = S rest
IsPackedTo (suc j) S y rest = IsRun (λ p. IsPackedTo j S y (p ∷ rest)) (get_or y j nowhere)

-- ---- the same from the last side inward. Sides and places stand from the last to the first here

-- a longest run of points of the last side over which the rest is a packed row of the slice
abbrev pub IsPacked : (List ℤ → Type 0) → List Span → Type 0
IsPacked S [] = S []
IsPacked S (i ∷ is) = IsRun (λ p. IsPacked (λ ps. S (p ∷ ps)) is) i

-- the box has all the place's points
abbrev pub Has : List Span → List ℤ → Type 0
Has [] [] = Unit {0}
Has [] (p ∷ ps) = ⊥
Has (i ∷ is) [] = ⊥
Has (i ∷ is) (p ∷ ps) = (i.0 ≤ℤ p) × (p ≤ℤ i.1) × Has is ps

-- ---- the same over numbered cells, for which a span is its first cell and the one after its last

pub record IsIndexRun (P : ℕ → Type 0) (a z : ℕ) : Type 0 where
  pub some : a < z
  pub each : (i : ℕ) → a ≤ i → i < z → P i
  pub before : (i : ℕ) → suc i ≡ a → ¬ (P i)
  pub after : ¬ (P z)

abbrev pub IsIndexPacked : (List ℕ → Type 0) → List (ℕ × ℕ) → Type 0
IsIndexPacked S [] = S []
IsIndexPacked S (i ∷ is) = IsIndexRun (λ p. IsIndexPacked (λ ps. S (p ∷ ps)) is) i.0 i.1

-- ps turned round, before rest
abbrev pub onto : List ℤ → List ℤ → List ℤ
onto [] rest = rest
onto (p ∷ ps) rest = onto ps (p ∷ rest)

-- the first j sides, the last of them first
abbrev pub sides_back : ℕ → List Span → List Span
sides_back zero y = []
sides_back (suc j) y = get_or y j nowhere ∷ sides_back j y

abbrev pub no_cells : ℕ × ℕ
no_cells = (0, 0)

-- over cells, by the side's number: packed on the first j sides, at the cells `rest` of the sides after them
abbrev pub IsIndexPackedTo : ℕ → (List ℕ → Type 0) → List (ℕ × ℕ) → List ℕ → Type 0
IsIndexPackedTo zero S y rest = S rest
IsIndexPackedTo (suc j) S y rest = IsIndexRun (λ i. IsIndexPackedTo j S y (i ∷ rest)) (get_or y j no_cells).0 (get_or y j no_cells).1
