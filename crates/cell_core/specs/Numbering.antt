-- The numbering of the cuts of a side.
use Rattle.std.specs.Prelude.{◌≡◌, ℕ, zero, suc, ◌<◌, ◌⊎◌, ℤ, pos, ◌+ℤ◌, ◌-ℤ◌, ◌<ℤ◌, ◌*◌, ◌≤◌, List, [], ◌∷◌, ◌++◌, map, length, get_or}
use Rattle.std.specs.List.{All}
use Rattle.interval_core.specs.Members.{Span}
use Rattle.cell_packing.specs.Packed.{no_cells}
use Rattle.cell_packing.specs.Covering.{Among}

-- the number at which the cell i begins; after the last cut one cell for each number from `top` on
abbrev pub cut_at : List ℤ → ℤ → ℕ → ℤ
cut_at [] top i = top +ℤ pos i
cut_at (c ∷ cs) top zero = c
cut_at (c ∷ cs) top (suc i) = cut_at cs top i

-- each cut is below the next, and the last is below `top`
abbrev pub Rises : List ℤ → ℤ → Type 0
Rises [] top = Unit {0}
Rises (c ∷ cs) top = (c <ℤ cut_at cs top 0) × Rises cs top

-- the numbers from the first cell up to before the cell after the last
abbrev pub span_at : List ℤ → ℤ → ℕ × ℕ → Span
span_at cuts top x = (cut_at cuts top x.0, cut_at cuts top x.1 -ℤ pos 1)

-- an interval by its numbers
abbrev pub numbers_of : {P : Type 0} → (P → ℤ) → P × P → Span
numbers_of n i = (n i.0, n i.1)

-- the number of each begin and the number after each end; those of the span r stand at 2r and 2r + 1
abbrev pub ends : {P : Type 0} → (P → ℤ) → List (P × P) → List ℤ
ends n [] = []
ends n (i ∷ is) = n i.0 ∷ (n i.1 +ℤ pos 1) ∷ ends n is

abbrev pub IsLastOf : List ℤ → ℤ → Type 0
IsLastOf [] p = ⊥
IsLastOf (x ∷ []) p = x ≡ p
IsLastOf (x ∷ y ∷ ys) p = IsLastOf (y ∷ ys) p

-- some pair has the place
abbrev pub HasTag : {X : Type 0} → List (X × ℕ) → ℕ → Type 0
HasTag [] tag = ⊥
HasTag (x ∷ xs) tag = (x.1 ≡ tag) ⊎ HasTag xs tag

-- the pair's point is the one that belongs at its place
abbrev pub IsPlaced : {P : Type 0} → (P → ℤ) → (P → Type 0) → List (P × P) → P × ℕ → Type 0
IsPlaced n has spans x = (x.1 < length (ends n spans)) × (get_or (ends n spans) x.1 (pos 0) ≡ n x.0) × has x.0

-- the list is longer by the point after `end`, if there is one
abbrev pub IsPut : {P : Type 0} → (P → ℤ) → (P → Type 0) → ℤ → P → ℕ → List (P × ℕ) → List (P × ℕ) → Type 0
IsPut {P} n has high end tag old new =
    ((q : P) × (new ≡ old ++ (q, tag) ∷ []) × (n q ≡ n end +ℤ pos 1) × has q) ⊎ ((new ≡ old) × (n end ≡ high))

-- the cuts end with p
abbrev pub IsAdded : {P : Type 0} → (P → ℤ) → P → List P → List P → Type 0
IsAdded n p old new =
    ((new ≡ old) × IsLastOf (map n old) (n p)) ⊎ ((new ≡ old ++ p ∷ []) × ¬ (IsLastOf (map n old) (n p)))

-- the list has the ends of the first r spans with their places
pub record AreEnds {P : Type 0} (n : P → ℤ) (has : P → Type 0) (high : ℤ) (spans : List (P × P)) (r : ℕ)
    (list : List (P × ℕ)) : Type 0 where
  pub placed : (x : P × ℕ) → Among x list → IsPlaced n has spans x
  pub found : (tag : ℕ) → tag < 2 * r → HasTag list tag ⊎ (get_or (ends n spans) tag (pos 0) ≡ high +ℤ pos 1)
  pub count : length list ≤ 2 * r

-- the cell at a place of the table: the one that begins at the point with this place in the list, else `rest`
abbrev pub IsCellAt : {P : Type 0} → (P → ℤ) → List P → ℤ → ℕ → List (P × ℕ) → ℕ → ℕ → Type 0
IsCellAt {P} n cuts top rest list tag c =
    ((p : P) × Among (p, tag) list × (cut_at (map n cuts) top c ≡ n p) × (c < length cuts))
    ⊎ ((c ≡ rest) × ¬ (HasTag list tag))

-- what the numbering of a side gives: the cuts, the last point of each cell, and the cells of each span
pub record IsSide {P : Type 0} (n : P → ℤ) (has : P → Type 0) (high : ℤ) (spans : List (P × P))
    (s : List P × List P × List (ℕ × ℕ)) : Type 0 where
  pub rises : Rises (map n s.0) (high +ℤ pos 1)
  pub points : All has s.0
  pub last_points : All has s.1
  pub last_length : length s.1 ≡ length s.0
  pub lasts : (i : ℕ) (d : P) → i < length s.0 → n (get_or s.1 i d) +ℤ pos 1 ≡ cut_at (map n s.0) (high +ℤ pos 1) (suc i)
  pub cells_length : length s.2 ≡ length spans
  pub cells : (r : ℕ) (d : P × P) → r < length spans
      → span_at (map n s.0) (high +ℤ pos 1) (get_or s.2 r no_cells) ≡ numbers_of n (get_or spans r d)
  pub within : (r : ℕ) → r < length spans → (get_or s.2 r no_cells).1 ≤ length s.0
  pub few : length s.0 ≤ 2 * length spans

-- the part of it that the way back needs
pub record IsGrid {P : Type 0} (n : P → ℤ) (has : P → Type 0) (high : ℤ)
    (s : List P × List P × List (ℕ × ℕ)) : Type 0 where
  pub rises : Rises (map n s.0) (high +ℤ pos 1)
  pub points : All has s.0
  pub last_points : All has s.1
  pub last_length : length s.1 ≡ length s.0
  pub lasts : (i : ℕ) (d : P) → i < length s.0 → n (get_or s.1 i d) +ℤ pos 1 ≡ cut_at (map n s.0) (high +ℤ pos 1) (suc i)
