-- Pieces: a key, the first cell, and the one after the last. Keys that compare Equal are one key.
use Rattle.std.specs.Prelude.{◌≡◌, ℕ, ◌<◌, ◌≤◌, ◌⊎◌, List, [], ◌∷◌}
use Rattle.std.specs.declared.cmp.Ordering.{Ordering}
use Rattle.std.specs.declared.cmp.Ordering.TheVariants.{Less, Equal}
use Rattle.std.specs.List.{AllByRecursion}
use Rattle.cell_packing.specs.declared.Piece.{Piece}

module _ {K : Type 0} (R : K → K → Ordering) where
  -- x has the key and the cell
  abbrev pub CoversOne : Piece K → K → ℕ → Type 0
  CoversOne x k i = (R x.key k ≡ Equal) × (x.begin ≤ i) × (i < x.end)

  -- some piece has the key and the cell
  abbrev pub Covers : List (Piece K) → K → ℕ → Type 0
  Covers [] k i = ⊥
  Covers (x ∷ xs) k i = CoversOne x k i ⊎ Covers xs k i

  -- some piece has the key and those cells
  abbrev pub HasPiece : List (Piece K) → K → ℕ → ℕ → Type 0
  HasPiece [] k a z = ⊥
  HasPiece (x ∷ xs) k a z = ((R x.key k ≡ Equal) × (x.begin ≡ a) × (x.end ≡ z)) ⊎ HasPiece xs k a z

  -- x comes before y, and they do not meet
  abbrev pub Apart : Piece K → Piece K → Type 0
  Apart x y = (R x.key y.key ≡ Less) ⊎ ((R x.key y.key ≡ Equal) × (x.end < y.begin))

  -- each has a cell, they stand in order, and no two of one key meet
  abbrev pub AreApart : List (Piece K) → Type 0
  AreApart [] = Unit {0}
  AreApart (x ∷ xs) = (x.begin < x.end) × AllByRecursion (Apart x) xs × AreApart xs

  -- x does not begin after y
  abbrev pub NotAfter : Piece K → Piece K → Type 0
  NotAfter x y = (R x.key y.key ≡ Less) ⊎ ((R x.key y.key ≡ Equal) × (x.begin ≤ y.begin))

  abbrev pub AllNotAfter : List (Piece K) → Piece K → Type 0
  AllNotAfter xs y = AllByRecursion (λ x. NotAfter x y) xs

  -- x has the key of the last one, and begins within it or right after it
  abbrev pub Meets : Piece K → Piece K → Type 0
  Meets l x = (R l.key x.key ≡ Equal) × (x.begin ≤ l.end)
