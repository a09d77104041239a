-- Rows on one side that stand in order, no two of one label meeting.
use Rattle.std.specs.Prelude.{◌≡◌, ℕ, suc, ◌<◌, ◌⊎◌, ℤ, pos, ◌+ℤ◌, ◌≤ℤ◌, ◌<ℤ◌, List, length, get_or}
use Rattle.std.specs.declared.cmp.Ordering.{Ordering}
use Rattle.std.specs.declared.cmp.Ordering.TheVariants.{Less, Equal}
use Rattle.interval_core.specs.Members.{Span}
use Rattle.cell_packing.specs.Packed.{nowhere}
use Rattle.cell_packing.specs.Boxed.{Boxed}

-- the row's first side
abbrev pub first_side : {P : Type 0} → Boxed P → Span
first_side x = get_or x.1 0 nowhere

-- the row has one side, and a number is in it
abbrev pub HasOneSide : {P : Type 0} → Boxed P → Type 0
HasOneSide x = (length x.1 ≡ 1) × ((first_side x).0 ≤ℤ (first_side x).1)

-- y is of a later label than x, or of the same and begins after the number after the end of x
abbrev pub IsBeyond : {P : Type 0} → (P → P → Ordering) → Boxed P → Boxed P → Type 0
IsBeyond order x y =
    (order x.0 y.0 ≡ Less) ⊎ ((order x.0 y.0 ≡ Equal) × (((first_side x).1 +ℤ pos 1) <ℤ (first_side y).0))

-- each row has one side, and each but the first is beyond the one before it
pub record AreBeyond {P : Type 0} (order : P → P → Ordering) (rows : List (Boxed P)) : Type 0 where
  pub sides : (i : ℕ) (d : Boxed P) → i < length rows → HasOneSide (get_or rows i d)
  pub beyond : (i : ℕ) (d : Boxed P) → suc i < length rows → IsBeyond order (get_or rows i d) (get_or rows (suc i) d)
