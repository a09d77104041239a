-- Rows of one key that have no place in common.
use Rattle.std.specs.Prelude.{◌≡◌, ℕ, ◌<◌, ◌≤◌, List, length}
use Rattle.std.specs.declared.cmp.Ordering.{Ordering}
use Rattle.std.specs.declared.cmp.Ordering.TheVariants.{Equal}
use Rattle.cell_boxes.specs.Common.{At, first_of}
use Rattle.cell_boxes.specs.Meetings.{Met}
use Rattle.cell_boxes.specs.Rows.{IsRow, PlainCellBox}

-- no two of the rows that are of one key have a place of k sides in common
abbrev pub AreApart : {P : Type 0} → (P → P → Ordering) → ℕ → List (PlainCellBox P) → Type 0
AreApart {P} order k rows =
    (i j : ℕ) (x y : PlainCellBox P) → i < j → IsRow rows i x → IsRow rows j y → order x.0 y.0 ≡ Equal
    → (grid_point : List ℕ) → length grid_point ≡ k → At x.1 grid_point → At y.1 grid_point → ⊥

-- y is of another key, or begins where x has ended
abbrev pub Follows : {P : Type 0} → (P → P → Ordering) → PlainCellBox P → PlainCellBox P → Type 0
Follows order x y = order x.0 y.0 ≡ Equal → (first_of x.1).1 ≤ (first_of y.1).0

-- each of the first n rows does so after each before it
abbrev pub AllFollow : {P : Type 0} → (P → P → Ordering) → ℕ → List (PlainCellBox P) → Type 0
AllFollow {P} order n rows = (i j : ℕ) (x y : PlainCellBox P) → i < j → j < n → IsRow rows i x → IsRow rows j y → Follows order x y

-- rows meet themselves alone
abbrev pub AreOwn : List Met → Type 0
AreOwn ms = (a : ℕ) (m : Met) → IsRow ms a m → m.0.0 ≡ m.0.1
