-- Rows over numbered cells, and what an operator means for live rows.
use Rattle.std.specs.Prelude.{◌≡◌, ℕ, zero, suc, ◌-◌, ◌*◌, ◌<◌, ◌≤◌, List, [], ◌∷◌, ◌++◌, map, get_or, Result, Ok, Err}
use Rattle.std.specs.declared.cmp.Ordering.{Ordering}
use Rattle.std.specs.Ordering.{nat_cmp, ordering_then}
use Rattle.std.specs.Cmp.{IsTotalOrder}
use Rattle.std.specs.Cmp.Lexicographic.{slice_cmp}
use Rattle.std.proofs.lemmas.Cmp.{then_total, on_total, nat_cmp_total, lists_total}
use Rattle.cell_sweep.specs.declared.inward.IndexBox.{IndexBox}
use Rattle.cell_packing.specs.declared.Piece.{Piece}
use Rattle.cell_packing.specs.Covering.{Gives}

-- the sides of each box
abbrev pub sides_of : List IndexBox → List (List (ℕ × ℕ))
sides_of boxes = map (λ x. x.sides.items) boxes

abbrev pub pair_cmp : ℕ × ℕ → ℕ × ℕ → Ordering
pair_cmp a b = ordering_then (nat_cmp a.0 b.0) (nat_cmp a.1 b.1)

-- by label, and then by sides
abbrev pub key_cmp : {P : Type 0} → (P → P → Ordering) → P × List (ℕ × ℕ) → P × List (ℕ × ℕ) → Ordering
key_cmp order a b = ordering_then (order a.0 b.0) (slice_cmp pair_cmp a.1 b.1)

pub pair_total : IsTotalOrder pair_cmp
pair_total = then_total (on_total (λ (p : ℕ × ℕ). p.0) nat_cmp_total) (on_total (λ (p : ℕ × ℕ). p.1) nat_cmp_total)

pub key_total : {P : Type 0} {order : P → P → Ordering} → IsTotalOrder order → IsTotalOrder (key_cmp order)
key_total {P} o = then_total (on_total (λ (k : P × List (ℕ × ℕ)). k.0) o) (on_total (λ (k : P × List (ℕ × ℕ)). k.1) (lists_total pair_total))

-- the key at the cells from a up to before z
abbrev pub tag : {K : Type 0} → ℕ → ℕ → K → Piece K
tag a z k = record { key = k; begin = a; end = z }

-- the piece's row, with the piece's cells as one more side
abbrev pub with_last : {P : Type 0} → Piece (P × List (ℕ × ℕ)) → P × List (ℕ × ℕ)
with_last p = (p.key.0, p.key.1 ++ (p.begin, p.end) ∷ [])

-- a label with no sides
abbrev pub no_sides : {P : Type 0} → P → P × List (ℕ × ℕ)
no_sides l = (l, [])

-- the numbers, less n each
abbrev pub own_numbers : ℕ → List ℕ → List ℕ
own_numbers n rows = map (λ r. r - n) rows

-- ascending numbers from a on, below z
abbrev pub AreRows : ℕ → ℕ → List ℕ → Type 0
AreRows a z [] = Unit {0}
AreRows a z (x ∷ xs) = (a ≤ x) × (x < z) × AreRows (suc x) z xs

-- the labels of an answer; a fault has none
abbrev pub labels_of : {P F : Type 0} → Result (List P) F → List P
labels_of (Ok v) = v
labels_of (Err e) = []

-- m gives the label for the live rows; the numbers of the right ones begin at n
abbrev pub GivesLabel : {P F : Type 0} → (List ℕ → List ℕ → Result (List P) F) → ℕ → P → List ℕ → List ℕ → Type 0
GivesLabel m n l a b = Gives (m a (own_numbers n b)) l

abbrev pub GivesFault : {P F : Type 0} → (List ℕ → List ℕ → Result (List P) F) → ℕ → F → List ℕ → List ℕ → Type 0
GivesFault m n e a b = m a (own_numbers n b) ≡ Err e

-- how many cells the first j sides have
abbrev pub volume : ℕ → List ℕ → ℕ
volume zero counts = 1
volume (suc j) counts = get_or counts j 0 * volume j counts
