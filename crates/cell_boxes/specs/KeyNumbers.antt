-- Numbers that stand for the keys of rows.
use Rattle.std.specs.Prelude.{◌≡◌, ℕ, ◌+◌, ◌<◌, ◌≤◌, ◌↔◌, List, length, get_or}
use Rattle.std.specs.declared.cmp.Ordering.{Ordering}
use Rattle.std.specs.declared.cmp.Ordering.TheVariants.{Less, Equal}
use Rattle.std.specs.Ordering.{nat_cmp}
use Rattle.std.proofs.Common.{sym}
use Rattle.std.proofs.lemmas.Cmp.{ranked}
use Rattle.cell_boxes.specs.Meetings.{boxes_in}
use Rattle.cell_boxes.specs.Rows.{IsRow, Ascend, PlainCellBox}

-- numbers that tie are equal
pub separates_numbers : (a b : ℕ) → nat_cmp a b ≡ Equal → a ≡ b
separates_numbers a b e = ranked a b Equal (sym e)

-- the rows have the boxes that they had and numbers for keys: those of a left and of a right row are equal where their keys are
pub record AreNumbered {K : Type 0} (left right : List (PlainCellBox K)) (lefts rights : List (PlainCellBox ℕ)) : Type 0 where
  pub left_boxes : boxes_in lefts ≡ boxes_in left
  pub right_boxes : boxes_in rights ≡ boxes_in right
  pub same : (i j : ℕ) (x y : PlainCellBox K) (v w : PlainCellBox ℕ) → IsRow left i x → IsRow right j y → IsRow lefts i v → IsRow rights j w → (x.0 ≡ y.0) ↔ (v.0 ≡ w.0)
  pub left_order : Ascend nat_cmp lefts
  pub right_order : Ascend nat_cmp rights

-- so many rows are of lesser keys, and these come first
pub record IsCount {K : Type 0} (order : K → K → Ordering) (rows : List (PlainCellBox K)) (key : K) (count : ℕ) : Type 0 where
  pub within : count ≤ length rows
  pub lesser : (i : ℕ) (x : PlainCellBox K) → IsRow rows i x → i < count → order x.0 key ≡ Less
  pub others : (i : ℕ) (x : PlainCellBox K) → IsRow rows i x → count ≤ i → order x.0 key ≡ Less → ⊥

-- so many rows and others together are of lesser keys
abbrev pub IsNumber : {K : Type 0} → (K → K → Ordering) → List (PlainCellBox K) → List (PlainCellBox K) → K → ℕ → Type 0
IsNumber order rows others key n = (c : ℕ) × (d : ℕ) × IsCount order rows key c × IsCount order others key d × (c + d ≡ n)

-- each row has the number of its key
abbrev pub HaveNumbers : {K : Type 0} → (K → K → Ordering) → List (PlainCellBox K) → List (PlainCellBox K) → List ℕ → Type 0
HaveNumbers {K} order rows others numbers = (i : ℕ) (y : PlainCellBox K) (n : ℕ) → IsRow rows i y → IsRow numbers i n → IsNumber order rows others y.0 n

-- of the rows before `end` those from `first` on are of one key, and the others of lesser ones
pub record Begins {K : Type 0} (order : K → K → Ordering) (rows : List (PlainCellBox K)) (first end : ℕ) : Type 0 where
  pub lesser : (i : ℕ) (x y : PlainCellBox K) → IsRow rows i x → IsRow rows first y → i < first → order x.0 y.0 ≡ Less
  pub same : (i : ℕ) (x y : PlainCellBox K) → IsRow rows i x → IsRow rows first y → first ≤ i → i < end → order y.0 x.0 ≡ Equal

-- each row has the number of the first row of its key: so many rows are of lesser keys
abbrev pub HaveFirsts : {K : Type 0} → (K → K → Ordering) → List (PlainCellBox K) → List ℕ → Type 0
HaveFirsts {K} order rows firsts = (i : ℕ) (y : PlainCellBox K) (n : ℕ) → IsRow rows i y → IsRow firsts i n → IsCount order rows y.0 n

-- labels of rows with numbers for keys stand to each other as the numbers do
abbrev pub RiseAlike : {P : Type 0} → (P → P → Ordering) → List (PlainCellBox ℕ) → List P → Type 0
RiseAlike {P} order rows labels =
    (i j : ℕ) (v w : PlainCellBox ℕ) (a b : P) → IsRow rows i v → IsRow rows j w → IsRow labels i a → IsRow labels j b → order a b ≡ nat_cmp v.0 w.0

-- the box under the label of its number
abbrev pub named : {P : Type 0} → List P → P → PlainCellBox ℕ → PlainCellBox P
named labels d x = (get_or labels x.0 d, x.1)
