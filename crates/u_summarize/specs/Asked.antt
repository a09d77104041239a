-- What a rule is asked at cells, where rows stand by their keys and each has its number among the caller's.
--     numbers_at      the caller's numbers of rows, in order
--     number_in      the number of a label in a list
--     AreRanks      numbers of rows that are equal just where their labels are
--     is_lower, first_ones      of numbers in order those of which none before has the same rank
--     ranked, have_one_rank      numbers at places with their ranks, and whether two have the same
--     asked      what the rule gives of the rows of a key that have a cell
--     IsNumbered      a row with its number, under the part of its label
--     InCellGroup, HasCellFault      what the rule gives at places of cells
use Rattle.std.specs.Prelude.{◌≡◌, ◌↔◌, ℕ, suc, ◌<◌, Bool, not, ◌&&◌, ltb, eqb, cond, List, [], ◌∷◌, map, length, get_or, filter, Result, Ok, Err}
use Rattle.std.specs.List.{list_any}
use Rattle.std.specs.Ordering.{nat_cmp, eq_by_cmp}
use Rattle.base_core.specs.Sets.{in_order}
use Rattle.value_core.specs.Values.{Row, row_cmp}
use Rattle.relation_core.specs.Agreement.{part_of}
use Rattle.cell_boxes.specs.Common.{At}
use Rattle.u_summarize.specs.Groups.{OfFirsts, labels_in, sides_in}

-- the numbers at the places, in order, each once
abbrev pub numbers_at : List ℕ → List ℕ → List ℕ
numbers_at numbers places = in_order nat_cmp (map (λ i. get_or numbers i 0) places)

-- the number of the first that is the label
abbrev pub number_in : List Row → Row → ℕ
number_in [] l = 0
number_in (x ∷ xs) l = cond (eq_by_cmp row_cmp x l) 0 (suc (number_in xs l))

-- a rank for each label; two are equal just where the labels are
pub record AreRanks (labels : List Row) (ranks : List ℕ) : Type 0 where
  pub count : length ranks ≡ length labels
  pub alike : (r s : ℕ) → r < length labels → s < length labels → (get_or ranks r 0 ≡ get_or ranks s 0) ↔ (get_or labels r [] ≡ get_or labels s [])

-- whether s is lower than r and has its rank
abbrev pub is_lower : List ℕ → ℕ → ℕ → Bool
is_lower ranks r s = ltb s r && eqb (get_or ranks s 0) (get_or ranks r 0)

-- those of which no lower one has the same rank
abbrev pub first_ones : List ℕ → List ℕ → List ℕ
first_ones ranks numbers = filter (λ r. not (list_any (is_lower ranks r) numbers)) numbers

-- the numbers at the places with their ranks
abbrev pub ranked : List ℕ → List ℕ → List ℕ → List (ℕ × ℕ)
ranked ranks numbers places = map (λ i. (get_or ranks (get_or numbers i 0) 0, get_or numbers i 0)) places

-- whether the two have the same rank
abbrev pub have_one_rank : ℕ × ℕ → ℕ × ℕ → Bool
have_one_rank x y = eqb x.0 y.0

-- the label alone, or the fault
abbrev pub alone : {L F : Type 0} → Result L F → Result (List L) F
alone (Ok l) = Ok (l ∷ [])
alone (Err e) = Err e

-- nothing of no rows
abbrev pub asked : {F : Type 0} → (List ℕ → Result Row F) → List ℕ → List ℕ → List ℕ → Result (List Row) F
asked f ranks numbers [] = Ok []
asked f ranks numbers (i ∷ is) = alone (f (first_ones ranks (numbers_at numbers (i ∷ is))))

-- the rows with their numbers, under the parts of their labels
abbrev pub IsNumbered : List ℕ → List (Row × List (ℕ × ℕ)) → Row × ℕ × List (ℕ × ℕ) → Type 0
IsNumbered by rows z = (z.1 < length rows) × (z.0 ≡ part_of by (get_or rows z.1 ([], [])).0) × (z.2 ≡ (get_or rows z.1 ([], [])).1)

-- the cells of the row have the place
abbrev pub HasCells : List (Row × List (ℕ × ℕ)) → List ℕ → ℕ → Type 0
HasCells rows place r = At (get_or (sides_in rows) r []) place

-- the rule gives the label of some group at the place
abbrev pub InCellGroup : {F : Type 0} → (List ℕ → Result Row F) → List ℕ → List (Row × List (ℕ × ℕ)) → Row → List ℕ → Type 0
InCellGroup f by rows l place = OfFirsts by (labels_in rows) (HasCells rows place) (λ a. f a ≡ Ok l)

-- it gives the fault of some group at some place of k sides
abbrev pub HasCellFault : {F : Type 0} → ℕ → (List ℕ → Result Row F) → List ℕ → List (Row × List (ℕ × ℕ)) → F → Type 0
HasCellFault k f by rows e = (place : List ℕ) × (length place ≡ k) × OfFirsts by (labels_in rows) (HasCells rows place) (λ a. f a ≡ Err e)
