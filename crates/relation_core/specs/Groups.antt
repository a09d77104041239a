-- Groups of rows that agree at positions, as the numbers of their rows, and what a function gives of each.
--     numbers_where      the numbers of the rows that pass a test
--     group, groups      the rows with the same values at positions
--     rows_at      the rows of a group
--     summarized      what a function gives of each group, or its least fault
use Rattle.std.specs.Prelude.{ℕ, suc, Bool, List, [], ◌∷◌, map, Ok, slice_index_or, if◌then◌else◌}
use Rattle.std.specs.Ordering.{eq_by_cmp}
use Rattle.base_core.specs.Outcomes.{then_give, least_of_all}
use Rattle.point_core.specs.Faults.{OrFault}
use Rattle.value_core.specs.Values.{Row, row_cmp, rows_of}
use Rattle.relation_core.specs.Agreement.{part_of}
use Rattle.point_core.specs.Orders.{fault_order}
use Rattle.relation_core.specs.Parts.{projected}

-- the numbers of the rows that pass the test, where the first row has the number n
abbrev pub numbers_from : (Row → Bool) → ℕ → List Row → List ℕ
numbers_from test n [] = []
numbers_from test n (x ∷ xs) = if test x then n ∷ numbers_from test (suc n) xs else numbers_from test (suc n) xs

abbrev pub numbers_where : (Row → Bool) → List Row → List ℕ
numbers_where test rows = numbers_from test 0 rows

-- the rows with the numbers
abbrev pub rows_at : List Row → List ℕ → List Row
rows_at rows numbers = map (λ i. slice_index_or rows i []) numbers

-- whether a row has these values at the positions
abbrev pub has_part : List ℕ → Row → Row → Bool
has_part by key x = eq_by_cmp row_cmp (part_of by x) key

-- the numbers of the rows with these values at the positions
abbrev pub group : List ℕ → List Row → Row → List ℕ
group by rows key = numbers_where (has_part by key) rows

-- a group for each of the different parts of the rows, in the order of these
abbrev pub groups : List ℕ → List Row → List (List ℕ)
groups by rows = map (group by rows) (projected by rows)

-- what the function gives of each group, or its least fault
abbrev pub summarized : List ℕ → (List ℕ → OrFault Row) → List Row → OrFault (List Row)
summarized by f rows = then_give (least_of_all fault_order (map f (groups by rows))) (λ given. Ok (rows_of given))
