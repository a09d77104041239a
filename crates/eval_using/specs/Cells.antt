-- How many cells the cuts of expressions part rows into.
--     cells_of_all commalist scalars rows      of all rows together
use Rattle.std.specs.Prelude.{ℕ, ℤ, ◌+◌, ◌*◌, List, [], ◌∷◌, map, flat_map, filter, length, sum}
use Rattle.std.specs.Ordering.{int_cmp}
use Rattle.base_core.specs.Sets.{in_order}
use Rattle.value_core.specs.Attributes.{span_of, value_at}
use Rattle.value_core.specs.Values.{Row}
use Rattle.scalar_core.specs.Cuts.{cuts, is_inside}
use Rattle.scalar_core.specs.Expressions.{Expr}
use Rattle.tree_core.specs.Trees.{PlainSets}

abbrev pub scalars_of : PlainSets → List Expr
scalars_of sets = map (λ s. s.1) sets

-- the different cuts of the interval at a position, by all expressions together
abbrev pub cuts_of_all : List ℕ → List Expr → Row → ℕ → List ℤ
cuts_of_all commalist scalars row a =
    in_order int_cmp (filter (is_inside (span_of (value_at row a))) (flat_map (λ e. cuts commalist a e row) scalars))

abbrev pub product : List ℕ → ℕ
product [] = 1
product (n ∷ ns) = n * product ns

-- the cells of a row: one more than the cuts on each listed attribute
abbrev pub cells_of_row : List ℕ → List Expr → Row → ℕ
cells_of_row commalist scalars row = product (map (λ a. length (cuts_of_all commalist scalars row a) + 1) commalist)

abbrev pub cells_of_all : List ℕ → List Expr → List Row → ℕ
cells_of_all commalist scalars rows = sum (map (cells_of_row commalist scalars) rows)
