-- Aggregates of groups by figures of columns of numbers.
--     HasPoint, HasPoints      an expression's value on a row is the point of a type with a number, and on each of several
--     IsColumn      what is asked of the numbers that an aggregate counts, sums or compares, a row each
--     AreColumns      the columns of all aggregates
--     point_at      the point that a figure is the number of
--     figure_values      the values of the aggregates by the figures of their columns, the first fault counting
--     figures_label      the label of a group by them
--     AreFigured      what that needs: columns, numbers that are the same for rows of one label (AreAlike), and places (ArePlaces)
use Rattle.std.specs.Prelude.{◌≡◌, ℕ, ◌<◌, ◌^◌, ℤ, pos, Bool, ◌&&◌, if◌then◌else◌, List, [], ◌∷◌, ◌++◌, length, get_or, Ok, Err, IsTrue}
use Rattle.base_core.specs.Outcomes.{then_give, both}
use Rattle.point_core.specs.Faults.{OrFault, fault}
use Rattle.point_core.specs.Points.{line_of, is_number}
use Rattle.point_core.specs.declared.any_type.AnyType.{AnyType}
use Rattle.point_core.specs.declared.any_type.AnyType.TheVariants.{Integer}
use Rattle.point_core.specs.declared.fault.Code.TheVariants.{E30}
use Rattle.point_core.specs.declared.fault.Place.{Place}
use Rattle.value_core.specs.Values.{Row, Value, point}
use Rattle.scalar_core.specs.Expressions.{Expr}
use Rattle.scalar_core.specs.ScalarValues.{value}
use Rattle.relation_core.specs.Agreement.{part_of}
use Rattle.cell_packing.specs.Covering.{Among}
use Rattle.u_set.specs.Boxes.{others}
use Rattle.tree_core.specs.Trees.{PlainAggregateForm, count_rows, sum_of, min_of, max_of, PlainAggregate}
use Rattle.u_summarize.specs.Figures.{PlainColumn}
use Rattle.u_summarize.specs.declared.values.Figure.{Figure}
use Rattle.u_summarize.specs.declared.values.Measure.TheVariants.{Sum, Least, Greatest}

-- the number has 64 bits, and is that of a point of the type
abbrev pub is_point : AnyType → ℤ → Bool
is_point t n = is_number Integer n && is_number t n

abbrev pub HasPoint : Row → Expr → AnyType → ℤ → Type 0
HasPoint row e t n = (value e row ≡ Ok (point (line_of t) n)) × IsTrue (is_point t n)

-- on each row it is the one with the row's number
abbrev pub HasPoints : List Row → Expr → AnyType → List ℤ → Type 0
HasPoints rows e t numbers = (r : ℕ) → r < length rows → HasPoint (get_or rows r []) e t (get_or numbers r (pos 0))

-- of a count, the sum of ones; of a sum, that of integers
abbrev pub IsColumn : List Row → PlainAggregateForm → PlainColumn → Type 0
IsColumn rows count_rows column = (column.0 ≡ Sum) × (column.1 ≡ Integer) × ((r : ℕ) → r < length rows → get_or column.2 r (pos 0) ≡ pos 1)
IsColumn rows (sum_of e) column = (column.0 ≡ Sum) × (column.1 ≡ Integer) × HasPoints rows e column.1 column.2
IsColumn rows (min_of e) column = (column.0 ≡ Least) × HasPoints rows e column.1 column.2
IsColumn rows (max_of e) column = (column.0 ≡ Greatest) × HasPoints rows e column.1 column.2

abbrev pub AreColumns : List Row → List PlainAggregate → List PlainColumn → Type 0
AreColumns rows [] [] = Unit {0}
AreColumns rows [] (c ∷ cs) = ⊥
AreColumns rows (a ∷ rest) [] = ⊥
AreColumns rows (a ∷ rest) (c ∷ cs) = (length c.2 ≡ length rows) × IsColumn rows a.form c × AreColumns rows rest cs

-- the point, or the fault at the place where there is none
abbrev pub point_at : Place → Figure → OrFault Value
point_at place figure = if is_point figure.of figure.number then Ok (point (line_of figure.of) figure.number) else Err (fault place E30)

abbrev pub figure_values : List PlainAggregate → List Figure → OrFault (List Value)
figure_values [] zs = Ok []
figure_values (a ∷ rest) [] = Ok []
figure_values (a ∷ rest) (z ∷ zs) = both (point_at a.place z) (figure_values rest zs) (λ v vs. Ok (v ∷ vs))

-- the label of a group by the figures of its columns: values at places among those of the aggregates and then those of its part
abbrev pub figures_label : List ℕ → List PlainAggregate → Row → List Figure → OrFault Row
figures_label places aggregates key figures = then_give (figure_values aggregates figures) (λ made. Ok (part_of places (made ++ key)))

-- rows of one label have the same number in each column
abbrev pub AreAlike : List Row → List PlainColumn → Type 0
AreAlike labels columns = (c : PlainColumn) → Among c columns → (r s : ℕ) → r < length labels → s < length labels → get_or labels r [] ≡ get_or labels s [] → get_or c.2 r (pos 0) ≡ get_or c.2 s (pos 0)

-- the label of a group's row is made of values at the places among those of the aggregates and then those of the part of its label
abbrev pub ArePlaces : List ℕ → List ℕ → List ℕ → List ℕ → ℕ → List Row → List Row → Type 0
ArePlaces places to at by many rows labels =
    (made : List Value) (r : ℕ) → length made ≡ many → r < length rows → others to (part_of at (made ++ get_or rows r [])) ≡ part_of places (made ++ part_of by (get_or labels r []))

-- what figures of columns need to give the labels of groups
pub record AreFigured (spots to at by : List ℕ) (aggregates : List PlainAggregate) (rows labels : List Row) (sets : List PlainColumn) : Type 0 where
  pub columns : AreColumns rows aggregates sets
  pub alike : AreAlike labels sets
  pub places : ArePlaces spots to at by (length aggregates) rows labels
  pub count : length rows ≡ length labels
  pub few : length rows < 2 ^ 63
