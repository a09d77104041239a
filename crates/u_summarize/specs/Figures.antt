-- What is kept of columns of numbers of rows, and the figures that it gives.
--     IsKept, AreKept      what is kept of a column, and of each of several, is of just the marked rows
--     figure_of, figures_of      what a column, and each of several, gives of the marked rows
use Rattle.std.specs.Prelude.{◌≡◌, ℕ, ◌<◌, Bool, List, [], map, length, get_or, ℤ, pos}
use Rattle.point_core.specs.declared.any_type.AnyType.{AnyType}
use Rattle.point_core.specs.declared.any_type.AnyType.TheVariants.{Integer}
use Rattle.cell_boxes.specs.Totals.{count_of, sum_of, IsTotal}
use Rattle.u_summarize.specs.Extremes.{AreOrdered, least_of, greatest_of}
use Rattle.u_summarize.specs.declared.keeping.Kept.{Kept}
use Rattle.u_summarize.specs.declared.keeping.Kept.TheVariants.{Total, Least as FromLeast, Greatest as ToGreatest}
use Rattle.u_summarize.specs.declared.values.Figure.{Figure}
use Rattle.u_summarize.specs.declared.values.Measure.{Measure}
use Rattle.u_summarize.specs.declared.values.Measure.TheVariants.{Sum, Least, Greatest}

-- what is asked of the numbers, the type of their points, and a number for each row
abbrev pub PlainColumn : Type 0
PlainColumn = Measure × AnyType × List ℤ

-- for a sum, the sum; for the least and the greatest, the values in order
abbrev pub IsMeasured : Measure → List ℤ → Kept → List Bool → Type 0
IsMeasured Sum values (Total sum) f = IsTotal values (count_of f) sum f
IsMeasured Least values (FromLeast pairs) f = AreOrdered values pairs f
IsMeasured Greatest values (ToGreatest pairs) f = AreOrdered values pairs f
IsMeasured _ _ _ _ = ⊥

abbrev pub IsKept : PlainColumn → Kept → List Bool → Type 0
IsKept column kept f = IsMeasured column.0 column.2 kept f

abbrev pub column_at : List PlainColumn → ℕ → PlainColumn
column_at columns j = get_or columns j (Sum, Integer, [])

abbrev pub kept_at : List Kept → ℕ → Kept
kept_at kept j = get_or kept j (Total (pos 0))

pub record AreKept (columns : List PlainColumn) (kept : List Kept) (f : List Bool) : Type 0 where
  pub many : length kept ≡ length columns
  pub each : (j : ℕ) → j < length columns → IsKept (column_at columns j) (kept_at kept j) f

abbrev pub measured : Measure → List ℤ → List Bool → ℤ
measured Sum values f = sum_of values f
measured Least values f = least_of values f
measured Greatest values f = greatest_of values f

abbrev pub figure_of : PlainColumn → List Bool → Figure
figure_of column f = record { of = column.1; number = measured column.0 column.2 f }

abbrev pub figures_of : List PlainColumn → List Bool → List Figure
figures_of columns f = map (λ c. figure_of c f) columns
