-- What a row gives at a place: at one point of each listed attribute.
--     swept commalist to f row place      the label of what a function gives of the row at the place, or its fault
--     met c x      the row, where the condition holds of it
--     AreBoxed      rows with their boxes
--     CanSweep      a condition can be asked of a row at each place
use Rattle.std.specs.Prelude.{◌≡◌, ℕ, ◌<◌, ℤ, List, [], map, length, slice_index, get_or, Ok, Option, Some, None, option_map, IsTrue, if◌then◌else◌}
use Rattle.std.specs.List.{All}
use Rattle.base_core.specs.Outcomes.{then_give}
use Rattle.point_core.specs.Faults.{OrFault}
use Rattle.point_core.specs.Points.{number, IsPointOf}
use Rattle.point_core.specs.declared.any_type.AnyPoint.{AnyPoint}
use Rattle.value_core.specs.declared.kind.Kind.TheVariants.{Truth}
use Rattle.value_core.specs.Values.{Row, Heading, fits_heading}
use Rattle.scalar_core.specs.AtPlaces.{at_place}
use Rattle.scalar_core.specs.Expressions.{Expr}
use Rattle.scalar_core.specs.Kinds.{IsTyped}
use Rattle.scalar_core.specs.Sweeping.{IsSweepable}
use Rattle.cell_core.specs.Boxes.{IsBox}
use Rattle.cell_core.specs.Cells.{row_numbers}
use Rattle.u_set.specs.Boxes.{AreIntervals, types_at, others, boxed}
use Rattle.meaning_core.specs.Meanings.{condition}
use Rattle.eval_using.specs.Cells.{cuts_of_all}

-- the label that the given row has under the positions
abbrev pub labelled_if : List ℕ → Option Row → OrFault (Option Row)
labelled_if to o = Ok (option_map (others to) o)

abbrev pub swept : List ℕ → List ℕ → (Row → OrFault (Option Row)) → Row → List ℤ → OrFault (Option Row)
swept commalist to f row place = then_give (f (at_place commalist place row)) (labelled_if to)

-- the same by the numbers of rows
abbrev pub swept_rows : List ℕ → List ℕ → (Row → OrFault (Option Row)) → List Row → ℕ → List ℤ → OrFault (Option Row)
swept_rows commalist to f rows r place = swept commalist to f (get_or rows r []) place

-- the cuts of each listed attribute of each row, by all expressions together
abbrev pub swept_cuts : List ℕ → List Expr → List Row → ℕ → ℕ → List ℤ
swept_cuts commalist scalars rows r side = cuts_of_all commalist scalars (get_or rows r []) (slice_index commalist side)

abbrev pub met : Expr → Row → OrFault (Option Row)
met c x = then_give (condition c x) (λ b. Ok (if b then Some x else None))

-- the rows have a heading with intervals at the positions, the boxes are theirs, and there is a row of the number
pub record AreBoxed (commalist : List ℕ) (rows : List Row) (boxes : List (Row × List (AnyPoint × AnyPoint))) (row : ℕ) : Type 0 where
  pub heading : Heading
  pub intervals : AreIntervals heading commalist
  pub fitting : All (λ x. IsTrue (fits_heading heading x)) rows
  pub same : map (row_numbers number) boxes ≡ map (boxed commalist) rows
  pub points : All (λ b. IsBox IsPointOf (types_at heading commalist) b.1) boxes
  pub below : row < length rows

-- the condition can be asked of a row at each place of its box: it is typed for the rows, and its cuts part what it gives
pub record CanSweep (commalist : List ℕ) (c : Expr) (rows : List Row) (boxes : List (Row × List (AnyPoint × AnyPoint))) (row : ℕ) : Type 0 where
  pub boxed : AreBoxed commalist rows boxes row
  pub typed : IsTyped boxed.heading c Truth
  pub sweepable : IsSweepable commalist c
