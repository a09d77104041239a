-- Rows as labelled boxes, and back: the intervals at some positions are the sides of a box, in the order of these positions, and the
-- other values, in the order of the heading, its label.
--     boxed, unboxed      the box of a row, and the row of a box
--     IsShaped      a row with intervals at the positions, and values of their kinds elsewhere
use Rattle.std.specs.Prelude.{◌≡◌, ℕ, suc, Bool, true, false, List, [], ◌∷◌, map, drop, length, get_or, slice_index_or, nat_eq, IsTrue, if◌then◌else◌}
use Rattle.point_core.specs.declared.any_type.AnyType.{AnyType}
use Rattle.point_core.specs.Points.{line_of}
use Rattle.interval_core.specs.Members.{Span}
use Rattle.value_core.specs.Attributes.{value_at, span_of, among}
use Rattle.value_core.specs.Values.{Row, Heading, truth, interval, fits_heading}
pub use Rattle.relation_core.specs.Intervals.{AreIntervals, type_of}
use Rattle.relation_core.specs.Parts.{kind_at}
use Rattle.cell_packing.specs.Boxed.{Boxed}
use Rattle.cell_packing.specs.Packed.{nowhere}

-- ---- positions

-- the place of a position in the list
abbrev pub place_of : List ℕ → ℕ → ℕ
place_of [] i = 0
place_of (j ∷ commalist) i = if nat_eq i j then 0 else suc (place_of commalist i)

abbrev pub types_at : Heading → List ℕ → List AnyType
types_at heading commalist = map (λ i. type_of (kind_at heading i)) commalist

-- ---- the box of a row

-- x before the rest, unless it is left out
abbrev pub unless : {X : Type 0} → Bool → X → List X → List X
unless true x rest = rest
unless false x rest = x ∷ rest

-- what stands at none of the positions; the first of the list stands at n
abbrev pub others_from : {X : Type 0} → ℕ → List ℕ → List X → List X
others_from n commalist [] = []
others_from n commalist (x ∷ xs) = unless (among commalist n) x (others_from (suc n) commalist xs)

abbrev pub others : {X : Type 0} → List ℕ → List X → List X
others commalist xs = others_from 0 commalist xs

abbrev pub spans_at : List ℕ → Row → List Span
spans_at commalist row = map (λ i. span_of (value_at row i)) commalist

abbrev pub boxed : List ℕ → Row → Boxed Row
boxed commalist row = (others commalist row, spans_at commalist row)

-- ---- the row of a box

-- the values of the attributes, of which the first stands at n: intervals at the positions, and the values of the label elsewhere
abbrev pub unboxed_from : ℕ → List ℕ → Heading → Row → List Span → Row
unboxed_from n commalist [] label spans = []
unboxed_from n commalist (a ∷ rest) label spans =
    (if among commalist n then interval (line_of (type_of a.1)) (get_or spans (place_of commalist n) nowhere) else slice_index_or label 0 (truth false))
    ∷ unboxed_from (suc n) commalist rest (if among commalist n then label else drop 1 label) spans

abbrev pub unboxed : Heading → List ℕ → Boxed Row → Row
unboxed heading commalist x = unboxed_from 0 commalist heading x.0 x.1

-- the row has an interval on the attribute's line at each of the positions, and a value of its kind for each other attribute. So it
-- may have intervals that leave their types, as packing asks for
pub record IsShaped (heading : Heading) (commalist : List ℕ) (row : Row) : Type 0 where
  pub long : length row ≡ length heading
  pub spans : (i : ℕ) → IsTrue (among commalist i) → value_at row i ≡ interval (line_of (type_of (kind_at heading i))) (span_of (value_at row i))
  pub label : IsTrue (fits_heading (others commalist heading) (others commalist row))
