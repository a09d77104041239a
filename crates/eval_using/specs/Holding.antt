-- A condition at the points of an interval of a row.
--     at_number at row p      the row with a point alone in place of its interval
--     InSpans is p      a number of one of the intervals
--     HoldsIn, FailsIn      what the condition gives at the first points of some parts of the interval
--     CanAsk, IsPart      a condition that can be asked, and an interval of the attribute at whose first point it can be
use Rattle.std.specs.Prelude.{◌≡◌, ◌⊎◌, ℕ, ℤ, true, List, [], ◌∷◌, Ok, Err, IsTrue}
use Rattle.point_core.specs.Points.{number, IsPointOf}
use Rattle.point_core.specs.declared.any_type.AnyPoint.{AnyPoint}
use Rattle.point_core.specs.declared.fault.Fault.{Fault}
use Rattle.interval_core.specs.Members.{Span, at_point, HasEndsIn}
use Rattle.cell_packing.specs.Covering.{Among}
use Rattle.value_core.specs.declared.kind.Kind.TheVariants.{Truth}
use Rattle.value_core.specs.Attributes.{value_at, span_of, put_span}
use Rattle.value_core.specs.Values.{Row, Heading, fits_heading}
use Rattle.scalar_core.specs.AtPlaces.{IsWithin}
use Rattle.scalar_core.specs.Expressions.{Expr}
use Rattle.scalar_core.specs.Kinds.{IsTyped}
use Rattle.scalar_core.specs.Sweeping.{IsSweepable}
use Rattle.relation_core.specs.Parts.{kind_at}
use Rattle.u_set.specs.Boxes.{AreIntervals, type_of}
use Rattle.meaning_core.specs.Meanings.{condition}

abbrev pub at_number : ℕ → Row → ℤ → Row
at_number at row p = put_span row at (at_point p)

abbrev pub InSpans : List Span → ℤ → Type 0
InSpans [] p = ⊥
InSpans (i ∷ is) p = IsWithin i p ⊎ InSpans is p

-- the number is one of a part at whose first point the condition holds
abbrev pub HoldsIn : Expr → ℕ → Row → List Span → ℤ → Type 0
HoldsIn c at row parts p = (i : Span) × Among i parts × IsWithin i p × (condition c (at_number at row i.0) ≡ Ok true)

-- the condition has the fault at the first point of a part
abbrev pub FailsIn : Expr → ℕ → Row → List Span → Fault → Type 0
FailsIn c at row parts e = (i : Span) × Among i parts × (condition c (at_number at row i.0) ≡ Err e)

-- the condition can be asked of the row at each point of its interval at the position
pub record CanAsk (heading : Heading) (at : ℕ) (c : Expr) (row : Row) : Type 0 where
  pub intervals : AreIntervals heading (at ∷ [])
  pub typed : IsTyped heading c Truth
  pub sweepable : IsSweepable (at ∷ []) c
  pub fits : IsTrue (fits_heading heading row)

-- the interval has its ends in the attribute's type, and begins within the row's interval
pub record IsPart (heading : Heading) (at : ℕ) (row : Row) (i : AnyPoint × AnyPoint) : Type 0 where
  pub points : HasEndsIn IsPointOf (type_of (kind_at heading at)) i
  pub first : IsWithin (span_of (value_at row at)) (number i.0)
