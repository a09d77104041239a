-- A row at one point of each listed attribute, and what is the same at several places.
--     at_place commalist ps row      the row with the attribute at each listed position set to its point alone
--     AreBeside      two places with no cut between them, on each listed attribute
--     AreWithin      a place within the intervals of the row
--     IsSteady      the value of an expression is the same between neighbouring cuts of one attribute
use Rattle.std.specs.Prelude.{◌≡◌, ℕ, ℤ, ◌≤ℤ◌, List, [], ◌∷◌, length, set, IsTrue, slice_index}
use Rattle.point_core.specs.declared.any_type.AnyType.{AnyType}
use Rattle.interval_core.specs.Members.{Span, at_point}
use Rattle.value_core.specs.declared.kind.Kind.TheVariants.{Span as SpanOf}
use Rattle.value_core.specs.Attributes.{value_at, span_of, put_span}
use Rattle.value_core.specs.Values.{Row, fits}
use Rattle.scalar_core.specs.Expressions.{Expr}
use Rattle.scalar_core.specs.ScalarValues.{value}
use Rattle.scalar_core.specs.Cuts.{IsBeside}

-- the row has an interval at the position
abbrev pub HasSpanAt : Row → ℕ → Type 0
HasSpanAt row i = (t : AnyType) × IsTrue (fits (SpanOf t) (value_at row i))

-- a place has a point for each listed attribute
abbrev pub at_place : List ℕ → List ℤ → Row → Row
at_place (a ∷ commalist) (p ∷ ps) row = at_place commalist ps (put_span row a (at_point p))
at_place _ _ row = row

-- ---- the same at several places

-- on each listed attribute the two places have a point, with no cut of the attribute between the two
abbrev pub AreBeside : (ℕ → List ℤ) → List ℕ → List ℤ → List ℤ → Type 0
AreBeside cuts [] ps qs = Unit {0}
AreBeside cuts (a ∷ commalist) (p ∷ ps) (q ∷ qs) = IsBeside (cuts a) p q × AreBeside cuts commalist ps qs
AreBeside cuts (a ∷ commalist) _ _ = ⊥

-- a number is that of a point of the interval; each point of a place is one of its attribute's interval
abbrev pub IsWithin : Span → ℤ → Type 0
IsWithin i p = (i.0 ≤ℤ p) × (p ≤ℤ i.1)

abbrev pub AreWithin : Row → List ℕ → List ℤ → Type 0
AreWithin row [] ps = Unit {0}
AreWithin row (a ∷ commalist) (p ∷ ps) = IsWithin (span_of (value_at row a)) p × AreWithin row commalist ps
AreWithin row (a ∷ commalist) [] = ⊥

-- whatever the points of the other listed attributes are, the value is the same at any two points of the interval at this side that
-- have none of these cuts between them
abbrev pub IsSteady : Expr → Row → List ℕ → ℕ → List ℤ → Type 0
IsSteady e row commalist side cs =
    (ps : List ℤ) (p q : ℤ) → length ps ≡ length commalist → IsWithin (span_of (value_at row (slice_index commalist side))) p → IsWithin (span_of (value_at row (slice_index commalist side))) q →
    IsBeside cs p q → value e (at_place commalist (set ps side p) row) ≡ value e (at_place commalist (set ps side q) row)
