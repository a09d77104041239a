-- Rows with intervals beside those of others.
--     are_beside      whether two intervals have a point in common or one follows the other
--     LiesWithin      whether the interval of a row lies within a span
--     beside_with_keys      the rows beside a span with one of some keys
--     AreBeside      what holds of rows that are found
use Rattle.std.specs.Prelude.{◌≡◌, ℕ, pos, ◌+ℤ◌, ◌≤ℤ◌, int_le, Bool, ◌&&◌, List, filter, IsTrue}
use Rattle.base_core.specs.Sets.{has}
use Rattle.cell_packing.specs.Covering.{Among}
use Rattle.interval_core.specs.Members.{Span}
use Rattle.value_core.specs.Values.{Row, row_cmp}
use Rattle.relation_core.specs.Agreement.{part_of}
use Rattle.u_set.specs.Apart.{span_in}

-- neither begins later than directly after the end of the other
abbrev pub are_beside : Span → Span → Bool
are_beside i j = int_le i.0 (j.1 +ℤ pos 1) && int_le j.0 (i.1 +ℤ pos 1)

-- the interval of the row at the position lies within the span
abbrev pub LiesWithin : ℕ → Span → Row → Type 0
LiesWithin at hull x = (hull.0 ≤ℤ (span_in at x).0) × ((span_in at x).1 ≤ℤ hull.1)

-- the rows with an interval beside the hull whose values at the positions are one of the keys
abbrev pub beside_with_keys : List ℕ → ℕ → Span → List Row → List Row → List Row
beside_with_keys positions at hull keys rows = filter (λ x. are_beside (span_in at x) hull && has row_cmp keys (part_of positions x)) rows

-- rows of many, and among them each that has the values of a row of few at the positions, and an interval beside its
pub record AreBeside (positions : List ℕ) (at : ℕ) (few many found : List Row) : Type 0 where
  pub within : (x : Row) → Among x found → Among x many
  pub each : (x y : Row) → Among x many → Among y few → part_of positions x ≡ part_of positions y → IsTrue (are_beside (span_in at x) (span_in at y)) → Among x found
