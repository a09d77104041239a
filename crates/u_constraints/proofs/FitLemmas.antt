-- The values of a relation's rows fit the kinds of its attributes.
use Rattle.std.proofs.Common.{◌≡◌, ℕ, ◌<◌, ◌≤ℤ◌, List, length, get_or, sym, ◌∙◌, subst, arith, false, ◌&&◌}
use Rattle.std.specs.Prelude.{int_le}
use Rattle.std.specs.Bool.{IsTrue}
use Rattle.std.specs.List.{list_all}
use Rattle.std.proofs.lemmas.Bool.{true≢false, and_parts}
use Rattle.std.proofs.lemmas.Int.{ints}
use Rattle.base_core.proofs.IntLemmas.{int_le-le}
use Rattle.point_core.specs.Points.{first_of, last_of, line_of, is_number}
use Rattle.point_core.specs.Whole.{least_whole}
use Rattle.point_core.specs.declared.any_type.AnyType.{AnyType}
use Rattle.point_core.specs.declared.any_type.AnyType.TheVariants.{Integer, Date, Ordinal, Moment}
use Rattle.value_core.specs.Attributes.{value_at, span_of}
use Rattle.value_core.specs.Values.{Value, truth, text, point, interval, Row, Heading, Relation, IsRelation, fits, fits_heading, same_line, is_interval}
use Rattle.value_core.specs.declared.kind.Kind.{Kind}
use Rattle.value_core.specs.declared.kind.Kind.TheVariants.{Span as SpanOf}
use Rattle.value_core.proofs.FitLemmas.{fits_at}
use Rattle.relation_core.specs.Parts.{kind_at, no_attribute}
use Rattle.relation_core.proofs.FilterLemmas.{passes_at}
use Rattle.u_set.proofs.BoxLemmas.{value_at-get}

pub row_fits : (r : Relation) (rows : List Row) (i : ℕ) (x : Row) → IsRelation r → rows ≡ r.rows → i < length rows → x ≡ get_or rows i x → IsTrue (fits_heading r.heading x)
row_fits r rows i x is same l at =
    let all : IsTrue (list_all (fits_heading r.heading) rows) = subst (λ (zs : List Row). IsTrue (list_all (fits_heading r.heading) zs)) (sym same) is.fitting in
    subst (λ (z : Row). IsTrue (fits_heading r.heading z)) (sym at) (passes_at (fits_heading r.heading) rows i x all l)

-- the value at a position is of the kind of the attribute there
pub value_fits : (h : Heading) (row : Row) (i : ℕ) (kind : Kind) → IsTrue (fits_heading h row) → i < length h → kind_at h i ≡ kind → IsTrue (fits kind (value_at row i))
value_fits h row i kind f l is =
    let here : IsTrue (fits (kind_at h i) (get_or row i (truth false))) = fits_at h row i no_attribute (truth false) f l in
    (λ t. fits (sym is t) (value_at-get row i t)) ∙ here

-- ---- intervals

first_is_whole : (t : AnyType) → least_whole ≤ℤ first_of t
first_is_whole Integer = omega (arith, ints)
first_is_whole Date = omega (arith, ints)
first_is_whole (Ordinal of last) = omega (arith, ints)
first_is_whole Moment = omega (arith, ints)

-- an interval ends no earlier than it begins, at a whole number
pub span_that_fits : (t : AnyType) (v : Value) → IsTrue (fits (SpanOf t) v) → ((span_of v).0 ≤ℤ (span_of v).1) × (least_whole ≤ℤ (span_of v).1)
span_that_fits t (truth b) h = absurd (true≢false (sym h))
span_that_fits t (text bytes) h = absurd (true≢false (sym h))
span_that_fits t (point l p) h = absurd (true≢false (sym h))
span_that_fits t (interval l i) h =
    let ends = (and_parts (same_line l (line_of t)) (is_interval t i) h).1 in
    let last = and_parts (is_number t i.0) (is_number t i.1 && int_le i.0 i.1) ends in
    let both = and_parts (is_number t i.1) (int_le i.0 i.1) last.1 in
    let first = int_le-le (first_of t) i.1 (and_parts (int_le (first_of t) i.1) (int_le i.1 (last_of t)) both.0).0 in
    let whole = first_is_whole t in
    (int_le-le i.0 i.1 both.1, omega (arith, ints))
