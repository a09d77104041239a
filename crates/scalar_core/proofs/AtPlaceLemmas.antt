-- The row at a place within its intervals has the row's heading: what is typed over the one is typed over the other.
use Rattle.std.specs.Prelude.{◌≡◌, ℕ, zero, suc, ℤ, ◌&&◌, int_le, IsTrue, List, [], ◌∷◌, Some, slice_get, unwrap_or, false, true, refl}
use Rattle.std.proofs.Common.{sym, ap, subst, arith}
use Rattle.std.proofs.lemmas.Int.{ints}
use Rattle.std.proofs.lemmas.Bool.{and_from}
use Rattle.base_core.proofs.BoolLemmas.{and_left, and_right}
use Rattle.base_core.proofs.IntLemmas.{le-int_le, le_itself}
use Rattle.point_core.specs.declared.any_type.AnyType.{AnyType}
use Rattle.point_core.specs.Points.{is_number, line_of}
use Rattle.interval_core.specs.Members.{at_point}
use Rattle.value_core.specs.declared.kind.Kind.{Kind}
use Rattle.value_core.specs.declared.kind.Kind.TheVariants.{Truth, Char, Point, Span as SpanOf}
use Rattle.value_core.specs.Attributes.{with_span, put_span, span_of, value_at}
use Rattle.value_core.specs.Values.{Value, truth, text, point, interval, Row, Name, Heading, fits, fits_heading, is_interval, same_line}
use Rattle.value_core.proofs.FitLemmas.{is_number-number}
use Rattle.scalar_core.specs.AtPlaces.{at_place, IsWithin, AreWithin}
use Rattle.scalar_core.proofs.KindLemmas.{fits_heading-get, span_of-fits, begin-number, end-number}
use Rattle.scalar_core.proofs.PointLemmas.{number-is_number}

pub point-fits_as : (kind : Kind) (v : Value) (p : ℤ) → IsTrue (fits kind v) → ((t : AnyType) → kind ≡ SpanOf t → is_number t p ≡ true) → IsTrue (fits kind (with_span v (at_point p)))
point-fits_as kind (truth b) p h n = h
point-fits_as kind (text bytes) p h n = h
point-fits_as kind (point l q) p h n = h
point-fits_as Truth (interval l i) p h n = absurd cc
point-fits_as Char (interval l i) p h n = absurd cc
point-fits_as (Point t) (interval l i) p h n = absurd cc
point-fits_as (SpanOf t) (interval l i) p h n =
    and_from (same_line l (line_of t)) (is_interval t (at_point p)) (and_left (same_line l (line_of t)) (is_interval t i) h)
    (and_from (is_number t p) (is_number t p && int_le p p) (n t refl) (and_from (is_number t p) (int_le p p) (n t refl) (le-int_le p p (le_itself p))))

-- the number is one of the type that the heading has at the position
abbrev pub IsNumberAt : Heading → ℕ → ℤ → Type 0
IsNumberAt heading a p = (name : Name) (t : AnyType) → slice_get heading a ≡ Some (name, SpanOf t) → is_number t p ≡ true

pub put_span-fits : (heading : Heading) (row : Row) (a : ℕ) (p : ℤ) → IsTrue (fits_heading heading row) → IsNumberAt heading a p → IsTrue (fits_heading heading (put_span row a (at_point p)))
put_span-fits [] [] a p h n = h
put_span-fits [] (v ∷ vs) a p h n = absurd cc
put_span-fits (b ∷ rest) [] a p h n = absurd cc
put_span-fits (b ∷ rest) (v ∷ vs) zero p h n =
    and_from (fits b.1 (with_span v (at_point p))) (fits_heading rest vs)
    (point-fits_as b.1 v p (and_left (fits b.1 v) (fits_heading rest vs) h) (λ t e. n b.0 t (ap (λ (k : Kind). Some (b.0, k)) e)))
    (and_right (fits b.1 v) (fits_heading rest vs) h)
put_span-fits (b ∷ rest) (v ∷ vs) (suc a) p h n =
    and_from (fits b.1 v) (fits_heading rest (put_span vs a (at_point p))) (and_left (fits b.1 v) (fits_heading rest vs) h)
    (put_span-fits rest vs a p (and_right (fits b.1 v) (fits_heading rest vs) h) n)

pub within-number : (heading : Heading) (row : Row) (a : ℕ) (p : ℤ) → IsTrue (fits_heading heading row) → IsWithin (span_of (value_at row a)) p → IsNumberAt heading a p
within-number heading row a p h within name t e =
    let found = fits_heading-get heading row a name (SpanOf t) h e in
    let got : value_at row a ≡ found.0 = ap (λ o. unwrap_or o (truth false)) found.1 in
    let whole : is_interval t (span_of (value_at row a)) ≡ true = span_of-fits t (value_at row a) (subst (λ v. IsTrue (fits (SpanOf t) v)) (sym got) found.2) in
    let low = (is_number-number t (span_of (value_at row a)).0 (begin-number t (span_of (value_at row a)) whole)).0 in
    let high = (is_number-number t (span_of (value_at row a)).1 (end-number t (span_of (value_at row a)) whole)).1 in
    number-is_number t p (omega (arith, ints, within.0), omega (arith, ints, within.1))

pub at_place-fits : (heading : Heading) (row x : Row) (commalist : List ℕ) (ps : List ℤ) → IsTrue (fits_heading heading row) → IsTrue (fits_heading heading x) → AreWithin row commalist ps →
    IsTrue (fits_heading heading (at_place commalist ps x))
at_place-fits heading row x [] ps h g within = g
at_place-fits heading row x (a ∷ commalist) [] h g within = absurd within
at_place-fits heading row x (a ∷ commalist) (p ∷ ps) h g within =
    at_place-fits heading row (put_span x a (at_point p)) commalist ps h (put_span-fits heading x a p g (within-number heading row a p h within.0)) within.1
