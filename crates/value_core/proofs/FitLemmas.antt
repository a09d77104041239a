-- Values that fit a kind of points or intervals have their points in the type.
use Rattle.std.proofs.Common.{◌≡◌, ℤ, pos, Bool, true, false, ◌&&◌, refl, ap, sym, ◌∙◌, if◌then◌else◌, ℕ, zero, suc, ◌<◌, [], ◌∷◌, length, get_or, arith}
use Rattle.std.specs.Prelude.{unsigned_abs, int_le}
use Rattle.std.specs.Ordering.{is_eq, int_cmp}
use Rattle.std.specs.Cmp.{signed_Decides}
use Rattle.std.specs.Bool.{IsTrue}
use Rattle.std.proofs.lemmas.Bool.{and_parts, true≢false}
use Rattle.base_core.proofs.IntLemmas.{int_le-le}
use Rattle.base_core.proofs.OrderingLemmas.{then-Equal}
use Rattle.point_core.specs.Points.{Line, integers, days, values_of, seconds, line_of, is_number, IsNumber, first_of, last_of}
use Rattle.point_core.specs.declared.any_type.AnyType.{AnyType}
use Rattle.value_core.specs.Values.{fits, same_line, is_interval, point, interval, Name, Value, Row, Heading, fits_heading, Value as PlainValue, truth, text}
use Rattle.value_core.specs.declared.kind.Kind.TheVariants.{Span as SpanOf}
use Rattle.value_core.specs.declared.kind.Kind.{Kind}
use Rattle.value_core.specs.Attributes.{span_of}

pub same_line-same : (l m : Line) → same_line l m ≡ true → l ≡ m
same_line-same integers integers e = refl
same_line-same integers seconds e = cc
same_line-same days seconds e = cc
same_line-same (values_of m) seconds e = cc
same_line-same seconds integers e = cc
same_line-same seconds days e = cc
same_line-same seconds (values_of n) e = cc
same_line-same seconds seconds e = refl
same_line-same integers days e = cc
same_line-same integers (values_of n) e = cc
same_line-same days integers e = cc
same_line-same days days e = refl
same_line-same days (values_of n) e = cc
same_line-same (values_of m) integers e = cc
same_line-same (values_of m) days e = cc
same_line-same (values_of m) (values_of n) e =
    let equal : is_eq (int_cmp (pos m) (pos n)) ≡ true = sym (ap is_eq (then-Equal (int_cmp (pos m) (pos n)))) ∙ e in
    ap (λ z. values_of (unsigned_abs z)) ((signed_Decides (pos m) (pos n)).0 equal)

pub is_number-number : (t : AnyType) (n : ℤ) → is_number t n ≡ true → IsNumber t n
is_number-number t n e =
    let parts = and_parts (int_le (first_of t) n) (int_le n (last_of t)) e in
    (int_le-le (first_of t) n parts.0, int_le-le n (last_of t) parts.1)

one_line : (t : AnyType) (b e : ℤ) (same : Bool) → is_interval t (if same then (b, e) else (pos 1, pos 0)) ≡ true → (same ≡ true) × (is_interval t (b, e) ≡ true)
one_line t b e true h = (refl, h)
one_line t b e false h =
    let outer = and_parts (is_number t (pos 1)) (is_number t (pos 0) && false) h in
    let inner = and_parts (is_number t (pos 0)) false outer.1 in
    cc

pub fits_at : (h : Heading) (row : Row) (i : ℕ) (e : Name × Kind) (d : Value) → IsTrue (fits_heading h row) → i < length h → IsTrue (fits (get_or h i e).1 (get_or row i d))
fits_at [] row i e d f l = absurd (omega arith)
fits_at (a ∷ h) [] i e d f l = absurd (true≢false (sym f))
fits_at (a ∷ h) (v ∷ row) zero e d f l = (and_parts (fits a.1 v) (fits_heading h row) f).0
fits_at (a ∷ h) (v ∷ row) (suc i) e d f l = fits_at h row i e d (and_parts (fits a.1 v) (fits_heading h row) f).1 (omega arith)

pub interval_that_fits : (t : AnyType) (v : PlainValue) → IsTrue (fits (SpanOf t) v) → v ≡ interval (line_of t) (span_of v)
interval_that_fits t (truth b) h = absurd cc
interval_that_fits t (text bytes) h = absurd cc
interval_that_fits t (point l p) h = absurd cc
interval_that_fits t (interval l i) h = ap (λ m. interval m i) (same_line-same l (line_of t) (and_parts (same_line l (line_of t)) (is_interval t i) h).0)
