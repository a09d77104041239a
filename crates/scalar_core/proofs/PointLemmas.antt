-- What it means that a point or an interval fits its type: its points are of the type, and stand on one line.
use Rattle.std.specs.Prelude.{◌≡◌, ℤ, pos, Bool, true, false, ◌&&◌, IsTrue, int_le, refl, if◌then◌else◌}
use Rattle.std.proofs.Common.{sym, ◌∙◌, ap, arith}
use Rattle.std.specs.Ordering.{is_eq}
use Rattle.std.specs.Cmp.{IsTotalOrder, int_cmp_total, on_total, tied_itself}
use Rattle.std.specs.Cmp.Lexicographic.{lists_total}
use Rattle.std.proofs.lemmas.Bool.{and_from, false≢true}
use Rattle.std.proofs.lemmas.Int.{ints}
use Rattle.base_core.proofs.BoolLemmas.{and_left, and_right}
use Rattle.base_core.proofs.IntLemmas.{le-int_le}
use Rattle.point_core.specs.declared.any_type.AnyType.{AnyType}
use Rattle.point_core.specs.declared.any_type.AnyPoint.{AnyPoint}
use Rattle.point_core.specs.Points.{Line, line_of, line, number, is_number, first_of, last_of, IsNumber, IsPointOf}
use Rattle.point_core.specs.declared.any_type.AnyType.TheVariants.{Integer, Date, Ordinal, Moment}
use Rattle.interval_core.specs.Members.{span}
use Rattle.value_core.specs.declared.kind.Kind.TheVariants.{Span}
use Rattle.value_core.specs.Values.{interval, fits, is_interval, same_line, line_key, line_cmp}
use Rattle.value_core.specs.Plain.{ends}
use Rattle.value_core.proofs.FitLemmas.{same_line-same, is_number-number}

line_total : IsTotalOrder line_cmp
line_total = on_total line_key (lists_total int_cmp_total)

pub same_line-self : (l : Line) → same_line l l ≡ true
same_line-self l = ap is_eq (tied_itself line_total l)

pub number-is_number : (t : AnyType) (n : ℤ) → IsNumber t n → is_number t n ≡ true
number-is_number t n h = and_from (int_le (first_of t) n) (int_le n (last_of t)) (le-int_le (first_of t) n h.0) (le-int_le n (last_of t) h.1)

-- an interval of points of the type
span-fits_at : (t : AnyType) (i : AnyPoint × AnyPoint) (b : Bool) → same_line (line i.0) (line i.1) ≡ b →
    (same_line (line i.0) (line_of t) && is_interval t (if b then (number i.0, number i.1) else (pos 1, pos 0))) ≡ true →
    IsPointOf t i.0 × IsPointOf t i.1 × ((if b then (number i.0, number i.1) else (pos 1, pos 0)) ≡ span number i)
span-fits_at t i true e h =
    let begins : line i.0 ≡ line_of t = same_line-same (line i.0) (line_of t) (and_left _ _ h) in
    let inside : is_interval t (number i.0, number i.1) ≡ true = and_right _ _ h in
    let rest : (is_number t (number i.1) && int_le (number i.0) (number i.1)) ≡ true = and_right _ _ inside in (
      (begins, is_number-number t (number i.0) (and_left _ _ inside)),
      (sym (same_line-same (line i.0) (line i.1) e) ∙ begins, is_number-number t (number i.1) (and_left _ _ rest)),
      refl,
    )
span-fits_at t i false e h =
    let inside : is_interval t (pos 1, pos 0) ≡ true = and_right _ _ h in
    let rest : (is_number t (pos 0) && false) ≡ true = and_right _ _ inside in
    absurd (false≢true (and_right (is_number t (pos 0)) false rest))

pub span-fits : (t : AnyType) (i : AnyPoint × AnyPoint) → IsTrue (fits (Span t) (interval (line i.0) (ends i))) →
    IsPointOf t i.0 × IsPointOf t i.1 × (ends i ≡ span number i)
span-fits t i h = span-fits_at t i (same_line (line i.0) (line i.1)) refl h

-- ---- the other way

ends_at : (i : AnyPoint × AnyPoint) (b : Bool) → b ≡ true → (if b then (number i.0, number i.1) else (pos 1, pos 0)) ≡ span number i
ends_at i true e = refl
ends_at i false e = absurd (false≢true e)

pub last-number : (t : AnyType) → IsNumber t (last_of t)
last-number Integer = (omega (arith, ints), omega (arith, ints))
last-number Date = (omega (arith, ints), omega (arith, ints))
last-number (Ordinal of last) = (omega (arith, ints), omega (arith, ints))
last-number Moment = (omega (arith, ints), omega (arith, ints))
