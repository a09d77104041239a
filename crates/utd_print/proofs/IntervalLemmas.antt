-- The text of an interval, by its ends.
use Rattle.std.proofs.Common.{◌≡◌, Bool, true, false, ◌&&◌, pos, List, refl, ap, sym, if◌then◌else◌}
use Rattle.std.proofs.lemmas.Bool.{and_parts, true≢false}
use Rattle.point_core.specs.declared.any_type.AnyType.{AnyType}
use Rattle.point_core.specs.declared.any_type.AnyPoint.{AnyPoint}
use Rattle.point_core.specs.Points.{line, number, line_of, is_number}
use Rattle.value_core.specs.declared.list.OrdinalNames.{OrdinalNames}
use Rattle.value_core.specs.declared.kind.Kind.TheVariants.{Truth, Char, Point, Span as SpanOf}
use Rattle.value_core.specs.declared.value.Value.TheVariants.{Span}
use Rattle.value_core.specs.Values.{same_line, is_interval, interval}
use Rattle.value_core.specs.Plain.{plain, ends}
use Rattle.value_core.proofs.FitLemmas.{same_line-same}
use Rattle.utd_print.specs.Tables.{point_text, interval_text, value_text, HasKind}

by_test : (types : List OrdinalNames) (a b : AnyPoint) (t : AnyType) (same : Bool) → same_line (line a) (line b) ≡ same
    → is_interval t (if same then (number a, number b) else (pos 1, pos 0)) ≡ true
    → interval_text (point_text types (line a) (number a)) (point_text types (line b) (number b))
    ≡ value_text types (interval (line a) (if same then (number a, number b) else (pos 1, pos 0)))
by_test types a b t true e h =
    ap (λ l. interval_text (point_text types (line a) (number a)) (point_text types l (number b))) (sym (same_line-same (line a) (line b) e))
by_test types a b t false e h =
    let outer = and_parts (is_number t (pos 1)) (is_number t (pos 0) && false) h in
    let inner = and_parts (is_number t (pos 0)) false outer.1 in
    absurd (true≢false (sym inner.1))

-- an interval of some kind has ends on one line, so its text is that of its ends
pub text_by_ends : (types : List OrdinalNames) (i : AnyPoint × AnyPoint) → HasKind (plain (Span i))
    → interval_text (point_text types (line i.0) (number i.0)) (point_text types (line i.1) (number i.1)) ≡ value_text types (plain (Span i))
text_by_ends types i (Truth, h) = absurd (true≢false (sym h))
text_by_ends types i (Char, h) = absurd (true≢false (sym h))
text_by_ends types i (Point t, h) = absurd (true≢false (sym h))
text_by_ends types i (SpanOf t, h) =
    by_test types i.0 i.1 t (same_line (line i.0) (line i.1)) refl (and_parts (same_line (line i.0) (line_of t)) (is_interval t (ends i)) h).1
