-- A row with some interval at one position, and then with another one.
use Rattle.std.proofs.Common.{◌≡◌, ℕ, ◌<◌, ◌+◌, false, List, [], ◌∷◌, ◌++◌, map, set, length, get_or, refl, sym, ap, ◌∙◌, subst, arith}
use Rattle.std.specs.Bool.{IsTrue}
use Rattle.std.specs.List.{All}
use Rattle.std.proofs.lemmas.List.{set-set, set-get_or, length-set, length-append, get_or_append_left, get_or-append-add, append_assoc, map-append}
use Rattle.point_core.specs.Points.{Line, line, IsPointOf}
use Rattle.point_core.specs.declared.any_type.AnyPoint.{AnyPoint}
use Rattle.interval_core.specs.Members.{Span}
use Rattle.value_core.specs.Attributes.{value_at, span_of, with_span, put_span}
use Rattle.value_core.specs.Values.{Value, Row, Heading, truth, text, point, interval, fits_heading}
use Rattle.scalar_core.proofs.SweepLemmas.{span_there}
use Rattle.relation_core.specs.Parts.{kind_at}
use Rattle.u_set.specs.Boxes.{AreIntervals, type_of}
use Rattle.u_set.proofs.BoxLemmas.{value_at-get}
use Rattle.eval_using.specs.Moved.{IsMoved}
use Rattle.eval_using.specs.PlaceRows.{line_kept}
use Rattle.eval_using.proofs.InPlaceLemmas.{row_within, row_line}

span_again : (v : Value) (i j : Span) → with_span (with_span v i) j ≡ with_span v j
span_again (truth b) i j = refl
span_again (text bytes) i j = refl
span_again (point l p) i j = refl
span_again (interval l k) i j = refl

-- the row itself
pub moved_itself : (at : ℕ) (row : Row) (l : Line) → value_at row at ≡ interval l (span_of (value_at row at)) → IsMoved at row row
moved_itself at row l is =
    let own : Span = span_of (value_at row at) in
    let same : with_span (value_at row at) own ≡ value_at row at = ap (λ v. with_span v own) is ∙ sym is in
    (own, sym (ap (set row at) (same ∙ value_at-get row at) ∙ set-get_or row at (truth false)))

-- the same interval in place of either
pub moved_put : (at : ℕ) (row x : Row) → IsMoved at row x → (s : Span) → put_span x at s ≡ put_span row at s
moved_put at row x m s =
    let first : Value = with_span (value_at row at) m.0 in
    ap (λ (y : Row). put_span y at s) m.1
    ∙ ap (λ v. set (put_span row at m.0) at (with_span v s)) (span_there row at m.0)
    ∙ ap (λ v. set (put_span row at m.0) at v) (span_again (value_at row at) m.0 s)
    ∙ set-set row at first (with_span (value_at row at) s)

module _ (heading : Heading) (at : ℕ) (row x : Row) (m : IsMoved at row x) (intervals : AreIntervals heading (at ∷ [])) (fit : IsTrue (fits_heading heading row)) where
  pub moved_within : at < length x
  moved_within =
      let l = row_within heading at row intervals fit in
      let e : length x ≡ length row = ap length m.1 ∙ length-set row at (with_span (value_at row at) m.0) in
      omega (arith, l, e)

  pub moved_line : (p : AnyPoint) → IsPointOf (type_of (kind_at heading at)) p → value_at x at ≡ interval (line p) (span_of (value_at x at))
  moved_line p h = subst (λ (y : Row). value_at y at ≡ interval (line p) (span_of (value_at y at))) (sym m.1) (line_kept row at at m.0 (line p) (row_line heading at row intervals fit p h))

-- ---- all intervals of a list but the last, and this one

module _ {A : Type 0} (Q : A → Type 0) (all others : List A) (last : A) (e : all ≡ others ++ last ∷ []) (h : All Q all) where
  count : length all ≡ length others + 1
  count = ap length e ∙ length-append others (last ∷ [])

  pub all_before : All Q others
  all_before = λ i d l.
      let n = count in
      subst Q (ap (λ (xs : List A). get_or xs i d) e ∙ get_or_append_left others (last ∷ []) d i l) (h i d (omega (arith, l, n)))

  pub last_one : Q last
  last_one =
      let n = count in
      let k : length others ≡ length others + 0 = omega arith in
      let is : get_or all (length others) last ≡ last = ap (λ (xs : List A). get_or xs (length others) last) e ∙ ap (λ j. get_or (others ++ last ∷ []) j last) k ∙ get_or-append-add others (last ∷ []) 0 last in
      subst Q is (h (length others) last (omega (arith, n)))

pub last_more : {A : Type 0} (f : A → Row) (all others : List A) (last : A) (old out new : List Row) (x : Row) → all ≡ others ++ last ∷ [] → out ≡ old ++ map f others → new ≡ out ++ x ∷ [] → x ≡ f last
    → new ≡ old ++ map f all
last_more f all others last old out new x e before push is =
    push ∙ (λ t. before t ++ is t ∷ []) ∙ append_assoc old (map f others) (f last ∷ []) ∙ ap (λ ys. old ++ ys) (sym (map-append f others (last ∷ [])) ∙ sym (ap (map f) e))
