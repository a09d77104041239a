-- The unpacked rows are the rows at each place of their listed intervals.
use Rattle.std.proofs.Common.{◌≡◌, ◌↔◌, inl, inr, ℕ, zero, suc, ◌+◌, ◌<◌, ◌||◌, ℤ, ◌≤ℤ◌, Bool, true, false, List, [], ◌∷◌, map, length, get_or, set, refl, sym, ap, ap₂, ◌∙◌, subst, arith}
use Rattle.std.specs.Prelude.{nat_eq, slice_index}
use Rattle.std.specs.Bool.{IsTrue}
use Rattle.std.specs.List.{AllByRecursion, IsDistinct}
use Rattle.std.proofs.lemmas.Bool.{cases_eq, eqb-false, eq-eqb}
use Rattle.std.proofs.lemmas.Int.{ints}
use Rattle.base_core.proofs.SetLemmas.{In}
use Rattle.point_core.specs.Points.{Line, line}
use Rattle.point_core.specs.declared.any_type.AnyPoint.{AnyPoint}
use Rattle.interval_core.specs.Members.{Span, members, at_point}
use Rattle.interval_core.proofs.MembersLemmas.{In-members}
use Rattle.value_core.specs.Attributes.{value_at, span_of, with_span, put_span, among}
use Rattle.value_core.specs.Order.{row_total, row_separates}
use Rattle.value_core.specs.RowPacking.{attribute, unpacked}
use Rattle.value_core.specs.Values.{Value, Row, interval, row_cmp}
use Rattle.scalar_core.specs.AtPlaces.{at_place, AreWithin}
use Rattle.scalar_core.proofs.SweepLemmas.{at_place-other, span_there}
use Rattle.cell_packing.specs.Packed.{Has}
use Rattle.u_set.specs.Boxes.{others, spans_at}
use Rattle.u_set.proofs.ImageLemmas.{In-unpack1}
use Rattle.u_set.proofs.BoxLemmas.{others-set}

-- ---- another interval at a position

set_elsewhere : (row : Row) (i k : ℕ) (v : Value) → (k ≡ i → ⊥) → value_at (set row i v) k ≡ value_at row k
set_elsewhere [] i k v other = refl
set_elsewhere (u ∷ row) zero zero v other = absurd (other refl)
set_elsewhere (u ∷ row) zero (suc k) v other = refl
set_elsewhere (u ∷ row) (suc i) zero v other = refl
set_elsewhere (u ∷ row) (suc i) (suc k) v other = set_elsewhere row i k v (λ e. other (ap suc e))

-- at none of the positions of the list
abbrev IsNone : ℕ → List ℕ → Type 0
IsNone a commalist = AllByRecursion (λ k. nat_eq a k ≡ false) commalist

put_elsewhere : (row : Row) (a k : ℕ) (s : Span) → nat_eq a k ≡ false → value_at (put_span row a s) k ≡ value_at row k
put_elsewhere row a k s n = set_elsewhere row a k (with_span (value_at row a) s) (λ e. eqb-false a k n (sym e))

spans_put : (commalist : List ℕ) (row : Row) (a : ℕ) (s : Span) → IsNone a commalist → spans_at commalist (put_span row a s) ≡ spans_at commalist row
spans_put [] row a s n = refl
spans_put (k ∷ commalist) row a s n = ap₂ (λ (i : Span) (is : List Span). i ∷ is) (ap span_of (put_elsewhere row a k s n.0)) (spans_put commalist row a s n.1)

not_among : (a : ℕ) (commalist : List ℕ) → IsNone a commalist → among commalist a ≡ false
not_among a [] n = refl
not_among a (k ∷ commalist) n = ap (λ b. b || among commalist a) n.0 ∙ not_among a commalist n.1

-- ---- the unpacked rows

-- each number of the place is one of the interval that the row has when those before it are put
abbrev Puts : List ℕ → Row → List ℤ → Type 0
Puts [] row [] = Unit {0}
Puts [] row (p ∷ ps) = ⊥
Puts (a ∷ commalist) row [] = ⊥
Puts (a ∷ commalist) row (p ∷ ps) = In p (members (span_of (value_at row a))) × Puts commalist (put_span row a (at_point p)) ps

abbrev unpack_one : ℕ → List Row → List Row
unpack_one a r = unpacked (a ∷ []) r

in_unpacked : (commalist : List ℕ) (r : List Row) (x : Row) → In x (unpacked commalist r) ↔ ((row : Row) × (place : List ℤ) × In row r × Puts commalist row place × (x ≡ at_place commalist place row))
in_unpacked [] r x = (λ i. (x, [], i, tt, refl), λ w. subst (λ z. In z r) (sym w.4) w.2)
in_unpacked (a ∷ commalist) r x =
    let ih = in_unpacked commalist (unpack_one a r) x in (
      λ i.
          let w = ih.0 i in
          let v = (In-unpack1 row_cmp row_total row_separates (attribute a) r w.0).0 w.2 in
          (v.0, v.1 ∷ w.1, v.2, (v.3, subst (λ z. Puts commalist z w.1) v.4 w.3), w.4 ∙ ap (at_place commalist w.1) v.4),
      λ w. go (λ row ps m h e. ih.1 (row, ps, m, h, e)) w.0 w.1 w.2 w.3 w.4,
    )
  where
    go : ((row : Row) (ps : List ℤ) → In row (unpack_one a r) → Puts commalist row ps → x ≡ at_place commalist ps row → In x (unpacked (a ∷ commalist) r))
        → (row : Row) (place : List ℤ) → In row r → Puts (a ∷ commalist) row place → x ≡ at_place (a ∷ commalist) place row → In x (unpacked (a ∷ commalist) r)
    go all row [] m h e = absurd h
    go all row (p ∷ ps) m h e =
        all (put_span row a (at_point p)) ps ((In-unpack1 row_cmp row_total row_separates (attribute a) r (put_span row a (at_point p))).1 (row, p, m, h.0, refl)) h.1 e

-- different positions: the place is one of the row's intervals
puts_has : (commalist : List ℕ) (row : Row) (place : List ℤ) → IsDistinct nat_eq commalist → Puts commalist row place ↔ Has (spans_at commalist row) place
unfolding IsDistinct
puts_has [] row [] d = (λ h. h, λ h. h)
puts_has [] row (p ∷ ps) d = (λ h. h, λ h. h)
puts_has (a ∷ commalist) row [] d = (λ h. h, λ h. h)
puts_has (a ∷ commalist) row (p ∷ ps) d =
    let i : Span = span_of (value_at row a) in
    let first = In-members i p in
    let rest = puts_has commalist (put_span row a (at_point p)) ps d.1 in
    let same = spans_put commalist row a (at_point p) d.0 in (
      λ h. let f = first.0 h.0 in (f.0, f.1, subst (λ (is : List Span). Has is ps) same (rest.0 h.1)),
      λ h. (first.1 (h.0, h.1), rest.1 (subst (λ (is : List Span). Has is ps) (sym same) h.2)),
    )

pub unpacked_grid_points : (commalist : List ℕ) → IsDistinct nat_eq commalist → (r : List Row) (x : Row)
    → In x (unpacked commalist r) ↔ ((row : Row) × (place : List ℤ) × In row r × Has (spans_at commalist row) place × (x ≡ at_place commalist place row))
unpacked_grid_points commalist d r x =
    let all = in_unpacked commalist r x in (
      λ i. let w = all.0 i in (w.0, w.1, w.2, (puts_has commalist w.0 w.1 d).0 w.3, w.4),
      λ w. all.1 (w.0, w.1, w.2, (puts_has commalist w.0 w.1 d).1 w.3, w.4),
    )

-- ---- what a row has at a place

-- an interval at each position of the list
abbrev pub HasSpans : List ℕ → Row → Type 0
HasSpans commalist row = AllByRecursion (λ a. (l : Line) × (value_at row a ≡ interval l (span_of (value_at row a)))) commalist

spans_kept : (commalist : List ℕ) (row : Row) (a : ℕ) (s : Span) → IsNone a commalist → HasSpans commalist row → HasSpans commalist (put_span row a s)
spans_kept [] row a s n h = tt
spans_kept (k ∷ commalist) row a s n h =
    (subst (λ v. (l : Line) × (v ≡ interval l (span_of v))) (sym (put_elsewhere row a k s n.0)) h.0, spans_kept commalist row a s n.1 h.1)

-- the points themselves
pub at_place_spans : (commalist : List ℕ) (row : Row) (place : List ℤ) → IsDistinct nat_eq commalist → HasSpans commalist row → Has (spans_at commalist row) place → spans_at commalist (at_place commalist place row) ≡ map at_point place
unfolding IsDistinct
at_place_spans [] row [] d h p = refl
at_place_spans [] row (q ∷ ps) d h p = absurd p
at_place_spans (a ∷ commalist) row [] d h p = absurd p
at_place_spans (a ∷ commalist) row (q ∷ ps) d h p =
    let next : Row = put_span row a (at_point q) in
    let same = spans_put commalist row a (at_point q) d.0 in
    let there : value_at (at_place commalist ps next) a ≡ with_span (value_at row a) (at_point q) = at_place-other commalist ps next a (not_among a commalist d.0) ∙ span_there row a (at_point q) in
    let one : span_of (value_at (at_place commalist ps next) a) ≡ at_point q = ap span_of there ∙ ap (λ v. span_of (with_span v (at_point q))) (h.0).1 in
    let rest = at_place_spans commalist next ps d.1 (spans_kept commalist row a (at_point q) d.0 h.1) (subst (λ (is : List Span). Has is ps) (sym same) p.2) in
    ap₂ (λ (i : Span) (is : List Span). i ∷ is) one rest

others_places : (all commalist : List ℕ) (place : List ℤ) (row : Row) → ((a : ℕ) → In a commalist → IsTrue (among all a)) → others all (at_place commalist place row) ≡ others all row
others_places all [] place row h = refl
others_places all (a ∷ commalist) [] row h = refl
others_places all (a ∷ commalist) (p ∷ ps) row h =
    let z : a ≡ 0 + a = omega arith in
    others_places all commalist ps (put_span row a (at_point p)) (λ k m. h k (inr m))
    ∙ others-set 0 all row a (with_span (value_at row a) (at_point p)) (subst (λ k. IsTrue (among all k)) z (h a (inl refl)))

pub among_itself : (commalist : List ℕ) (a : ℕ) → In a commalist → IsTrue (among commalist a)
among_itself [] a m = absurd m
among_itself (k ∷ commalist) a m = elim m [
  | inl e ↦ or_left (nat_eq a k) (among commalist a) (eq-eqb a k e)
  | inr n ↦ or_right (nat_eq a k) (among commalist a) (among_itself commalist a n)
]
  where
    or_left : (b c : Bool) → b ≡ true → IsTrue (b || c)
    or_left true c e = refl
    or_left false c e = absurd cc

    or_right : (b c : Bool) → IsTrue c → IsTrue (b || c)
    or_right true c e = refl
    or_right false c e = e

pub at_place_others : (commalist : List ℕ) (place : List ℤ) (row : Row) → others commalist (at_place commalist place row) ≡ others commalist row
at_place_others commalist place row = others_places commalist commalist place row (among_itself commalist)

-- ---- places of points

pub point_has : (ps qs : List ℤ) → Has (map at_point ps) qs ↔ (ps ≡ qs)
point_has [] [] = (λ h. refl, λ e. tt)
point_has [] (q ∷ qs) = (λ h. absurd h, λ e. absurd cc)
point_has (p ∷ ps) [] = (λ h. absurd h, λ e. absurd cc)
point_has (p ∷ ps) (q ∷ qs) =
    let ih = point_has ps qs in (
      λ h. let a = h.0 in let b = h.1 in let e : p ≡ q = omega (arith, ints) in ap₂ (λ (x : ℤ) (xs : List ℤ). x ∷ xs) e (ih.0 h.2),
      λ e. subst (λ zs. Has (map at_point (p ∷ ps)) zs) e (itself (p ∷ ps)),
    )
  where
    same : (n : ℤ) → n ≤ℤ n
    same n = omega (arith, ints)

    itself : (zs : List ℤ) → Has (map at_point zs) zs
    itself [] = tt
    itself (z ∷ zs) = (same z, same z, itself zs)

-- a place within the intervals
pub within_has : (commalist : List ℕ) (row : Row) (place : List ℤ) → Has (spans_at commalist row) place → AreWithin row commalist place
within_has [] row place h = tt
within_has (a ∷ commalist) row [] h = absurd h
within_has (a ∷ commalist) row (p ∷ ps) h = ((h.0, h.1), within_has commalist row ps h.2)

-- ---- values with lines

-- the value at each listed position is an interval on the line of the first point of that side
abbrev pub HaveLines : List ℕ → List (AnyPoint × AnyPoint) → Row → Type 0
HaveLines commalist at row =
    (j : ℕ) (d : AnyPoint × AnyPoint) → j < length commalist → value_at row (slice_index commalist j) ≡ interval (line (get_or at j d).0) (span_of (value_at row (slice_index commalist j)))

pub line_kept : (row : Row) (i k : ℕ) (s : Span) (l : Line) → value_at row k ≡ interval l (span_of (value_at row k)) → value_at (put_span row i s) k ≡ interval l (span_of (value_at (put_span row i s) k))
line_kept row i k s l h = elim (cases_eq k i) [
  | inl e ↦
      let here : value_at row i ≡ interval l (span_of (value_at row i)) = subst (λ m. value_at row m ≡ interval l (span_of (value_at row m))) e h in
      let new : value_at (put_span row i s) i ≡ interval l s = span_there row i s ∙ ap (λ v. with_span v s) here in
      subst (λ m. value_at (put_span row i s) m ≡ interval l (span_of (value_at (put_span row i s) m))) (sym e) (new ∙ ap (interval l) (sym (ap span_of new)))
  | inr n ↦ subst (λ v. v ≡ interval l (span_of v)) (sym (set_elsewhere row i k (with_span (value_at row i) s) n)) h
]

pub lines_kept : (commalist : List ℕ) (at : List (AnyPoint × AnyPoint)) (row : Row) (i : ℕ) (s : Span) → HaveLines commalist at row → HaveLines commalist at (put_span row i s)
lines_kept commalist at row i s h j d l = line_kept row i (slice_index commalist j) s (line (get_or at j d).0) (h j d l)
