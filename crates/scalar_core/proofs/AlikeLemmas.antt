-- An atom of a listed attribute is the same at two points with no cut of its other side between them.
--     left-alike, right-alike      a comparison with the attribute, or with one of its ends, on the left or on the right
use Rattle.std.specs.Prelude.{◌≡◌, ◌⊎◌, ◌↔◌, ℤ, pos, ◌+ℤ◌, ◌≤ℤ◌, ◌<ℤ◌, true, ◌&&◌, IsTrue, int_le, Ok, refl}
use Rattle.std.proofs.Common.{sym, ◌∙◌, ap, ap₂, subst, arith, inl, inr}
use Rattle.std.specs.Ordering.{int_cmp, ordering_then}
use Rattle.std.specs.declared.cmp.Ordering.{Ordering}
use Rattle.std.specs.declared.cmp.Ordering.TheVariants.{Equal}
use Rattle.std.proofs.lemmas.Int.{ints}
use Rattle.base_core.proofs.BoolLemmas.{and_right}
use Rattle.base_core.proofs.IntLemmas.{int_le-le, le_itself}
use Rattle.point_core.specs.declared.fault.Place.{Place}
use Rattle.point_core.specs.declared.any_type.AnyType.{AnyType}
use Rattle.point_core.specs.Points.{Line, integers, days, values_of, seconds, line_of, is_number}
use Rattle.interval_core.specs.Members.{Span, at_point}
use Rattle.interval_core.proofs.ComparisonLemmas.{includes-ends, included_in-ends, before-ends, after-ends, overlaps-ends, meets-ends, merges-ends, begins-ends, ends-ends}
use Rattle.value_core.specs.declared.kind.Kind.{Kind}
use Rattle.value_core.specs.declared.kind.Kind.TheVariants.{Truth, Char, Point, Span as SpanOf}
use Rattle.value_core.specs.Attributes.{with_span}
use Rattle.value_core.specs.Values.{Value, truth, text, point, interval, value_cmp, fits, is_interval, same_line}
use Rattle.scalar_core.specs.declared.operators.PairOp.{PairOp}
use Rattle.scalar_core.specs.declared.operators.PairOp.TheVariants.{Compare, Allen, Member}
use Rattle.scalar_core.specs.declared.tree.AllenWord.{AllenWord}
use Rattle.scalar_core.specs.declared.tree.AllenWord.TheVariants.{Includes, IncludedIn, Before, After, Meets, Overlaps, Merges, Begins, Ends}
use Rattle.scalar_core.specs.Cuts.{IsBeside, cuts_at}
use Rattle.scalar_core.specs.Kinds.{PairKinds}
use Rattle.scalar_core.specs.Operations.{compared, related, begin_of, end_of, pair_of}
use Rattle.scalar_core.specs.Sweeping.{is_comparison}
use Rattle.scalar_core.proofs.NearLemmas.{NearPoint, NearSpan, one, before_it, between, behind_it, near_point, near_span, near_begin, near_end, span_back, alike_tests, cmp-alike_left, cmp-alike_right, member-alike_left, member-alike_right}

-- ---- comparisons of intervals

-- what a comparison says of the ends
abbrev RelatedByEnds : AllenWord → Span → Span → Type 0
RelatedByEnds Includes i j = (i.0 ≤ℤ j.0) × (j.1 ≤ℤ i.1)
RelatedByEnds IncludedIn i j = (j.0 ≤ℤ i.0) × (i.1 ≤ℤ j.1)
RelatedByEnds Before i j = i.1 <ℤ j.0
RelatedByEnds After i j = j.1 <ℤ i.0
RelatedByEnds Meets i j = (i.1 +ℤ pos 1 ≡ j.0) ⊎ (j.1 +ℤ pos 1 ≡ i.0)
RelatedByEnds Overlaps i j = (i.0 ≤ℤ j.1) × (j.0 ≤ℤ i.1)
RelatedByEnds Merges i j = (i.0 ≤ℤ (j.1 +ℤ pos 1)) × (j.0 ≤ℤ (i.1 +ℤ pos 1))
RelatedByEnds Begins i j = (i.0 ≡ j.0) × (i.1 ≤ℤ j.1)
RelatedByEnds Ends i j = (i.1 ≡ j.1) × (j.0 ≤ℤ i.0)

related-ends : (w : AllenWord) (i j : Span) → i.0 ≤ℤ i.1 → j.0 ≤ℤ j.1 → IsTrue (related w i j) ↔ RelatedByEnds w i j
related-ends Includes i j l m = includes-ends i j l m
related-ends IncludedIn i j l m = included_in-ends i j l m
related-ends Before i j l m = before-ends i j l m
related-ends After i j l m = after-ends i j l m
related-ends Meets i j l m = meets-ends i j l m
related-ends Overlaps i j l m = overlaps-ends i j l m
related-ends Merges i j l m = merges-ends i j l m
related-ends Begins i j l m = begins-ends i j l m
related-ends Ends i j l m = ends-ends i j l m

-- with the one point on the left: in each place of p to the interval the ends say the same of q
moved_left : (w : AllenWord) (j : Span) (p q : ℤ) → j.0 ≤ℤ j.1 → NearSpan j p q → RelatedByEnds w (p, p) j → RelatedByEnds w (q, q) j
moved_left Includes j p q m near h =
    let h0 = h.0 in let h1 = h.1 in
    elim near [ one e ↦ (omega (arith, ints), omega (arith, ints)) | before_it a b ↦ absurd (omega (arith, ints)) | between a b c d ↦ absurd (omega (arith, ints)) | behind_it a b ↦ absurd (omega (arith, ints)) ]
moved_left IncludedIn j p q m near h =
    let h0 = h.0 in let h1 = h.1 in
    elim near [ one e ↦ (omega (arith, ints), omega (arith, ints)) | before_it a b ↦ absurd (omega (arith, ints)) | between a b c d ↦ (omega (arith, ints), omega (arith, ints)) | behind_it a b ↦ absurd (omega (arith, ints)) ]
moved_left Before j p q m near h =
    elim near [ one e ↦ omega (arith, ints) | before_it a b ↦ omega (arith, ints) | between a b c d ↦ absurd (omega (arith, ints)) | behind_it a b ↦ absurd (omega (arith, ints)) ]
moved_left After j p q m near h =
    elim near [ one e ↦ omega (arith, ints) | before_it a b ↦ absurd (omega (arith, ints)) | between a b c d ↦ absurd (omega (arith, ints)) | behind_it a b ↦ omega (arith, ints) ]
moved_left Meets j p q m near h =
    elim h [
      | inl k ↦ elim near [ one e ↦ inl (omega (arith, ints)) | before_it a b ↦ absurd (omega (arith, ints)) | between a b c d ↦ absurd (omega (arith, ints)) | behind_it a b ↦ absurd (omega (arith, ints)) ]
      | inr k ↦ elim near [ one e ↦ inr (omega (arith, ints)) | before_it a b ↦ absurd (omega (arith, ints)) | between a b c d ↦ absurd (omega (arith, ints)) | behind_it a b ↦ absurd (omega (arith, ints)) ]
    ]
moved_left Overlaps j p q m near h =
    let h0 = h.0 in let h1 = h.1 in
    elim near [ one e ↦ (omega (arith, ints), omega (arith, ints)) | before_it a b ↦ absurd (omega (arith, ints)) | between a b c d ↦ (omega (arith, ints), omega (arith, ints)) | behind_it a b ↦ absurd (omega (arith, ints)) ]
moved_left Merges j p q m near h =
    let h0 = h.0 in let h1 = h.1 in
    elim near [ one e ↦ (omega (arith, ints), omega (arith, ints)) | before_it a b ↦ absurd (omega (arith, ints)) | between a b c d ↦ (omega (arith, ints), omega (arith, ints)) | behind_it a b ↦ absurd (omega (arith, ints)) ]
moved_left Begins j p q m near h =
    let h0 = h.0 in let h1 = h.1 in
    elim near [ one e ↦ (omega (arith, ints), omega (arith, ints)) | before_it a b ↦ absurd (omega (arith, ints)) | between a b c d ↦ absurd (omega (arith, ints)) | behind_it a b ↦ absurd (omega (arith, ints)) ]
moved_left Ends j p q m near h =
    let h0 = h.0 in let h1 = h.1 in
    elim near [ one e ↦ (omega (arith, ints), omega (arith, ints)) | before_it a b ↦ absurd (omega (arith, ints)) | between a b c d ↦ absurd (omega (arith, ints)) | behind_it a b ↦ absurd (omega (arith, ints)) ]

-- with the one point on the right, most comparisons are others with it on the left
moved_right : (w : AllenWord) (j : Span) (p q : ℤ) → j.0 ≤ℤ j.1 → NearSpan j p q → RelatedByEnds w j (p, p) → RelatedByEnds w j (q, q)
moved_right Includes j p q m near h = moved_left IncludedIn j p q m near h
moved_right IncludedIn j p q m near h = moved_left Includes j p q m near h
moved_right Before j p q m near h = moved_left After j p q m near h
moved_right After j p q m near h = moved_left Before j p q m near h
moved_right Meets j p q m near h =
    elim (moved_left Meets j p q m near (elim h [ inl k ↦ inr k | inr k ↦ inl k ])) [ inl k ↦ inr k | inr k ↦ inl k ]
moved_right Overlaps j p q m near h = let k = moved_left Overlaps j p q m near (h.1, h.0) in (k.1, k.0)
moved_right Merges j p q m near h = let k = moved_left Merges j p q m near (h.1, h.0) in (k.1, k.0)
moved_right Begins j p q m near h =
    let h0 = h.0 in let h1 = h.1 in
    elim near [ one e ↦ (omega (arith, ints), omega (arith, ints)) | before_it a b ↦ absurd (omega (arith, ints)) | between a b c d ↦ absurd (omega (arith, ints)) | behind_it a b ↦ absurd (omega (arith, ints)) ]
moved_right Ends j p q m near h =
    let h0 = h.0 in let h1 = h.1 in
    elim near [ one e ↦ (omega (arith, ints), omega (arith, ints)) | before_it a b ↦ absurd (omega (arith, ints)) | between a b c d ↦ absurd (omega (arith, ints)) | behind_it a b ↦ absurd (omega (arith, ints)) ]

related-alike_left : (w : AllenWord) (j : Span) (p q : ℤ) → j.0 ≤ℤ j.1 → NearSpan j p q → related w (p, p) j ≡ related w (q, q) j
related-alike_left w j p q m near =
    alike_tests (related w (p, p) j) (related w (q, q) j) (RelatedByEnds w (p, p) j) (RelatedByEnds w (q, q) j)
    (related-ends w (p, p) j (le_itself p) m) (related-ends w (q, q) j (le_itself q) m)
    (moved_left w j p q m near) (moved_left w j q p m (span_back j p q near))

related-alike_right : (w : AllenWord) (j : Span) (p q : ℤ) → j.0 ≤ℤ j.1 → NearSpan j p q → related w j (p, p) ≡ related w j (q, q)
related-alike_right w j p q m near =
    alike_tests (related w j (p, p)) (related w j (q, q)) (RelatedByEnds w j (p, p)) (RelatedByEnds w j (q, q))
    (related-ends w j (p, p) m (le_itself p)) (related-ends w j (q, q) m (le_itself q))
    (moved_right w j p q m near) (moved_right w j q p m (span_back j p q near))

-- ---- the order of values

-- the order of two numbers, where the first two decide nothing
two_then : (a b c d : Ordering) → a ≡ c → b ≡ d → ordering_then a (ordering_then b Equal) ≡ ordering_then c (ordering_then d Equal)
two_then a b c d e f = ap₂ (λ x y. ordering_then x (ordering_then y Equal)) e f

points-alike_left : (l m : Line) (n p q : ℤ) → NearPoint n p q → value_cmp (point l p) (point m n) ≡ value_cmp (point l q) (point m n)
points-alike_left integers integers n p q near = ap (λ o. ordering_then o Equal) (cmp-alike_left n p q near)
points-alike_left days days n p q near = ap (λ o. ordering_then o Equal) (cmp-alike_left n p q near)
points-alike_left seconds seconds n p q near = ap (λ o. ordering_then o Equal) (cmp-alike_left n p q near)
points-alike_left (values_of a) (values_of b) n p q near = ap (λ o. ordering_then (int_cmp (pos a) (pos b)) (ordering_then o Equal)) (cmp-alike_left n p q near)
points-alike_left integers days n p q near = refl
points-alike_left integers (values_of b) n p q near = refl
points-alike_left days integers n p q near = refl
points-alike_left days (values_of b) n p q near = refl
points-alike_left (values_of a) integers n p q near = refl
points-alike_left (values_of a) days n p q near = refl
points-alike_left integers seconds n p q near = refl
points-alike_left days seconds n p q near = refl
points-alike_left (values_of a) seconds n p q near = refl
points-alike_left seconds integers n p q near = refl
points-alike_left seconds days n p q near = refl
points-alike_left seconds (values_of b) n p q near = refl

points-alike_right : (l m : Line) (n p q : ℤ) → NearPoint n p q → value_cmp (point m n) (point l p) ≡ value_cmp (point m n) (point l q)
points-alike_right integers integers n p q near = ap (λ o. ordering_then o Equal) (cmp-alike_right n p q near)
points-alike_right days days n p q near = ap (λ o. ordering_then o Equal) (cmp-alike_right n p q near)
points-alike_right seconds seconds n p q near = ap (λ o. ordering_then o Equal) (cmp-alike_right n p q near)
points-alike_right (values_of a) (values_of b) n p q near = ap (λ o. ordering_then (int_cmp (pos b) (pos a)) (ordering_then o Equal)) (cmp-alike_right n p q near)
points-alike_right integers days n p q near = refl
points-alike_right integers (values_of b) n p q near = refl
points-alike_right days integers n p q near = refl
points-alike_right days (values_of b) n p q near = refl
points-alike_right (values_of a) integers n p q near = refl
points-alike_right (values_of a) days n p q near = refl
points-alike_right integers seconds n p q near = refl
points-alike_right days seconds n p q near = refl
points-alike_right (values_of a) seconds n p q near = refl
points-alike_right seconds integers n p q near = refl
points-alike_right seconds days n p q near = refl
points-alike_right seconds (values_of b) n p q near = refl

spans-alike_left : (l m : Line) (j : Span) (p q : ℤ) → NearPoint j.0 p q → NearPoint j.1 p q → value_cmp (interval l (p, p)) (interval m j) ≡ value_cmp (interval l (q, q)) (interval m j)
spans-alike_left integers integers j p q b e = two_then _ _ _ _ (cmp-alike_left j.0 p q b) (cmp-alike_left j.1 p q e)
spans-alike_left days days j p q b e = two_then _ _ _ _ (cmp-alike_left j.0 p q b) (cmp-alike_left j.1 p q e)
spans-alike_left seconds seconds j p q b e = two_then _ _ _ _ (cmp-alike_left j.0 p q b) (cmp-alike_left j.1 p q e)
spans-alike_left (values_of a) (values_of c) j p q b e = ap (ordering_then (int_cmp (pos a) (pos c))) (two_then _ _ _ _ (cmp-alike_left j.0 p q b) (cmp-alike_left j.1 p q e))
spans-alike_left integers days j p q b e = refl
spans-alike_left integers (values_of c) j p q b e = refl
spans-alike_left days integers j p q b e = refl
spans-alike_left days (values_of c) j p q b e = refl
spans-alike_left (values_of a) integers j p q b e = refl
spans-alike_left (values_of a) days j p q b e = refl
spans-alike_left integers seconds j p q b e = refl
spans-alike_left days seconds j p q b e = refl
spans-alike_left (values_of a) seconds j p q b e = refl
spans-alike_left seconds integers j p q b e = refl
spans-alike_left seconds days j p q b e = refl
spans-alike_left seconds (values_of c) j p q b e = refl

spans-alike_right : (l m : Line) (j : Span) (p q : ℤ) → NearPoint j.0 p q → NearPoint j.1 p q → value_cmp (interval m j) (interval l (p, p)) ≡ value_cmp (interval m j) (interval l (q, q))
spans-alike_right integers integers j p q b e = two_then _ _ _ _ (cmp-alike_right j.0 p q b) (cmp-alike_right j.1 p q e)
spans-alike_right days days j p q b e = two_then _ _ _ _ (cmp-alike_right j.0 p q b) (cmp-alike_right j.1 p q e)
spans-alike_right seconds seconds j p q b e = two_then _ _ _ _ (cmp-alike_right j.0 p q b) (cmp-alike_right j.1 p q e)
spans-alike_right (values_of a) (values_of c) j p q b e = ap (ordering_then (int_cmp (pos c) (pos a))) (two_then _ _ _ _ (cmp-alike_right j.0 p q b) (cmp-alike_right j.1 p q e))
spans-alike_right integers days j p q b e = refl
spans-alike_right integers (values_of c) j p q b e = refl
spans-alike_right days integers j p q b e = refl
spans-alike_right days (values_of c) j p q b e = refl
spans-alike_right (values_of a) integers j p q b e = refl
spans-alike_right (values_of a) days j p q b e = refl
spans-alike_right integers seconds j p q b e = refl
spans-alike_right days seconds j p q b e = refl
spans-alike_right (values_of a) seconds j p q b e = refl
spans-alike_right seconds integers j p q b e = refl
spans-alike_right seconds days j p q b e = refl
spans-alike_right seconds (values_of c) j p q b e = refl

-- ---- the comparisons of an atom

-- the ends of an interval that fits are in order
fits-ordered : (kind : Kind) (m : Line) (j : Span) → IsTrue (fits kind (interval m j)) → j.0 ≤ℤ j.1
fits-ordered Truth m j h = absurd cc
fits-ordered Char m j h = absurd cc
fits-ordered (Point t) m j h = absurd cc
fits-ordered (SpanOf t) m j h =
    let inside : is_interval t j ≡ true = and_right (same_line m (line_of t)) (is_interval t j) h in
    int_le-le j.0 j.1 (and_right (is_number t j.1) (int_le j.0 j.1) (and_right (is_number t j.0) (is_number t j.1 && int_le j.0 j.1) inside))

span_that_fits : (t : AnyType) (w : Value) → IsTrue (fits (SpanOf t) w) → (m : Line) × (j : Span) × (w ≡ interval m j) × (j.0 ≤ℤ j.1)
span_that_fits t (truth b) h = absurd cc
span_that_fits t (text bytes) h = absurd cc
span_that_fits t (point m n) h = absurd cc
span_that_fits t (interval m j) h = (m, j, refl, fits-ordered (SpanOf t) m j h)

point_that_fits : (t : AnyType) (w : Value) → IsTrue (fits (Point t) w) → (m : Line) × (n : ℤ) × (w ≡ point m n)
point_that_fits t (truth b) h = absurd cc
point_that_fits t (text bytes) h = absurd cc
point_that_fits t (point m n) h = (m, n, refl)
point_that_fits t (interval m j) h = absurd cc

kind_as : (k kind : Kind) (w : Value) → kind ≡ k → IsTrue (fits kind w) → IsTrue (fits k w)
kind_as k kind w e h = subst (λ x. IsTrue (fits x w)) e h

-- in the order of values
ordered-alike_left : (kind : Kind) (l : Line) (w : Value) (p q : ℤ) → IsTrue (fits kind w) → IsBeside (cuts_at w) p q → value_cmp (interval l (p, p)) w ≡ value_cmp (interval l (q, q)) w
ordered-alike_left kind l (truth b) p q h c = refl
ordered-alike_left kind l (text bytes) p q h c = refl
ordered-alike_left kind l (point m n) p q h c = refl
ordered-alike_left kind l (interval m j) p q h c =
    let m0 = fits-ordered kind m j h in
    let near = near_span m j p q m0 c in
    spans-alike_left l m j p q (near_begin j p q m0 near) (near_end j p q m0 near)

ordered-alike_right : (kind : Kind) (l : Line) (w : Value) (p q : ℤ) → IsTrue (fits kind w) → IsBeside (cuts_at w) p q → value_cmp w (interval l (p, p)) ≡ value_cmp w (interval l (q, q))
ordered-alike_right kind l (truth b) p q h c = refl
ordered-alike_right kind l (text bytes) p q h c = refl
ordered-alike_right kind l (point m n) p q h c = refl
ordered-alike_right kind l (interval m j) p q h c =
    let m0 = fits-ordered kind m j h in
    let near = near_span m j p q m0 c in
    spans-alike_right l m j p q (near_begin j p q m0 near) (near_end j p q m0 near)

ordered_points-alike_left : (l : Line) (w : Value) (p q : ℤ) → IsBeside (cuts_at w) p q → value_cmp (point l p) w ≡ value_cmp (point l q) w
ordered_points-alike_left l (truth b) p q c = refl
ordered_points-alike_left l (text bytes) p q c = refl
ordered_points-alike_left l (point m n) p q c = points-alike_left l m n p q (near_point m n p q c)
ordered_points-alike_left l (interval m j) p q c = refl

ordered_points-alike_right : (l : Line) (w : Value) (p q : ℤ) → IsBeside (cuts_at w) p q → value_cmp w (point l p) ≡ value_cmp w (point l q)
ordered_points-alike_right l (truth b) p q c = refl
ordered_points-alike_right l (text bytes) p q c = refl
ordered_points-alike_right l (point m n) p q c = points-alike_right l m n p q (near_point m n p q c)
ordered_points-alike_right l (interval m j) p q c = refl

-- the attribute itself, on the left and on the right
span-alike_left : (op : PairOp) (place : Place) (left right kind : Kind) (l : Line) (w : Value) (p q : ℤ) → is_comparison op ≡ true → PairKinds op left right kind → IsTrue (fits right w) →
    IsBeside (cuts_at w) p q → pair_of op place (interval l (p, p)) w ≡ pair_of op place (interval l (q, q)) w
span-alike_left (Compare word) place left right kind l w p q is kinds h c = ap (λ o. Ok (truth (compared word o))) (ordered-alike_left right l w p q h c)
span-alike_left (Allen word t) place left right kind l w p q is kinds h c =
    let found = span_that_fits t w (kind_as (SpanOf t) right w kinds.1 h) in
    let near = near_span found.0 found.1 p q found.3 (subst (λ v. IsBeside (cuts_at v) p q) found.2 c) in
    subst (λ v. pair_of (Allen word t) place (interval l (p, p)) v ≡ pair_of (Allen word t) place (interval l (q, q)) v) (sym found.2)
    (ap (λ b. Ok (truth b)) (related-alike_left word found.1 p q found.3 near))
span-alike_left (Member t) place left right kind l w p q is kinds h c = refl
span-alike_left _ place left right kind l w p q is kinds h c = absurd cc

span-alike_right : (op : PairOp) (place : Place) (left right kind : Kind) (l : Line) (w : Value) (p q : ℤ) → is_comparison op ≡ true → PairKinds op left right kind → IsTrue (fits left w) →
    IsBeside (cuts_at w) p q → pair_of op place w (interval l (p, p)) ≡ pair_of op place w (interval l (q, q))
span-alike_right (Compare word) place left right kind l w p q is kinds h c = ap (λ o. Ok (truth (compared word o))) (ordered-alike_right left l w p q h c)
span-alike_right (Allen word t) place left right kind l w p q is kinds h c =
    let found = span_that_fits t w (kind_as (SpanOf t) left w kinds.0 h) in
    let near = near_span found.0 found.1 p q found.3 (subst (λ v. IsBeside (cuts_at v) p q) found.2 c) in
    subst (λ v. pair_of (Allen word t) place v (interval l (p, p)) ≡ pair_of (Allen word t) place v (interval l (q, q))) (sym found.2)
    (ap (λ b. Ok (truth b)) (related-alike_right word found.1 p q found.3 near))
span-alike_right (Member t) place left right kind l w p q is kinds h c =
    let found = point_that_fits t w (kind_as (Point t) left w kinds.0 h) in
    let near = near_point found.0 found.1 p q (subst (λ v. IsBeside (cuts_at v) p q) found.2 c) in
    subst (λ v. pair_of (Member t) place v (interval l (p, p)) ≡ pair_of (Member t) place v (interval l (q, q))) (sym found.2)
    (ap (λ b. Ok (truth b)) (member-alike_right found.1 p q near))
span-alike_right _ place left right kind l w p q is kinds h c = absurd cc

-- one of its ends, on the left and on the right
point-alike_left : (op : PairOp) (place : Place) (left right kind : Kind) (l : Line) (w : Value) (p q : ℤ) → is_comparison op ≡ true → PairKinds op left right kind → IsTrue (fits right w) →
    IsBeside (cuts_at w) p q → pair_of op place (point l p) w ≡ pair_of op place (point l q) w
point-alike_left (Compare word) place left right kind l w p q is kinds h c = ap (λ o. Ok (truth (compared word o))) (ordered_points-alike_left l w p q c)
point-alike_left (Allen word t) place left right kind l w p q is kinds h c = refl
point-alike_left (Member t) place left right kind l w p q is kinds h c =
    let found = span_that_fits t w (kind_as (SpanOf t) right w kinds.1 h) in
    let near = near_span found.0 found.1 p q found.3 (subst (λ v. IsBeside (cuts_at v) p q) found.2 c) in
    subst (λ v. pair_of (Member t) place (point l p) v ≡ pair_of (Member t) place (point l q) v) (sym found.2)
    (ap (λ b. Ok (truth b)) (member-alike_left found.1 p q near))
point-alike_left _ place left right kind l w p q is kinds h c = absurd cc

point-alike_right : (op : PairOp) (place : Place) (l : Line) (w : Value) (p q : ℤ) → is_comparison op ≡ true → IsBeside (cuts_at w) p q →
    pair_of op place w (point l p) ≡ pair_of op place w (point l q)
point-alike_right (Compare word) place l w p q is c = ap (λ o. Ok (truth (compared word o))) (ordered_points-alike_right l w p q c)
point-alike_right (Allen word t) place l w p q is c = refl
point-alike_right (Member t) place l w p q is c = refl
point-alike_right _ place l w p q is c = absurd cc

-- ---- a value that is swept

-- what a side of an atom is of the attribute's value: the value, its begin or its end
pub data IsPartOf (f : Value → Value) : Type 0 where
  whole : ((v : Value) → f v ≡ v) → IsPartOf f
  begin : ((v : Value) → f v ≡ begin_of v) → IsPartOf f
  end : ((v : Value) → f v ≡ end_of v) → IsPartOf f

whole-alike_left : (op : PairOp) (place : Place) (left right kind : Kind) (v w : Value) (p q : ℤ) → is_comparison op ≡ true → PairKinds op left right kind → IsTrue (fits right w) →
    IsBeside (cuts_at w) p q → pair_of op place (with_span v (at_point p)) w ≡ pair_of op place (with_span v (at_point q)) w
whole-alike_left op place left right kind (truth b) w p q is kinds h c = refl
whole-alike_left op place left right kind (text bytes) w p q is kinds h c = refl
whole-alike_left op place left right kind (point l n) w p q is kinds h c = refl
whole-alike_left op place left right kind (interval l i) w p q is kinds h c = span-alike_left op place left right kind l w p q is kinds h c

whole-alike_right : (op : PairOp) (place : Place) (left right kind : Kind) (v w : Value) (p q : ℤ) → is_comparison op ≡ true → PairKinds op left right kind → IsTrue (fits left w) →
    IsBeside (cuts_at w) p q → pair_of op place w (with_span v (at_point p)) ≡ pair_of op place w (with_span v (at_point q))
whole-alike_right op place left right kind (truth b) w p q is kinds h c = refl
whole-alike_right op place left right kind (text bytes) w p q is kinds h c = refl
whole-alike_right op place left right kind (point l n) w p q is kinds h c = refl
whole-alike_right op place left right kind (interval l i) w p q is kinds h c = span-alike_right op place left right kind l w p q is kinds h c

begin-alike_left : (op : PairOp) (place : Place) (left right kind : Kind) (v w : Value) (p q : ℤ) → is_comparison op ≡ true → PairKinds op left right kind → IsTrue (fits right w) →
    IsBeside (cuts_at w) p q → pair_of op place (begin_of (with_span v (at_point p))) w ≡ pair_of op place (begin_of (with_span v (at_point q))) w
begin-alike_left op place left right kind (truth b) w p q is kinds h c = refl
begin-alike_left op place left right kind (text bytes) w p q is kinds h c = refl
begin-alike_left op place left right kind (point l n) w p q is kinds h c = refl
begin-alike_left op place left right kind (interval l i) w p q is kinds h c = point-alike_left op place left right kind l w p q is kinds h c

begin-alike_right : (op : PairOp) (place : Place) (v w : Value) (p q : ℤ) → is_comparison op ≡ true → IsBeside (cuts_at w) p q →
    pair_of op place w (begin_of (with_span v (at_point p))) ≡ pair_of op place w (begin_of (with_span v (at_point q)))
begin-alike_right op place (truth b) w p q is c = refl
begin-alike_right op place (text bytes) w p q is c = refl
begin-alike_right op place (point l n) w p q is c = refl
begin-alike_right op place (interval l i) w p q is c = point-alike_right op place l w p q is c

-- the interval of one point begins and ends alike
ends_at_point : (v : Value) (p : ℤ) → end_of (with_span v (at_point p)) ≡ begin_of (with_span v (at_point p))
ends_at_point (truth b) p = refl
ends_at_point (text bytes) p = refl
ends_at_point (point l n) p = refl
ends_at_point (interval l i) p = refl

pub left-alike : (op : PairOp) (place : Place) (left right kind : Kind) (f : Value → Value) (v w : Value) (p q : ℤ) → IsPartOf f → is_comparison op ≡ true → PairKinds op left right kind →
    IsTrue (fits right w) → IsBeside (cuts_at w) p q → pair_of op place (f (with_span v (at_point p))) w ≡ pair_of op place (f (with_span v (at_point q))) w
left-alike op place left right kind f v w p q part is kinds h c =
    let moved = λ (a b : Value) (d : f (with_span v (at_point p)) ≡ a) (e : f (with_span v (at_point q)) ≡ b) (same : pair_of op place a w ≡ pair_of op place b w).
    ap (λ x. pair_of op place x w) d ∙ (same ∙ ap (λ x. pair_of op place x w) (sym e)) in
    elim part [
      | whole g ↦ moved _ _ (g _) (g _) (whole-alike_left op place left right kind v w p q is kinds h c)
      | begin g ↦ moved _ _ (g _) (g _) (begin-alike_left op place left right kind v w p q is kinds h c)
      | end g ↦ moved _ _ (g _ ∙ ends_at_point v p) (g _ ∙ ends_at_point v q) (begin-alike_left op place left right kind v w p q is kinds h c)
    ]

pub right-alike : (op : PairOp) (place : Place) (left right kind : Kind) (f : Value → Value) (v w : Value) (p q : ℤ) → IsPartOf f → is_comparison op ≡ true → PairKinds op left right kind →
    IsTrue (fits left w) → IsBeside (cuts_at w) p q → pair_of op place w (f (with_span v (at_point p))) ≡ pair_of op place w (f (with_span v (at_point q)))
right-alike op place left right kind f v w p q part is kinds h c =
    let moved = λ (a b : Value) (d : f (with_span v (at_point p)) ≡ a) (e : f (with_span v (at_point q)) ≡ b) (same : pair_of op place w a ≡ pair_of op place w b).
    ap (λ x. pair_of op place w x) d ∙ (same ∙ ap (λ x. pair_of op place w x) (sym e)) in
    elim part [
      | whole g ↦ moved _ _ (g _) (g _) (whole-alike_right op place left right kind v w p q is kinds h c)
      | begin g ↦ moved _ _ (g _) (g _) (begin-alike_right op place v w p q is c)
      | end g ↦ moved _ _ (g _ ∙ ends_at_point v p) (g _ ∙ ends_at_point v q) (begin-alike_right op place v w p q is c)
    ]
