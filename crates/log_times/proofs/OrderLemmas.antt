-- A log keeps its order where the rows that stand end at a statement.
use Rattle.std.proofs.Common.{◌≡◌, ◌⊎◌, inl, inr, ℕ, zero, suc, ◌<◌, ℤ, ◌<ℤ◌, ◌≤ℤ◌, Bool, true, false, List, [], ◌∷◌, length, map, set, refl, sym, ap, ap₂, ◌∙◌, subst, arith, if◌then◌else◌, Ordering, Less, Equal, Greater}
use Rattle.std.specs.Cmp.{signed_Decides, int_cmp_is}
use Rattle.std.specs.List.{All}
use Rattle.std.specs.Ordering.{int_cmp, int_eq, ordering_then}
use Rattle.std.proofs.lemmas.Cmp.{int_ranked, tied_itself}
use Rattle.std.proofs.lemmas.Int.{ints}
use Rattle.base_core.proofs.OrderingLemmas.{then-Equal}
use Rattle.base_core.proofs.SetLemmas.{In, AllAfter, Ascends}
use Rattle.interval_core.specs.Members.{Span}
use Rattle.point_core.specs.Points.{integers}
use Rattle.value_core.specs.Attributes.{value_at, span_of, with_span, put_span}
use Rattle.value_core.specs.Order.{value_total, value_separates}
use Rattle.value_core.specs.Values.{Row, Value, interval, value_cmp, row_cmp}
use Rattle.log_times.specs.Logs.{statements, open_end, is_standing, closed_row, closed, IsStoredRow, IsStored}
use Rattle.log_times.proofs.RowLemmas.{put_itself}

-- ---- members

pub all_In : {X : Type 0} (P : X → Type 0) (xs : List X) → All P xs → (y : X) → In y xs → P y
all_In P [] h y i = absurd i
all_In P (x ∷ xs) h y i = elim i [
  | inl e ↦ subst P (sym e) (h 0 y (omega arith))
  | inr j ↦ all_In P xs (λ k d l. h (suc k) d (omega (arith, l))) y j
]

module _ {X : Type 0} (cmp : X → X → Ordering) (f : X → X) where
  AllAfter-map_In : (x : X) (ys : List X) → ((y : X) → In y ys → cmp x y ≡ Less → cmp (f x) (f y) ≡ Less) → AllAfter cmp x ys → AllAfter cmp (f x) (map f ys)
  AllAfter-map_In x [] keeps h = tt
  AllAfter-map_In x (y ∷ ys) keeps h = (keeps y (inl refl) h.0, AllAfter-map_In x ys (λ z i. keeps z (inr i)) h.1)

  -- a function that keeps the order of the members
  pub Ascends-map_In : (xs : List X) → ((x y : X) → In x xs → In y xs → cmp x y ≡ Less → cmp (f x) (f y) ≡ Less) → Ascends cmp xs → Ascends cmp (map f xs)
  Ascends-map_In [] keeps h = tt
  Ascends-map_In (x ∷ xs) keeps h = (AllAfter-map_In x xs (λ y i. keeps x y (inl refl) (inr i)) h.0, Ascends-map_In xs (λ y z i j. keeps y z (inr i) (inr j)) h.1)

-- ---- numbers

pub less_is_le : (a b : ℤ) → a <ℤ b → a ≤ℤ b
less_is_le a b l = omega (arith, ints, l)

-- ---- two comparisons, the first counting first

less_by : {G : Type 0} (a b : Ordering) → ordering_then a b ≡ Less → (a ≡ Less → G) → (a ≡ Equal → b ≡ Less → G) → G
less_by Less b e f g = f refl
less_by Equal b e f g = g refl e
less_by Greater b e f g = absurd cc

first_less : (a b : Ordering) → a ≡ Less → ordering_then a b ≡ Less
first_less a b e = ap (λ r. ordering_then r b) e

second_less : (a b : Ordering) → a ≡ Equal → b ≡ Less → ordering_then a b ≡ Less
second_less a b e l = ap₂ (λ r s. ordering_then r s) e l

-- ---- intervals of statements

-- by the begin, and then by the end
abbrev IsBefore : Span → Span → Type 0
IsBefore i j = (i.0 <ℤ j.0) ⊎ ((i.0 ≡ j.0) × (i.1 <ℤ j.1))

span_less : (i j : Span) → value_cmp (interval integers i) (interval integers j) ≡ Less → IsBefore i j
span_less i j e =
    less_by (int_cmp i.0 j.0) (ordering_then (int_cmp i.1 j.1) Equal) e (λ l. inl (int_ranked i.0 j.0 Less (sym l)))
    (λ same l. inr (int_ranked i.0 j.0 Equal (sym same), int_ranked i.1 j.1 Less (sym (sym (then-Equal (int_cmp i.1 j.1)) ∙ l))))

less_span : (i j : Span) → IsBefore i j → value_cmp (interval integers i) (interval integers j) ≡ Less
less_span i j h = elim h [
  | inl l ↦ first_less (int_cmp i.0 j.0) (ordering_then (int_cmp i.1 j.1) Equal) (sym (int_cmp_is i.0 j.0 Less l))
  | inr k ↦ second_less (int_cmp i.0 j.0) (ordering_then (int_cmp i.1 j.1) Equal) (sym (int_cmp_is i.0 j.0 Equal k.0)) (then-Equal (int_cmp i.1 j.1) ∙ sym (int_cmp_is i.1 j.1 Less k.1))
]

-- the interval as the log has it after the statement n
abbrev cut : ℤ → Span → Span
cut n i = if int_eq i.1 open_end then (i.0, n) else i

closed-cut : (side : ℕ) (n : ℤ) (row : Row) → closed_row side n row ≡ put_span row side (cut n (statements side row))
closed-cut side n row = by (is_standing side row)
  where
    by : (b : Bool) → (if b then put_span row side ((statements side row).0, n) else row) ≡ put_span row side (if b then ((statements side row).0, n) else statements side row)
    by true = refl
    by false = sym (put_itself side row)

later_end : (n i j : ℤ) → i ≡ open_end → (j ≡ open_end) ⊎ (j <ℤ n) → n ≤ℤ open_end → i <ℤ j → ⊥
later_end n i j e h below l = elim h [
  | inl k ↦ absurd (omega (arith, ints, e, k, l))
  | inr k ↦ absurd (omega (arith, ints, e, k, l, below))
]

cut_before : (n : ℤ) (i j : Span) → n ≤ℤ open_end → (int_eq i.1 open_end ≡ false → i.1 <ℤ n) → (int_eq j.1 open_end ≡ false → j.1 <ℤ n) → IsBefore i j → IsBefore (cut n i) (cut n j)
cut_before n i j below a b h = by (int_eq i.1 open_end) (int_eq j.1 open_end) refl refl h
  where
    by : (r s : Bool) → int_eq i.1 open_end ≡ r → int_eq j.1 open_end ≡ s → IsBefore i j → IsBefore (if r then (i.0, n) else i) (if s then (j.0, n) else j)
    by true true e f h = elim h [
      | inl l ↦ inl l
      | inr k ↦ absurd (later_end n i.1 j.1 ((signed_Decides i.1 open_end).0 e) (inl ((signed_Decides j.1 open_end).0 f)) below k.1)
    ]
    by true false e f h = elim h [
      | inl l ↦ inl l
      | inr k ↦ absurd (later_end n i.1 j.1 ((signed_Decides i.1 open_end).0 e) (inr (b f)) below k.1)
    ]
    by false true e f h = elim h [ inl l ↦ inl l | inr k ↦ inr (k.0, a e) ]
    by false false e f h = h

-- ---- rows

-- other values at one place
set_keeps : (k : ℕ) (x y : Row) (v w : Value) → k < length x → k < length y → (value_cmp (value_at x k) (value_at y k) ≡ Less → value_cmp v w ≡ Less) → (value_at x k ≡ value_at y k → v ≡ w)
    → row_cmp x y ≡ Less → row_cmp (set x k v) (set y k w) ≡ Less
set_keeps k [] y v w l m less same e = absurd (omega arith)
set_keeps k (a ∷ x) [] v w l m less same e = absurd (omega arith)
set_keeps zero (a ∷ x) (b ∷ y) v w l m less same e =
    less_by (value_cmp a b) (row_cmp x y) e (λ h. first_less (value_cmp v w) (row_cmp x y) (less h))
    (λ h k. second_less (value_cmp v w) (row_cmp x y) (ap (value_cmp v) (sym (same (value_separates a b h))) ∙ tied_itself value_total v) k)
set_keeps (suc k) (a ∷ x) (b ∷ y) v w l m less same e =
    less_by (value_cmp a b) (row_cmp x y) e (λ h. first_less (value_cmp a b) (row_cmp (set x k v) (set y k w)) h)
    (λ h i. second_less (value_cmp a b) (row_cmp (set x k v) (set y k w)) h (set_keeps k x y v w (omega (arith, l)) (omega (arith, m)) less same i))

pub closed_keeps : (side : ℕ) (n : ℤ) (x y : Row) → n ≤ℤ open_end → IsStoredRow side n x → IsStoredRow side n y → row_cmp x y ≡ Less → row_cmp (closed_row side n x) (closed_row side n y) ≡ Less
closed_keeps side n x y below a b e =
    let i : Span = statements side x in
    let j : Span = statements side y in
    let left : with_span (value_at x side) (cut n i) ≡ interval integers (cut n i) = ap (λ v. with_span v (cut n i)) a.interval.line in
    let right : with_span (value_at y side) (cut n j) ≡ interval integers (cut n j) = ap (λ v. with_span v (cut n j)) b.interval.line in
    let less : value_cmp (value_at x side) (value_at y side) ≡ Less → value_cmp (with_span (value_at x side) (cut n i)) (with_span (value_at y side) (cut n j)) ≡ Less = λ h.
    ap₂ value_cmp left right ∙ less_span (cut n i) (cut n j) (cut_before n i j below a.ended b.ended (span_less i j (sym (ap₂ value_cmp a.interval.line b.interval.line) ∙ h))) in
    let kept = set_keeps side x y (with_span (value_at x side) (cut n i)) (with_span (value_at y side) (cut n j)) a.interval.within b.interval.within less (λ s. ap (λ v. with_span v (cut n (span_of v))) s) e in
    ap₂ row_cmp (closed-cut side n x) (closed-cut side n y) ∙ kept

-- the closed log is in order
pub closed_ascends : (side : ℕ) (n : ℤ) (rows : List Row) → IsStored side n rows → Ascends row_cmp rows → Ascends row_cmp (closed side n rows)
closed_ascends side n rows stored up =
    let at : (y : Row) → In y rows → IsStoredRow side n y = all_In (IsStoredRow side n) rows stored.rows in
    Ascends-map_In row_cmp (closed_row side n) rows (λ x y i j. closed_keeps side n x y (less_is_le n open_end stored.before) (at x i) (at y j)) up
