-- Rows that are each beyond the one before it are apart.
use Rattle.std.proofs.Common.{◌≡◌, ◌⊎◌, inl, inr, ℕ, zero, suc, ◌+◌, ◌-◌, ◌<◌, ◌≤◌, pos, ◌+ℤ◌, ◌≤ℤ◌, ◌<ℤ◌, true, false, ◌&&◌, List, [], ◌∷◌, map, drop, length, get_or, refl, sym, ap, ◌∙◌, subst, arith, Ordering}
use Rattle.std.proofs.Math.Seq.{drop-cons}
use Rattle.std.specs.Prelude.{Option, Some, Result, Ok, Err, IfOk, IfSome, int_le, slice_index_or}
use Rattle.std.specs.Ordering.{is_eq, ordering_then}
use Rattle.std.specs.Bool.{IsTrue}
use Rattle.std.specs.List.{All, AllByRecursion}
use Rattle.std.specs.List.Sorted.{IsPermutation}
use Rattle.std.specs.declared.cmp.Ordering.TheVariants.{Less, Equal, Greater}
use Rattle.std.proofs.lemmas.Bool.{true≢false, and_parts, cases_lt}
use Rattle.std.proofs.lemmas.Cmp.{tied_itself, alike_right}
use Rattle.std.proofs.lemmas.Int.{ints}
use Rattle.std.proofs.lemmas.List.{length-map, get_or-map}
use Rattle.std.proofs.lemmas.List.Elements.{All-map, Contains-get_or}
use Rattle.base_core.proofs.SetLemmas.{In, In-from_Contains}
use Rattle.base_core.proofs.MemberLemmas.{In-map, list_all-In}
use Rattle.base_core.proofs.SetOperatorLemmas.{In-permutation}
use Rattle.base_core.proofs.IntLemmas.{int_le-le}
use Rattle.point_core.specs.declared.any_type.AnyType.{AnyType}
use Rattle.point_core.specs.Points.{line_of, is_number}
use Rattle.cell_packing.proofs.PackedBoxes.{among_in}
use Rattle.value_core.specs.declared.kind.Kind.TheVariants.{Span as SpanOf}
use Rattle.value_core.specs.declared.value.Value.{Value as Held}
use Rattle.value_core.specs.Attributes.{value_at, span_of}
use Rattle.value_core.specs.Order.{row_total}
use Rattle.value_core.specs.Plain.{plain}
use Rattle.value_core.specs.Values.{Value, Row, Heading, Relation, IsRelation, truth, text, point, interval, same_line, is_interval, value_cmp, row_cmp, fits, fits_heading}
use Rattle.relation_core.specs.Agreement.{part_of}
use Rattle.relation_core.specs.Parts.{kind_at}
use Rattle.u_set.specs.declared.apart.Gap.{Gap}
use Rattle.u_set.specs.declared.apart.Gap.TheVariants.{Zero, One}
use Rattle.u_set.specs.Apart.{gap_of, span_in, HasInterval, AreApart, IsBeyond, AreBeyond, IsChain}
use Rattle.u_set.specs.Boxes.{AreIntervals, type_of}
use Rattle.cell_core.proofs.ApartLemmas.{moved_all}
use Rattle.u_set.proofs.BoxLemmas.{place_listed, span_fits, value_at-get}
use Rattle.u_set.proofs.RowLemmas.{value_held}

-- ---- an answer

-- what is given holds with what follows from it
pub if_ok : {X E : Type 0} (P Q : X → Type 0) → ((x : X) → P x → Q x) → (r : Result X E) → IfOk r P → IfOk r Q
if_ok P Q f (Ok x) h = f x h
if_ok P Q f (Err e) h = tt

-- what holds of a value that there is
pub some_holds : {X : Type 0} (P : X → Type 0) (o : Option X) (x : X) → o ≡ Some x → IfSome o P → P x
some_holds P o x is h = subst (λ q. IfSome q P) is h

-- ---- how parts stand to each other, from a place on

pub then_stop : (r z : Ordering) → is_eq r ≡ false → ordering_then r z ≡ r
then_stop Less z e = refl
then_stop Equal z e = absurd (true≢false e)
then_stop Greater z e = refl

pub then_go : (r z : Ordering) → is_eq r ≡ true → ordering_then r z ≡ z
then_go Less z e = absurd (true≢false (sym e))
then_go Equal z e = refl
then_go Greater z e = absurd (true≢false (sym e))

module _ (ps : List ℕ) (x y : Row) (left right : List Held) (lefts : map plain left ≡ x) (rights : map plain right ≡ y) (i : ℕ) (r : Ordering) (l : i < length ps)
    (is : r ≡ value_cmp (slice_index_or (map plain left) (get_or ps i 0) (truth false)) (slice_index_or (map plain right) (get_or ps i 0) (truth false))) where
  parts_step : row_cmp (part_of (drop i ps) x) (part_of (drop i ps) y) ≡ ordering_then r (row_cmp (part_of (drop (i + 1) ps) x) (part_of (drop (i + 1) ps) y))
  parts_step =
      let k : suc i ≡ i + 1 = omega arith in
      let here : r ≡ value_cmp (slice_index_or x (get_or ps i 0) (truth false)) (slice_index_or y (get_or ps i 0) (truth false)) =
      is ∙ (λ t. value_cmp (slice_index_or (lefts t) (get_or ps i 0) (truth false)) (slice_index_or (rights t) (get_or ps i 0) (truth false))) in
      ap (λ (qs : List ℕ). row_cmp (part_of qs x) (part_of qs y)) (drop-cons ps i 0 l)
      ∙ (λ t. ordering_then (sym here t) (row_cmp (part_of (drop (k t) ps) x) (part_of (drop (k t) ps) y)))

  pub parts_stop : is_eq r ≡ false → row_cmp (part_of (drop i ps) x) (part_of (drop i ps) y) ≡ row_cmp (part_of ps x) (part_of ps y) → r ≡ row_cmp (part_of ps x) (part_of ps y)
  parts_stop e h = sym (then_stop r (row_cmp (part_of (drop (i + 1) ps) x) (part_of (drop (i + 1) ps) y)) e) ∙ sym parts_step ∙ h

  pub parts_go : is_eq r ≡ true → row_cmp (part_of (drop i ps) x) (part_of (drop i ps) y) ≡ row_cmp (part_of ps x) (part_of ps y)
      → row_cmp (part_of (drop (i + 1) ps) x) (part_of (drop (i + 1) ps) y) ≡ row_cmp (part_of ps x) (part_of ps y)
  parts_go e h = sym (then_go r (row_cmp (part_of (drop (i + 1) ps) x) (part_of (drop (i + 1) ps) y)) e) ∙ sym parts_step ∙ h

-- ---- the interval at a position

ordered : (t : AnyType) (v : Value) → IsTrue (fits (SpanOf t) v) → (span_of v).0 ≤ℤ (span_of v).1
ordered t (truth b) h = absurd (true≢false (sym h))
ordered t (text bytes) h = absurd (true≢false (sym h))
ordered t (point l p) h = absurd (true≢false (sym h))
ordered t (interval l i) h =
    let a = and_parts (same_line l (line_of t)) (is_interval t i) h in
    let b = and_parts (is_number t i.0) (is_number t i.1 && int_le i.0 i.1) a.1 in
    let c = and_parts (is_number t i.1) (int_le i.0 i.1) b.1 in
    int_le-le i.0 i.1 c.1

-- its first member is not past its last one
pub span_ordered : (at : ℕ) (row : Row) → HasInterval at row → (span_in at row).0 ≤ℤ (span_in at row).1
span_ordered at row h = ordered h.0 (value_at row at) h.1

-- the position is one of the row's
pub span_within : (at : ℕ) (values : List Held) → HasInterval at (map plain values) → at < length values
span_within at values h = elim (cases_lt at (length values)) [
  | inl l ↦ l
  | inr l ↦
      let past : value_at (map plain values) at ≡ truth false = value_at-get (map plain values) at ∙ get_or_past (map plain values) at (truth false) (omega (arith, length-map values plain)) in
      absurd (true≢false (sym (subst (λ v. IsTrue (fits (SpanOf h.0) v)) past h.1)))
]
  where
    get_or_past : (xs : List Value) (i : ℕ) (d : Value) → length xs ≤ i → get_or xs i d ≡ d
    get_or_past [] i d l = refl
    get_or_past (x ∷ xs) zero d l = absurd (omega arith)
    get_or_past (x ∷ xs) (suc i) d l = get_or_past xs i d (omega arith)

-- what stands there
pub value_there : (at : ℕ) (values : List Held) (row : Row) (v : Held) → map plain values ≡ row → HasInterval at row → v ≡ get_or values at v → value_at row at ≡ plain v
value_there at values row v same h is =
    sym (ap (λ (r : Row). value_at r at) same) ∙ value_held values at v (span_within at values (subst (λ (r : Row). HasInterval at r) (sym same) h)) is

-- ---- the rows of relations have it

pub row_has : (heading : Heading) (at : ℕ) → AreIntervals heading (at ∷ []) → (row : Row) → IsTrue (fits_heading heading row) → HasInterval at row
row_has heading at intervals row f = (type_of (kind_at heading at), span_fits heading (at ∷ []) intervals row f at (place_listed (at ∷ []) 0 (omega arith)))

pub rows_have_spans : (r : Relation) → IsRelation r → (heading : Heading) → heading ≡ r.heading → (at : ℕ) → AreIntervals heading (at ∷ []) → (x : Row) → In x r.rows → HasInterval at x
rows_have_spans r is heading same at intervals x i =
    row_has heading at intervals x (subst (λ (h : Heading). IsTrue (fits_heading h x)) (sym same) ((list_all-In (fits_heading r.heading) r.rows).0 is.fitting x i))

-- what stands for the rows
pub held_all : {A : Type 0} (now : A → Row) (P : Row → Type 0) (items : List A) (rows : List Row) → map now items ≡ rows → ((x : Row) → In x rows → P x) → All (λ r. P (now r)) items
held_all now P items rows same h = λ i d l.
    let inside : In (now (get_or items i d)) (map now items) = (In-map now (now (get_or items i d)) items).1 (get_or items i d, In-from_Contains items (get_or items i d) (Contains-get_or items i d l), refl) in
    h (now (get_or items i d)) (subst (In (now (get_or items i d))) same inside)

-- ---- a row more

module _ {A : Type 0} where
  pub span_at : (at : ℕ) (now : A → Row) (rows : List A) → All (λ r. HasInterval at (now r)) rows → (k : ℕ) (a : A) → k < length rows → a ≡ get_or rows k a → HasInterval at (now a)
  span_at at now rows h k a l e = subst (λ z. HasInterval at (now z)) (sym e) (h k a l)

  pub beyond_at : (label : List ℕ) (at : ℕ) (gap : Gap) (now : A → Row) (rows : List A) (i : ℕ) (a b : A) → i < length rows → a ≡ get_or rows (i - 1) a → b ≡ get_or rows i b → IsBeyond label at gap (now a) (now b)
      → (j : ℕ) (d : Row) → suc j ≡ i → IsBeyond label at gap (get_or (map now rows) j d) (get_or (map now rows) i d)
  beyond_at label at gap now rows i a b l first second h j d e =
      let q : i - 1 ≡ j = omega arith in
      let k : j < length rows = omega arith in
      let u : get_or (map now rows) j d ≡ now a = get_or-map now rows j a d k ∙ ap now (sym (subst (λ m. a ≡ get_or rows m a) q first)) in
      let v : get_or (map now rows) i d ≡ now b = get_or-map now rows i b d l ∙ ap now (sym second) in
      subst (λ (y : Row). IsBeyond label at gap (get_or (map now rows) j d) y) (sym v) (subst (λ (x : Row). IsBeyond label at gap x (now b)) (sym u) h)

pub beyond_turn : (label : List ℕ) (at : ℕ) (gap : Gap) (rows : List Row) (i : ℕ) → ((j : ℕ) (d : Row) → suc j < i → IsBeyond label at gap (get_or rows j d) (get_or rows (suc j) d))
    → ((j : ℕ) (d : Row) → suc j ≡ i → IsBeyond label at gap (get_or rows j d) (get_or rows i d)) → (j : ℕ) (d : Row) → suc j < i + 1 → IsBeyond label at gap (get_or rows j d) (get_or rows (suc j) d)
beyond_turn label at gap rows i h s j d l = elim (cases_lt (suc j) i) [
  | inl w ↦ h j d w
  | inr w ↦ let q : suc j ≡ i = omega arith in subst (λ k. IsBeyond label at gap (get_or rows j d) (get_or rows k d)) (sym q) (s j d q)
]

-- what stands for all rows
pub all_turned : {A : Type 0} (label : List ℕ) (at : ℕ) (gap : Gap) (now : A → Row) (items : List A) (i : ℕ) → length items ≤ i → All (λ r. HasInterval at (now r)) items
    → ((j : ℕ) (d : Row) → suc j < i → IsBeyond label at gap (get_or (map now items) j d) (get_or (map now items) (suc j) d)) → AreBeyond label at gap (map now items)
all_turned label at gap now items i l spans h = record {
  spans = All-map (HasInterval at) now items spans;
  beyond = λ j d k. h j d (omega (arith, length-map items now));
}

-- the rows in another order
pub moved_spans : {A : Type 0} (at : ℕ) (now : A → Row) (rows items slice : List A) → slice ≡ items → IsPermutation (map now rows) (map now items) → All (λ r. HasInterval at (now r)) rows → All (λ r. HasInterval at (now r)) slice
moved_spans at now rows items slice same moved h = moved_all (HasInterval at) now (map now rows) items slice same moved (All-map (HasInterval at) now rows h)

pub moved_chain : {A : Type 0} (label : List ℕ) (at : ℕ) (gap : Gap) (now : A → Row) (rows items slice : List A) → slice ≡ items → IsPermutation (map now rows) (map now items) → AreBeyond label at gap (map now slice)
    → IsChain label at gap (map now rows)
moved_chain label at gap now rows items slice same moved h = record {
  list = map now slice;
  moved = subst (λ xs. IsPermutation (map now rows) (map now xs)) (sym same) moved;
  beyond = h;
}

-- ---- rows that are each beyond the one before it

gap_least : (gap : Gap) → pos 0 ≤ℤ gap_of gap
gap_least Zero = omega (arith, ints)
gap_least One = omega (arith, ints)

module _ (label : List ℕ) (at : ℕ) (gap : Gap) where
  abbrev Beyond : Row → Row → Type 0
  Beyond = IsBeyond label at gap

  abbrev order : Row → Row → Ordering
  order x y = row_cmp (part_of label x) (part_of label y)

  -- each row is beyond all before it
  abbrev pub AllBeyond : List Row → Type 0
  AllBeyond [] = Unit {0}
  AllBeyond (x ∷ xs) = HasInterval at x × AllByRecursion (Beyond x) xs × AllBeyond xs

  pub beyond_trans : (x y z : Row) → HasInterval at y → Beyond x y → Beyond y z → Beyond x z
  beyond_trans x y z s a b = elim a [
    | inl p ↦ elim b [
      | inl q ↦ inl (row_total.trans (part_of label x) (part_of label y) (part_of label z) p q)
      | inr q ↦ inl (sym (alike_right row_total (part_of label y) (part_of label z) (part_of label x) q.0) ∙ p)
    ]
    | inr p ↦ elim b [
      | inl q ↦ inl (row_total.congr (part_of label x) (part_of label y) (part_of label z) p.0 ∙ q)
      | inr q ↦
          let t = span_ordered at y s in
          let g = gap_least gap in
          let u = p.1 in
          let v = q.1 in
          inr (row_total.congr (part_of label x) (part_of label y) (part_of label z) p.0 ∙ q.0, omega (arith, ints))
    ]
  ]

  pub all_after : (x y : Row) (ys : List Row) → Beyond x y → HasInterval at y → AllByRecursion (Beyond y) ys → AllByRecursion (Beyond x) ys
  all_after x y [] a s h = tt
  all_after x y (z ∷ zs) a s h = (beyond_trans x y z s a h.0, all_after x y zs a s h.1)

  pub all_beyond : (rows : List Row) → AreBeyond label at gap rows → AllBeyond rows
  all_beyond [] h = tt
  all_beyond (x ∷ []) h = (h.spans 0 x (omega arith), tt, tt)
  all_beyond (x ∷ y ∷ ys) h =
      let rest : AllBeyond (y ∷ ys) = all_beyond (y ∷ ys) (record { spans = λ i d l. h.spans (suc i) d (omega arith); beyond = λ i d l. h.beyond (suc i) d (omega arith) }) in
      let first : Beyond x y = h.beyond 0 x (omega arith) in
      (h.spans 0 x (omega arith), (first, all_after x y ys first rest.0 rest.1), rest)

  pub from_all : (x y : Row) (ys : List Row) → AllByRecursion (Beyond x) ys → In y ys → Beyond x y
  from_all x y [] h m = absurd m
  from_all x y (z ∷ zs) h m = elim m [ inl e ↦ subst (Beyond x) (sym e) h.0 | inr w ↦ from_all x y zs h.1 w ]

  -- two of the rows are one, or one is beyond the other
  two_rows : (rows : List Row) → AllBeyond rows → (x y : Row) → In x rows → In y rows → (x ≡ y) ⊎ (Beyond x y ⊎ Beyond y x)
  two_rows [] h x y m n = absurd m
  two_rows (z ∷ zs) h x y m n = elim m [
    | inl e ↦ elim n [
      | inl f ↦ inl (e ∙ sym f)
      | inr w ↦ inr (inl (subst (λ (v : Row). Beyond v y) (sym e) (from_all z y zs h.1 w)))
    ]
    | inr v ↦ elim n [
      | inl f ↦ inr (inr (subst (λ (w : Row). Beyond w x) (sym f) (from_all z x zs h.1 v)))
      | inr w ↦ two_rows zs h.2 x y v w
    ]
  ]

  beyond_ends : (x y : Row) → part_of label x ≡ part_of label y → Beyond x y → ((span_in at x).1 +ℤ gap_of gap) <ℤ (span_in at y).0
  beyond_ends x y e h = elim h [
    | inl l ↦ absurd (not_less (subst (λ (p : Row). row_cmp (part_of label x) p ≡ Less) (sym e) l))
    | inr w ↦ w.1
  ]
    where
      not_less : row_cmp (part_of label x) (part_of label x) ≡ Less → ⊥
      not_less l = let t : row_cmp (part_of label x) (part_of label x) ≡ Equal = tied_itself row_total (part_of label x) in cc

  pub apart_from_chain : (rows : List Row) → IsChain label at gap rows → AreApart label at gap rows
  apart_from_chain rows chain =
      let h : AllBeyond chain.list = all_beyond chain.list chain.beyond in
      record {
        parted = λ x y m n e.
            let i : In x chain.list = In-permutation rows chain.list x chain.moved ((among_in x rows).0 m) in
            let j : In y chain.list = In-permutation rows chain.list y chain.moved ((among_in y rows).0 n) in
            elim (two_rows chain.list h x y i j) [
              | inl same ↦ inl same
              | inr w ↦ elim w [
                | inl b ↦ inr (inl (beyond_ends x y e b))
                | inr b ↦ inr (inr (beyond_ends y x (sym e) b))
              ]
            ];
      }
