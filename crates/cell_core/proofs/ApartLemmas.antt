-- Rows on one side that stand in order, no two of one label meeting, are their packed form.
use Rattle.std.proofs.Common.{◌≡◌, ℕ, zero, suc, ◌+◌, ◌<◌, ◌≤◌, ℤ, pos, ◌+ℤ◌, ◌-ℤ◌, ◌≤ℤ◌, ◌<ℤ◌, List, [], ◌∷◌, map, take, length, get_or, ◌↔◌, ◌⊎◌, inl, inr, arith, sym, ap, subst, refl, ◌∙◌, Ordering}
use Rattle.std.specs.declared.cmp.Ordering.TheVariants.{Less, Equal, Greater}
use Rattle.std.specs.Cmp.{IsTotalOrder}
use Rattle.std.specs.Ordering.{int_cmp, ordering_then}
use Rattle.std.specs.List.{All, AllByRecursion}
use Rattle.std.specs.List.Sorted.{IsPermutation}
use Rattle.std.proofs.lemmas.Bool.{cases_lt}
use Rattle.std.proofs.lemmas.Int.{ints}
use Rattle.std.proofs.lemmas.Cmp.{tied_itself, alike_right}
use Rattle.std.proofs.lemmas.List.{length-map, take_all}
use Rattle.std.proofs.lemmas.List.Elements.{All-same}
use Rattle.std.proofs.lemmas.List.Sorted.{Contains-permutation, IsPermutation-sym, IsPermutation-map, All-permutation, length_permutation}
use Rattle.base_core.specs.Sets.{in_order}
use Rattle.base_core.proofs.SetLemmas.{Ascends, AllAfter, Separates, in_order_by_members, in_order_of_ascending}
use Rattle.base_core.proofs.OrderingLemmas.{tied-not_Less}
use Rattle.interval_core.specs.Members.{Span, at_point}
use Rattle.interval_core.specs.Packing.{pack}
use Rattle.cell_packing.specs.Packed.{IsRun, nowhere, packs, points_of, Has}
use Rattle.cell_packing.specs.Covering.{Among}
use Rattle.cell_packing.specs.Boxed.{Boxed, boxed_cmp, packed_boxes, InBoxes, sides_from}
use Rattle.cell_packing.proofs.Order.{among_contains, contains_among}
use Rattle.cell_packing.proofs.PackedBoxes.{among_in, packed_form_is}
use Rattle.cell_core.specs.Boxes.{IsBox}
use Rattle.cell_core.specs.Numbering.{numbers_of}
use Rattle.cell_core.specs.Apart.{first_side, HasOneSide, IsBeyond, AreBeyond}

-- ---- the rows of a check

-- a box of one type
pub one_box : {T P : Type 0} (has : T → P → Type 0) (t : T) (is : List (P × P)) → IsBox has (t ∷ []) is → (length is ≡ 1) × ((d : P × P) → has t (get_or is 0 d).0 × has t (get_or is 0 d).1)
one_box has t [] h = absurd h
one_box has t (i ∷ []) h = (refl, λ d. h.0)
one_box has t (i ∷ j ∷ is) h = absurd h.1

pub first_is : {P : Type 0} (n : P → ℤ) (is : List (P × P)) (e : P × P) → length is ≡ 1 → ((d : P × P) → e ≡ get_or is 0 d) → get_or (map (numbers_of n) is) 0 nowhere ≡ (n e.0, n e.1)
first_is n [] e l h = absurd (omega arith)
first_is n (i ∷ is) e l h = let q : e ≡ i = h i in λ t. (n (sym q t).0, n (sym q t).1)

map_both : {X Y Z : Type 0} (f : X → Y) (g : Y → Z) (xs : List X) → map g (map f xs) ≡ map (λ x. g (f x)) xs
map_both f g [] = refl
map_both f g (x ∷ xs) = ap (λ zs. g (f x) ∷ zs) (map_both f g xs)

all_from_map : {X Y : Type 0} (Q : Y → Type 0) (f : X → Y) (xs : List X) → All Q (map f xs) → All (λ x. Q (f x)) xs
all_from_map Q f [] h k d l = absurd (omega arith)
all_from_map Q f (x ∷ xs) h zero d l = h 0 (f x) (omega arith)
all_from_map Q f (x ∷ xs) h (suc k) d l = all_from_map Q f xs (λ j e m. h (suc j) e (omega arith)) k d (omega arith)

-- what stands for the rows in another order
pub moved_whole : {X Y : Type 0} (now : X → Y) (rows : List Y) (i : ℕ) (list moved : List X) → map now list ≡ take i rows → length rows ≤ i → IsPermutation list moved → IsPermutation rows (map now moved)
moved_whole now rows i list moved e l p = subst (λ ys. IsPermutation ys (map now moved)) (e ∙ take_all i rows l) (IsPermutation-map now list moved p)

pub moved_all : {X Y : Type 0} (Q : Y → Type 0) (now : X → Y) (rows : List Y) (items slice : List X) → slice ≡ items → IsPermutation rows (map now items) → All Q rows → All (λ x. Q (now x)) slice
moved_all Q now rows items slice e p h = All-same (λ x. Q (now x)) slice items e (all_from_map Q now items (All-permutation Q rows (map now items) p h))

pub moved_count : {X Y : Type 0} (now : X → Y) (rows : List Y) (items slice : List X) → slice ≡ items → IsPermutation rows (map now items) → length slice ≡ length rows
moved_count now rows items slice e p = ap length e ∙ sym (length-map items now) ∙ length_permutation rows (map now items) p

module _ {P : Type 0} (order : P → P → Ordering) (rows : List (Boxed P)) where
  -- a row more
  pub side_turn : (i : ℕ) → ((j : ℕ) (d : Boxed P) → j < i → HasOneSide (get_or rows j d)) → ((d : Boxed P) → HasOneSide (get_or rows i d)) → (j : ℕ) (d : Boxed P) → j < i + 1 → HasOneSide (get_or rows j d)
  side_turn i h s j d l = elim (cases_lt j i) [ inl w ↦ h j d w | inr w ↦ let q : i ≡ j = omega arith in subst (λ k. HasOneSide (get_or rows k d)) q (s d) ]

  pub beyond_turn : (i : ℕ) → ((j : ℕ) (d : Boxed P) → suc j < i → IsBeyond order (get_or rows j d) (get_or rows (suc j) d)) → ((j : ℕ) (d : Boxed P) → suc j ≡ i → IsBeyond order (get_or rows j d) (get_or rows i d))
      → (j : ℕ) (d : Boxed P) → suc j < i + 1 → IsBeyond order (get_or rows j d) (get_or rows (suc j) d)
  beyond_turn i h s j d l = elim (cases_lt (suc j) i) [ inl w ↦ h j d w | inr w ↦ let q : suc j ≡ i = omega arith in subst (λ k. IsBeyond order (get_or rows j d) (get_or rows k d)) (sym q) (s j d q) ]

  pub all_turned : (i n : ℕ) → n ≡ length rows → n ≤ i → ((j : ℕ) (d : Boxed P) → j < i → HasOneSide (get_or rows j d)) → ((j : ℕ) (d : Boxed P) → suc j < i → IsBeyond order (get_or rows j d) (get_or rows (suc j) d)) → AreBeyond order rows
  all_turned i n e g h s = record { sides = λ j d l. h j d (omega arith); beyond = λ j d l. s j d (omega arith) }

-- ---- the packed form

int_less : (a b : ℤ) → a <ℤ b → int_cmp a b ≡ Less
int_less a b h = grind (arith, ints)

module _ {P : Type 0} (order : P → P → Ordering) (o : IsTotalOrder order) where
  -- each row is beyond all before it
  abbrev Row : Type 0
  Row = Boxed P

  abbrev AllBeyond : List Row → Type 0
  AllBeyond [] = Unit {0}
  AllBeyond (x ∷ xs) = HasOneSide x × AllByRecursion (IsBeyond order x) xs × AllBeyond xs

  beyond_trans : (x y z : Row) → HasOneSide y → IsBeyond order x y → IsBeyond order y z → IsBeyond order x z
  beyond_trans x y z s a b = elim a [
    | inl p ↦ elim b [
      | inl q ↦ inl (o.trans x.0 y.0 z.0 p q)
      | inr q ↦ inl (sym (alike_right o y.0 z.0 x.0 q.0) ∙ p)
    ]
    | inr p ↦ elim b [
      | inl q ↦ inl (o.congr x.0 y.0 z.0 p.0 ∙ q)
      | inr q ↦ let t = s.1 in let u = p.1 in let v = q.1 in inr (o.congr x.0 y.0 z.0 p.0 ∙ q.0, omega (arith, ints))
    ]
  ]

  all_after : (x y : Row) (ys : List Row) → IsBeyond order x y → HasOneSide y → AllByRecursion (IsBeyond order y) ys → AllByRecursion (IsBeyond order x) ys
  all_after x y [] a s h = tt
  all_after x y (z ∷ zs) a s h = (beyond_trans x y z s a h.0, all_after x y zs a s h.1)

  all_beyond : (rows : List Row) → AreBeyond order rows → AllBeyond rows
  all_beyond [] h = tt
  all_beyond (x ∷ []) h = (h.sides 0 x (omega arith), tt, tt)
  all_beyond (x ∷ y ∷ ys) h =
      let rest : AllBeyond (y ∷ ys) = all_beyond (y ∷ ys) (record { sides = λ i d l. h.sides (suc i) d (omega arith); beyond = λ i d l. h.beyond (suc i) d (omega arith) }) in
      let first : IsBeyond order x y = h.beyond 0 x (omega arith) in
      (h.sides 0 x (omega arith), (first, all_after x y ys first rest.0 rest.1), rest)

  one_side : (rows : List Row) → AllBeyond rows → (x : Row) → Among x rows → HasOneSide x
  one_side [] h x m = absurd m
  one_side (y ∷ ys) h x m = elim m [ inl e ↦ subst HasOneSide e h.0 | inr w ↦ one_side ys h.2 x w ]

  from_all : (x y : Row) (ys : List Row) → AllByRecursion (IsBeyond order x) ys → Among y ys → IsBeyond order x y
  from_all x y [] h m = absurd m
  from_all x y (z ∷ zs) h m = elim m [ inl e ↦ subst (IsBeyond order x) e h.0 | inr w ↦ from_all x y zs h.1 w ]

  -- two of the rows are one, or one is beyond the other
  two_rows : (rows : List Row) → AllBeyond rows → (x y : Row) → Among x rows → Among y rows → (x ≡ y) ⊎ (IsBeyond order x y ⊎ IsBeyond order y x)
  two_rows [] h x y m n = absurd m
  two_rows (z ∷ zs) h x y m n = elim m [
    | inl e ↦ elim n [
      | inl f ↦ inl (sym e ∙ f)
      | inr w ↦ inr (inl (subst (λ (v : Row). IsBeyond order v y) e (from_all z y zs h.1 w)))
    ]
    | inr v ↦ elim n [
      | inl f ↦ inr (inr (subst (λ (w : Row). IsBeyond order w x) f (from_all z x zs h.1 v)))
      | inr w ↦ two_rows zs h.2 x y v w
    ]
  ]

  beyond_ends : (l : P) (x y : List Span) → IsBeyond order (l, x) (l, y) → ((get_or x 0 nowhere).1 +ℤ pos 1) <ℤ (get_or y 0 nowhere).0
  beyond_ends l x y h = elim h [ inl e ↦ absurd (tied-not_Less order l l (tied_itself o l) e) | inr w ↦ w.1 ]

  -- rows of one label are one, or do not meet
  two_spans : (rows : List Row) → AllBeyond rows → (l : P) (x y : List Span) → Among (l, x) rows → Among (l, y) rows
      → (get_or x 0 nowhere ≡ get_or y 0 nowhere) ⊎ ((((get_or x 0 nowhere).1 +ℤ pos 1) <ℤ (get_or y 0 nowhere).0) ⊎ (((get_or y 0 nowhere).1 +ℤ pos 1) <ℤ (get_or x 0 nowhere).0))
  two_spans rows h l x y m n = elim (two_rows rows h (l, x) (l, y) m n) [
    | inl e ↦ inl (ap (λ (v : Row). first_side v) e)
    | inr w ↦ elim w [ inl v ↦ inr (inl (beyond_ends l x y v)) | inr v ↦ inr (inr (beyond_ends l y x v)) ]
  ]

  -- ---- in order

  row_less : (x y : Row) → HasOneSide x → HasOneSide y → IsBeyond order x y → boxed_cmp order x y ≡ Less
  row_less (l, []) y s t h = absurd (omega (arith, s.0))
  row_less (l, a ∷ b ∷ c) y s t h = absurd (omega (arith, s.0))
  row_less (l, a ∷ []) (m, []) s t h = absurd (omega (arith, t.0))
  row_less (l, a ∷ []) (m, b ∷ c ∷ d) s t h = absurd (omega (arith, t.0))
  row_less (l, a ∷ []) (m, b ∷ []) s t h = elim h [
    | inl e ↦ ap (λ r. ordering_then r (ordering_then (ordering_then (int_cmp a.0 b.0) (int_cmp a.1 b.1)) Equal)) e
    | inr w ↦
        let u = s.1 in
        let v = w.1 in
        let f : int_cmp a.0 b.0 ≡ Less = int_less a.0 b.0 (omega (arith, ints)) in
        λ i. ordering_then (w.0 i) (ordering_then (ordering_then (f i) (int_cmp a.1 b.1)) Equal)
  ]

  ascend_after : (x : Row) (ys : List Row) → HasOneSide x → AllBeyond ys → AllByRecursion (IsBeyond order x) ys → AllAfter (boxed_cmp order) x ys
  ascend_after x [] s h a = tt
  ascend_after x (y ∷ ys) s h a = (row_less x y s h.0 a.0, ascend_after x ys s h.2 a.1)

  ascend : (rows : List Row) → AllBeyond rows → Ascends (boxed_cmp order) rows
  ascend [] h = tt
  ascend (x ∷ xs) h = (ascend_after x xs h.0 h.2 h.1, ascend xs h.2)

  -- ---- and packed

  -- a row of the label has the number
  abbrev Covered : List Row → P → ℤ → Type 0
  Covered rows l p = InBoxes rows l (p ∷ [])

  covered_by : (rows : List Row) → AllBeyond rows → (l : P) (p : ℤ) → Covered rows l p → (i : Span) × Among (l, i ∷ []) rows × (i.0 ≤ℤ p) × (p ≤ℤ i.1)
  covered_by rows h l p c = go c.0 c.1 c.2 (one_side rows h (l, c.0) c.1)
    where
      go : (x : List Span) → Among (l, x) rows → Has x (p ∷ []) → HasOneSide (l, x) → (i : Span) × Among (l, i ∷ []) rows × (i.0 ≤ℤ p) × (p ≤ℤ i.1)
      go [] m k s = absurd (omega (arith, s.0))
      go (a ∷ b ∷ x) m k s = absurd (omega (arith, s.0))
      go (a ∷ []) m k s = (a, m, k.0, k.1)

  covers : (rows : List Row) (l : P) (i : Span) (p : ℤ) → Among (l, i ∷ []) rows → i.0 ≤ℤ p → p ≤ℤ i.1 → Covered rows l p
  covers rows l i p m a b = (i ∷ [], m, (a, b, tt))

  row_runs : (rows : List Row) → AllBeyond rows → (l : P) (i : Span) → Among (l, i ∷ []) rows → IsRun (Covered rows l) i
  row_runs rows h l i m =
      let s : i.0 ≤ℤ i.1 = (one_side rows h (l, i ∷ []) m).1 in
      record {
        some = s;
        each = λ p a b. covers rows l i p m a b;
        before = λ c.
            let w = covered_by rows h l (i.0 -ℤ pos 1) c in
            apart w.0 w.1 (i.0 -ℤ pos 1) w.2 w.3 (inl (omega (arith, ints)));
        after = λ c.
            let w = covered_by rows h l (i.1 +ℤ pos 1) c in
            apart w.0 w.1 (i.1 +ℤ pos 1) w.2 w.3 (inr (omega (arith, ints)));
      }
    where
      apart : (j : Span) → Among (l, j ∷ []) rows → (p : ℤ) → j.0 ≤ℤ p → p ≤ℤ j.1 → ((p +ℤ pos 1 ≡ i.0) ⊎ (p ≡ i.1 +ℤ pos 1)) → ⊥
      apart j n p a b c =
          let s : i.0 ≤ℤ i.1 = (one_side rows h (l, i ∷ []) m).1 in
          elim (two_spans rows h l (i ∷ []) (j ∷ []) m n) [
            | inl e ↦ let u : i.0 ≡ j.0 = ap (λ (v : Span). v.0) e in let v : i.1 ≡ j.1 = ap (λ (v : Span). v.1) e in elim c [ inl q ↦ omega (arith, ints) | inr q ↦ omega (arith, ints) ]
            | inr w ↦ elim w [
              | inl v ↦ elim c [ inl q ↦ omega (arith, ints) | inr q ↦ omega (arith, ints) ]
              | inr v ↦ elim c [ inl q ↦ omega (arith, ints) | inr q ↦ omega (arith, ints) ]
            ]
          ]

  run_rows : (rows : List Row) → AllBeyond rows → (l : P) (i : Span) → IsRun (Covered rows l) i → Among (l, i ∷ []) rows
  run_rows rows h l i r =
      let w = covered_by rows h l i.0 (r.each i.0 (omega (arith, ints)) r.some) in
      let j : Span = w.0 in
      let m : Among (l, j ∷ []) rows = w.1 in
      let a : j.0 ≤ℤ i.0 = w.2 in
      let b : i.0 ≤ℤ j.1 = w.3 in
      let first : j.0 ≡ i.0 = same_first j m a b in
      let last : j.1 ≡ i.1 = same_last j m a b in
      subst (λ (k : Span). Among (l, k ∷ []) rows) (λ t. (first t, last t)) m
    where
      int_cases : (x y : ℤ) → (x <ℤ y) ⊎ (y ≤ℤ x)
      int_cases x y = grind (arith, ints)

      same_first : (j : Span) → Among (l, j ∷ []) rows → j.0 ≤ℤ i.0 → i.0 ≤ℤ j.1 → j.0 ≡ i.0
      same_first j m a b = elim (int_cases j.0 i.0) [
        | inl c ↦ absurd (r.before (covers rows l j (i.0 -ℤ pos 1) m (omega (arith, ints)) (omega (arith, ints))))
        | inr c ↦ omega (arith, ints)
      ]

      no_gap : (j : Span) → Among (l, j ∷ []) rows → j.0 ≤ℤ i.0 → i.0 ≤ℤ j.1 → j.1 <ℤ i.1 → ⊥
      no_gap j m a b c =
          let v = covered_by rows h l (j.1 +ℤ pos 1) (r.each (j.1 +ℤ pos 1) (omega (arith, ints)) (omega (arith, ints))) in
          let k : Span = v.0 in
          let n : Among (l, k ∷ []) rows = v.1 in
          let d : k.0 ≤ℤ (j.1 +ℤ pos 1) = v.2 in
          let e : (j.1 +ℤ pos 1) ≤ℤ k.1 = v.3 in
          elim (two_spans rows h l (j ∷ []) (k ∷ []) m n) [
            | inl q ↦ let u : j.1 ≡ k.1 = ap (λ (x : Span). x.1) q in omega (arith, ints)
            | inr q ↦ elim q [ inl u ↦ omega (arith, ints) | inr u ↦ omega (arith, ints) ]
          ]

      same_last : (j : Span) → Among (l, j ∷ []) rows → j.0 ≤ℤ i.0 → i.0 ≤ℤ j.1 → j.1 ≡ i.1
      same_last j m a b = elim (int_cases i.1 j.1) [
        | inl c ↦ let s = r.some in absurd (r.after (covers rows l j (i.1 +ℤ pos 1) m (omega (arith, ints)) (omega (arith, ints))))
        | inr c ↦ elim (int_cases j.1 i.1) [ inl d ↦ absurd (no_gap j m a b d) | inr d ↦ omega (arith, ints) ]
      ]

  points_from : (rows : List Row) (l : P) (i : Span) → IsRun (Covered rows l) i → packs 1 (points_of (InBoxes rows l)) (i ∷ [])
  points_from rows l i r = record {
    some = r.some;
    each = λ p a b. ((refl, tt), r.each p a b);
    before = λ c. r.before c.1;
    after = λ c. r.after c.1;
  }

  points_to : (rows : List Row) (l : P) (i : Span) → packs 1 (points_of (InBoxes rows l)) (i ∷ []) → IsRun (Covered rows l) i
  points_to rows l i r = record {
    some = r.some;
    each = λ p a b. (r.each p a b).1;
    before = λ c. r.before ((refl, tt), c);
    after = λ c. r.after ((refl, tt), c);
  }

  row_packed : (rows : List Row) → AllBeyond rows → (x : Row) → Among x rows → (length x.1 ≡ 1) × packs 1 (points_of (InBoxes rows x.0)) x.1
  row_packed rows h (l, y) m = go y m (one_side rows h (l, y) m)
    where
      go : (y : List Span) → Among (l, y) rows → HasOneSide (l, y) → (length y ≡ 1) × packs 1 (points_of (InBoxes rows l)) y
      go [] m s = absurd (omega (arith, s.0))
      go (a ∷ b ∷ c) m s = absurd (omega (arith, s.0))
      go (a ∷ []) m s = (refl, points_from rows l a (row_runs rows h l a m))

  packed_row : (rows : List Row) → AllBeyond rows → (l : P) (y : List Span) → length y ≡ 1 → packs 1 (points_of (InBoxes rows l)) y → Among (l, y) rows
  packed_row rows h l [] e p = absurd (omega arith)
  packed_row rows h l (a ∷ b ∷ c) e p = absurd (omega arith)
  packed_row rows h l (a ∷ []) e p = run_rows rows h l a (points_to rows l a p)

  -- rows of which the list that stands so is another order are their packed form
  pub apart_packed : IsTotalOrder (boxed_cmp order) → Separates (boxed_cmp order) → (rows list : List Row) → IsPermutation rows list → AreBeyond order list
      → in_order (boxed_cmp order) rows ≡ packed_boxes order 1 rows
  apart_packed total same rows list moved beyond =
      let h : AllBeyond list = all_beyond list beyond in
      let up : Ascends (boxed_cmp order) list = ascend list h in
      let one : in_order (boxed_cmp order) rows ≡ in_order (boxed_cmp order) list = in_order_by_members (boxed_cmp order) total same rows list (λ x. (
        λ i. (among_in x list).0 (contains_among list x (Contains-permutation rows list x moved (among_contains rows x ((among_in x rows).1 i)))),
        λ i. (among_in x rows).0 (contains_among rows x (Contains-permutation list rows x (IsPermutation-sym rows list moved) (among_contains list x ((among_in x list).1 i)))),
      )) in
      let two : in_order (boxed_cmp order) list ≡ list = in_order_of_ascending (boxed_cmp order) total same list up in
      let form : list ≡ packed_boxes order 1 list = packed_form_is (boxed_cmp order) total same 1 list list (λ x m. (one_side list h x m).0) up (λ x. (
        row_packed list h x,
        λ w. packed_row list h x.0 x.1 w.0 w.1,
      )) in
      one ∙ two ∙ form ∙ ap (pack (boxed_cmp order) (sides_from 0 1)) (sym one)

  -- the same of lists of what stands for rows
  pub whole_packed : IsTotalOrder (boxed_cmp order) → Separates (boxed_cmp order) → {X Y : Type 0} (now : X → Y) (row : Y → Row) (rows : List Y) (items slice : List X) → slice ≡ items → IsPermutation rows (map now items) → AreBeyond order (map (λ x. row (now x)) slice)
      → in_order (boxed_cmp order) (map row rows) ≡ packed_boxes order 1 (map row rows)
  whole_packed total same now row rows items slice e moved beyond =
      let both : map row (map now items) ≡ map (λ x. row (now x)) slice = map_both now row items ∙ ap (map (λ x. row (now x))) (sym e) in
      apart_packed total same (map row rows) (map (λ x. row (now x)) slice) (subst (λ (ys : List Row). IsPermutation (map row rows) ys) both (IsPermutation-map row rows (map now items) moved)) beyond
