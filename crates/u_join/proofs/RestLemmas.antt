-- What is left of the intervals of rows, found one row after the other.
use Rattle.std.proofs.Common.{◌≡◌, inl, inr, ℕ, ◌+◌, ◌<◌, ◌≤◌, ℤ, pos, ◌+ℤ◌, ◌<ℤ◌, ◌≤ℤ◌, true, List, [], ◌∷◌, ◌++◌, length, refl, sym, ◌∙◌, subst, arith}
use Rattle.std.specs.Prelude.{Result, Ok, Err, OnOk}
use Rattle.std.specs.Int.{int_max}
use Rattle.std.specs.declared.cmp.Ordering.TheVariants.{Less, Equal}
use Rattle.std.proofs.lemmas.Bool.{cases_lt}
use Rattle.std.proofs.lemmas.Cmp.{alike_right, tied_itself}
use Rattle.std.proofs.lemmas.Int.{ints, clamps, by_lt_z}
use Rattle.cell_packing.specs.Covering.{Among}
use Rattle.cell_packing.proofs.AmongLemmas.{among_append}
use Rattle.cell_boxes.specs.Rows.{IsRow}
use Rattle.cell_boxes.proofs.RowLemmas.{row_among, among_row, one_row, row_there}
use Rattle.value_core.specs.Order.{row_total, row_separates}
use Rattle.value_core.specs.Values.{Row, row_cmp}
use Rattle.u_join.specs.RowPairs.{Stood, Ascend, HaveOrder, AreBehind, AreAhead}
use Rattle.u_join.specs.Rests.{HasNumber, Stands, IsPast, ArePast, Covers, AreMeeting, IsRest, IsGiven, AreCutTo, AreRests, part, IsCut}

-- what follows where a call ends well
pub on_ok : {X E : Type 0} (P Q : Type 0) (r : Result X E) → (P → Q) → OnOk r P → OnOk r Q
on_ok P Q (Ok x) f h = f h
on_ok P Q (Err e) f h = h

-- ---- keys

tied : (a b : Row) → a ≡ b → row_cmp a b ≡ Equal
tied a b e = subst (λ q. row_cmp a q ≡ Equal) e (tied_itself row_total a)

not_less : (a b : Row) → a ≡ b → row_cmp a b ≡ Less → ⊥
not_less a b e l = let t = tied a b e in cc

-- ---- past rows

-- what is past for a row is past for the next
past_later : (x x' y : Stood) → Stands x x' → IsPast x y → IsPast x' y
past_later x x' y s h = elim s [
  | inl l ↦ inl (elim h [ inl w ↦ row_total.trans y.1 x.1 x'.1 w l | inr w ↦ row_total.congr y.1 x.1 x'.1 w.0 ∙ l ])
  | inr l ↦ elim h [
    | inl w ↦ inl (sym (alike_right row_total x.1 x'.1 y.1 l.0) ∙ w)
    | inr w ↦ let u = l.1 in let v = w.1 in inr (row_total.congr y.1 x.1 x'.1 w.0 ∙ l.0, omega (arith, ints))
  ]
]

-- a row that is past has no number of the other
past_apart : (x y : Stood) (p : ℤ) → IsPast x y → y.1 ≡ x.1 → HasNumber y.2 p → HasNumber x.2 p → ⊥
past_apart x y p h e a b = elim h [
  | inl l ↦ not_less y.1 x.1 e l
  | inr w ↦ let u = w.1 in let c = a.1 in let d = b.0 in omega (arith, ints)
]

module _ {A : Type 0} (see : A → Stood) where
  pub past_more : (left rights : List A) → Ascend see left → (i n : ℕ) (x y : A) → IsRow left i x → IsRow left (i + 1) y → ArePast see (see x) rights n → ArePast see (see y) rights n
  past_more left rights up i n x y a b old j z h l = past_later (see x) (see y) (see z) (up i (i + 1) x y (omega arith) a b) (old j z h l)

  -- what is past begins before the end
  pub past_behind : (x : Stood) (rows : List A) → HaveOrder see rows → x.2.0 ≤ℤ x.2.1 → (n : ℕ) → ArePast see x rows n → AreBehind see true x.1 x.2.1 rows n
  past_behind x rows order own n past j y a l = elim (past j y a l) [
    | inl w ↦ inl w
    | inr w ↦ let u = order j y a in let v = w.1 in inr (w.0, omega (arith, ints))
  ]

  -- the rows from the first that is not past up to the first that begins behind the end
  pub meeting : (x : Stood) (rows : List A) → Ascend see rows → (first end : ℕ) → end ≤ length rows → ArePast see x rows first → ((y : A) → IsRow rows first y → IsPast x (see y) → ⊥)
      → AreBehind see true x.1 x.2.1 rows end → AreAhead see true x.1 x.2.1 rows end → AreMeeting see x rows first end
  meeting x rows up first end within past next before ahead = record {
    end_within = within;
    inside = λ j y a l m. elim (before j y a m) [
      | inl w ↦ absurd (no_lesser j y a l w)
      | inr w ↦ (row_separates (see y).1 x.1 w.0, w.1)
    ];
    all = λ j y p a e h g. (
      elim (cases_lt j first) [
        | inl l ↦ absurd (past_apart x (see y) p (past j y a l) e h g)
        | inr l ↦ l
      ],
      elim (cases_lt j end) [
        | inl l ↦ l
        | inr l ↦ let c = h.0 in let d = g.1 in absurd (ahead j y a l (inr (tied (see y).1 x.1 e, omega (arith, ints))))
      ],
    );
  }
    where
      no_lesser : (j : ℕ) (y : A) → IsRow rows j y → first ≤ j → row_cmp (see y).1 x.1 ≡ Less → ⊥
      no_lesser j y a l w =
          let k = a.0 in
          let z = row_there rows first (omega arith) in
          elim (up first j z.0 y l z.1 a) [
            | inl s ↦ next z.0 z.1 (inl (row_total.trans (see z.0).1 (see y).1 x.1 s w))
            | inr s ↦ next z.0 z.1 (inl (row_total.congr (see z.0).1 (see y).1 x.1 s.0 ∙ w))
          ]

  -- ---- the numbers of a row, one after the other

  given_more : (x : Stood) (rows : List A) (old new : List Stood) → ((z : Stood) → Among z old → Among z new) → (p : ℤ) → IsGiven see x rows old p → IsGiven see x rows new p
  given_more x rows old new kept p h = (h.0, kept h.0 h.1, h.2, h.3)

  -- as far as numbers that are covered
  pub cut_covered : (x : Stood) (rows : List A) (from to : ℤ) (old new : List Stood) → AreCutTo see x rows from old new → ((p : ℤ) → HasNumber x.2 p → from ≤ℤ p → p <ℤ to → Covers see rows x.1 p) → AreCutTo see x rows to old new
  cut_covered x rows from to old new are covered = record {
    kept = are.kept;
    from = are.from;
    all = λ p h l f. by_lt_z p from (λ m. are.all p h m f) (λ m. absurd (f (covered p h m l)));
  }

  -- and those that no row covers
  pub cut_free : (x : Stood) (rows : List A) (from to : ℤ) (old parts new : List Stood) → AreCutTo see x rows from old parts → x.2.0 ≤ℤ from → to ≤ℤ (x.2.1 +ℤ pos 1)
      → ((p : ℤ) → HasNumber x.2 p → from ≤ℤ p → p <ℤ to → Covers see rows x.1 p → ⊥) → IsCut x from to parts new → AreCutTo see x rows (int_max from to) old new
  cut_free x rows from to old parts new are begin end free cut = by_lt_z from to
      (λ l.
      let is : new ≡ parts ++ part x from to ∷ [] = cut.0 l in
      let rest : IsRest see x rows (part x from to) = record {
        row = refl;
        ordered = omega (arith, ints);
        free = λ p h.
            let a = h.0 in
            let b = h.1 in
            let inside : HasNumber x.2 p = (omega (arith, ints), omega (arith, ints)) in
            (inside, free p inside a (omega (arith, ints)));
      } in
      let more : (z : Stood) → Among z parts → Among z new = λ z m. subst (Among z) (sym is) ((among_append z parts (part x from to ∷ [])).1 (inl m)) in
      record {
        kept = λ z m. more z (are.kept z m);
        from = λ z m. elim ((among_append z parts (part x from to ∷ [])).0 (subst (Among z) is m)) [
          | inl v ↦ are.from z v
          | inr v ↦ elim v [ inl e ↦ inr (subst (IsRest see x rows) e rest) | inr n ↦ absurd n ]
        ];
        all = λ p h g f. by_lt_z p from
            (λ m. given_more x rows parts new more p (are.all p h m f))
            (λ m. (part x from to, subst (Among (part x from to)) (sym is) ((among_append (part x from to) parts (part x from to ∷ [])).1 (inr (inl refl))), rest, (m, omega (arith, ints, clamps))));
      })
      (λ l.
      let is : new ≡ parts = cut.1 l in
      let same : int_max from to ≡ from = omega (arith, ints, clamps) in
      subst (λ n. AreCutTo see x rows n old new) (sym same) (subst (λ (zs : List Stood). AreCutTo see x rows from old zs) (sym is) are))

  -- one more of the rows that meet x
  pub turn : (x : Stood) (rows : List A) → Ascend see rows → (first end j : ℕ) → AreMeeting see x rows first end → first ≤ j → j < end → (y : A) → IsRow rows j y
      → (from : ℤ) (old parts new : List Stood) → AreCutTo see x rows from old parts → x.2.0 ≤ℤ from
      → ((p : ℤ) (i : ℕ) (z : A) → IsRow rows i z → first ≤ i → i < j → HasNumber (see z).2 p → p <ℤ from) → IsCut x from (see y).2.0 parts new
      → AreCutTo see x rows (int_max from ((see y).2.1 +ℤ pos 1)) old new
  turn x rows up first end j are l m y a from old parts new before begin known cut =
      let w = are.inside j y a l m in
      let starts = w.1 in
      let free : (p : ℤ) → HasNumber x.2 p → from ≤ℤ p → p <ℤ (see y).2.0 → Covers see rows x.1 p → ⊥ = λ p h u v c.
      let i = among_row rows c.0 c.1 in
      let inside = are.all i.0 c.0 p i.1 c.2 c.3 h in
      elim (cases_lt i.0 j) [
        | inl k ↦ let n = known p i.0 c.0 i.1 inside.0 k c.3 in omega (arith, ints)
        | inr k ↦ elim (up j i.0 y c.0 k a i.1) [
          | inl s ↦ not_less (see y).1 (see c.0).1 (w.0 ∙ sym c.2) s
          | inr s ↦ let n = s.1 in let o = (c.3).0 in omega (arith, ints)
        ]
      ] in
      let so_far = cut_free x rows from (see y).2.0 old parts new before begin (omega (arith, ints)) free cut in
      cut_covered x rows (int_max from (see y).2.0) (int_max from ((see y).2.1 +ℤ pos 1)) old new so_far (λ p h u v.
      let b : (see y).2.0 ≤ℤ p = omega (arith, ints, clamps) in
      let c : from ≤ℤ p = omega (arith, ints, clamps) in
      let d : p ≤ℤ (see y).2.1 = omega (arith, ints, clamps) in
      (y, row_among rows j y a, w.0, (b, d)))

  pub known_more : (rows : List A) (first j : ℕ) (y : A) → IsRow rows j y → (from : ℤ) → ((p : ℤ) (i : ℕ) (z : A) → IsRow rows i z → first ≤ i → i < j → HasNumber (see z).2 p → p <ℤ from)
      → (p : ℤ) (i : ℕ) (z : A) → IsRow rows i z → first ≤ i → i < j + 1 → HasNumber (see z).2 p → p <ℤ int_max from ((see y).2.1 +ℤ pos 1)
  known_more rows first j y a from known p i z b l m h = elim (cases_lt i j) [
    | inl k ↦ let n = known p i z b l k h in omega (arith, ints, clamps)
    | inr k ↦
        let same : i ≡ j = omega arith in
        let is : z ≡ y = one_row rows j z y (subst (λ n. IsRow rows n z) same b) a in
        let n = (subst (λ q. HasNumber (see q).2 p) is h).1 in
        omega (arith, ints, clamps)
  ]

  -- what is behind all of them
  pub last_turn : (x : Stood) (rows : List A) (first end j : ℕ) → AreMeeting see x rows first end → end ≤ j
      → (from : ℤ) (old parts new : List Stood) → AreCutTo see x rows from old parts → x.2.0 ≤ℤ from
      → ((p : ℤ) (i : ℕ) (z : A) → IsRow rows i z → first ≤ i → i < j → HasNumber (see z).2 p → p <ℤ from) → IsCut x from (x.2.1 +ℤ pos 1) parts new
      → AreCutTo see x rows (x.2.1 +ℤ pos 1) old new
  last_turn x rows first end j are l from old parts new before begin known cut =
      let all = cut_free x rows from (x.2.1 +ℤ pos 1) old parts new before begin (omega (arith, ints)) (λ p h u v c.
      let i = among_row rows c.0 c.1 in
      let inside = are.all i.0 c.0 p i.1 c.2 c.3 h in
      let below = inside.1 in
      let n = known p i.0 c.0 i.1 inside.0 (omega arith) c.3 in
      omega (arith, ints)) cut in
      cut_covered x rows (int_max from (x.2.1 +ℤ pos 1)) (x.2.1 +ℤ pos 1) old new all (λ p h u v. absurd (omega (arith, ints, clamps)))

  -- ---- all rows

  pub rests_more : (lefts rights : List A) (i : ℕ) (x : A) → IsRow lefts i x → (old new : List Stood) → AreRests see lefts rights i old → AreCutTo see (see x) rights ((see x).2.1 +ℤ pos 1) old new → AreRests see lefts rights (i + 1) new
  rests_more lefts rights i x a old new before cut = record {
    from = λ z m. elim (cut.from z m) [ inl w ↦ before.from z w | inr w ↦ (i, x, a, w) ];
    all = λ j y p l b h f. elim (cases_lt j i) [
      | inl k ↦ given_more (see y) rights old new cut.kept p (before.all j y p k b h f)
      | inr k ↦
          let same : j ≡ i = omega arith in
          let is : y ≡ x = one_row lefts i y x (subst (λ n. IsRow lefts n y) same b) a in
          let g : (Covers see rights (see x).1 p → ⊥) = subst (λ q. Covers see rights (see q).1 p → ⊥) is f in
          let n = subst (λ q. HasNumber (see q).2 p) is h in
          let u = n.1 in
          subst (λ q. IsGiven see (see q) rights new p) (sym is) (cut.all p n (omega (arith, ints)) g)
    ];
  }
